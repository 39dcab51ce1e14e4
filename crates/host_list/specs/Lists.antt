-- What a list says of actors and addresses.
use Rattle.std.specs.Prelude.{◌≡◌, ℕ, List, Option, Ok, option_and_then, position}
use Rattle.std.specs.declared.net.socket_addr.SocketAddr.{SocketAddr}
use Rattle.nop_types.specs.declared.output.Actor.{Actor}
use Rattle.nop_types.specs.Lists.{Has}
use Rattle.host_list.specs.declared.entry.Entry.TheVariants.{Host}
use Rattle.host_list.specs.declared.list.HostList.{HostList}
use Rattle.host_list.specs.Places.{actor_at, address_at, is_address, place_of}
use Rattle.host_list.specs.Reading.{entry_of}

-- the address of an actor
abbrev pub address_with : HostList → Actor → Option SocketAddr
address_with l actor = option_and_then (address_at l.addresses) (place_of actor)

-- the actor with an address
abbrev pub actor_with : HostList → SocketAddr → Option Actor
actor_with l a = option_and_then actor_at (position (is_address a) l.addresses)

-- one of the lines says that the actor at this place has this address
pub record IsOnLine (lines : List (List ℕ)) (place : ℕ) (a : SocketAddr) : Type 0 where
  pub line : List ℕ
  pub has : Has lines line
  pub is : entry_of line ≡ Ok (Host place a)
