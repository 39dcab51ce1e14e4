-- The places of actors in a list: those that their ports have behind the base port.
use Rattle.std.specs.Prelude.{ℕ, ◌+◌, ◌-◌, ◌%◌, Bool, false, nat_lt, if◌then◌else◌, List, [], ◌∷◌, Option, Some, None, is_some, slice_range}
use Rattle.std.specs.Prelude.{count_by, option_and_then}
use Rattle.std.specs.List.{list_any, slice_index_or}
use Rattle.std.specs.declared.net.socket_addr.SocketAddr.{SocketAddr}
use Rattle.nop_types.specs.Configuration.{Configuration}
use Rattle.nop_types.specs.declared.limits.TheConstants.{MAX_REPLICAS, MAX_SEQUENCERS, MAX_CLIENTS, MAX_CONTROLLERS, MAX_OBSERVERS}
use Rattle.nop_types.specs.declared.output.Actor.{Actor}
use Rattle.nop_types.specs.declared.output.Actor.TheVariants.{Replica, Sequencer, Client, Controller, Observer}
use Rattle.line_fields.specs.Fields.{actor_of}
use Rattle.host_list.specs.Addresses.{same_address}

abbrev pub place_within : (first count number : ℕ) → Option ℕ
place_within first count number = if nat_lt number count then Some (first + number) else None

-- a client has the place of its remainder by 16
abbrev pub place_of : Actor → Option ℕ
place_of (Replica i) = place_within 0 MAX_REPLICAS i
place_of (Sequencer i) = place_within 8 MAX_SEQUENCERS i
place_of (Controller i) = place_within 12 MAX_CONTROLLERS i
place_of (Client i) = Some (16 + i % 16)
place_of (Observer i) = place_within 32 MAX_OBSERVERS i

-- the actor at a place, of a place of clients the least
abbrev pub actor_at : ℕ → Option Actor
actor_at place =
    if nat_lt place 7 then Some (Replica place)
    else if nat_lt place 8 then None
    else if nat_lt place 12 then Some (Sequencer (place - 8))
    else if nat_lt place 16 then Some (Controller (place - 12))
    else if nat_lt place 32 then Some (Client (place - 16))
    else if nat_lt place 36 then Some (Observer (place - 32))
    else None

-- as many actors as there may be
abbrev pub most : Configuration
most =
    record {
      replicas = MAX_REPLICAS;
      sequencers = MAX_SEQUENCERS;
      clients = MAX_CLIENTS;
      controllers = MAX_CONTROLLERS;
      observers = MAX_OBSERVERS;
    }

-- the place of the actor that has this name in schedules
abbrev pub named : List ℕ → Option ℕ
named word = option_and_then place_of (actor_of most word)

-- ---- the addresses by their places

abbrev pub Addresses : Type 0
Addresses = List (Option SocketAddr)

abbrev pub address_at : Addresses → ℕ → Option SocketAddr
address_at addresses place = slice_index_or addresses place None

abbrev pub is_address : SocketAddr → Option SocketAddr → Bool
is_address a None = false
is_address a (Some b) = same_address b a

-- whether an actor has this address
abbrev pub has_address : Addresses → SocketAddr → Bool
has_address addresses a = list_any (is_address a) addresses

-- ---- how many actors there are

-- one more than the greatest index of those that have an address, where the first `i` were counted before
abbrev pub reach_on : (so_far i : ℕ) → Addresses → ℕ
reach_on so_far i [] = so_far
reach_on so_far i (None ∷ xs) = reach_on so_far (i + 1) xs
reach_on so_far i (Some a ∷ xs) = reach_on (i + 1) (i + 1) xs

abbrev pub reach : Addresses → ℕ
reach xs = reach_on 0 0 xs

-- fewer have an address than there would be without a hole
abbrev pub has_hole : Addresses → Bool
has_hole xs = nat_lt (count_by is_some xs) (reach xs)

abbrev pub replicas_in : Addresses → Addresses
replicas_in xs = slice_range xs 0 8

abbrev pub sequencers_in : Addresses → Addresses
sequencers_in xs = slice_range xs 8 12

abbrev pub controllers_in : Addresses → Addresses
controllers_in xs = slice_range xs 12 16

abbrev pub clients_in : Addresses → Addresses
clients_in xs = slice_range xs 16 32

abbrev pub observers_in : Addresses → Addresses
observers_in xs = slice_range xs 32 36

-- of each kind one more than the greatest number
abbrev pub counts_of : Addresses → Configuration
counts_of xs =
    record {
      replicas = reach (replicas_in xs);
      sequencers = reach (sequencers_in xs);
      clients = reach (clients_in xs);
      controllers = reach (controllers_in xs);
      observers = reach (observers_in xs);
    }
