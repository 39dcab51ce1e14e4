-- At whose place a watch over a list of hosts listens.
use Rattle.std.specs.Prelude.{ℕ, List, Option, Some, None}
use Rattle.std.specs.declared.net.socket_addr.SocketAddr.{SocketAddr}
use Rattle.nop_types.specs.declared.output.Actor.{Actor}
use Rattle.nop_types.specs.declared.output.Actor.TheVariants.{Observer}
use Rattle.host_list.specs.Lists.{address_with}
use Rattle.host_list.specs.declared.list.HostList.{HostList}
use Rattle.line_fields.specs.Fields.{actor_of}

abbrev pub if_placed : ℕ → Option SocketAddr → Option Actor
if_placed i None = None
if_placed i (Some address) = Some (Observer i)

abbrev pub if_observer : HostList → Option Actor → Option Actor
if_observer list (Some (Observer i)) = if_placed i (address_with list (Observer i))
if_observer list actor = None

-- the observer with this name, if the list has an address for it
abbrev pub observer_in : HostList → List ℕ → Option Actor
observer_in list name = if_observer list (actor_of list.config name)
