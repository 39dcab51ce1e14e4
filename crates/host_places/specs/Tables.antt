-- The table of places that a list of hosts gives.
use Rattle.std.specs.Prelude.{ℕ, zero, suc, List, [], ◌∷◌, ◌++◌, Option, Some, None}
use Rattle.nop_types.specs.declared.limits.TheConstants.{MAX_REPLICAS, MAX_SEQUENCERS, MAX_CLIENTS, MAX_CONTROLLERS, MAX_OBSERVERS}
use Rattle.nop_types.specs.declared.output.Actor.{Actor}
use Rattle.nop_types.specs.declared.output.Actor.TheVariants.{Replica, Sequencer, Client, Controller, Observer}
use Rattle.std.specs.declared.net.socket_addr.SocketAddr.{SocketAddr}
use Rattle.host_list.specs.Lists.{address_with}
use Rattle.host_list.specs.declared.list.HostList.{HostList}
use Rattle.udp_node.specs.Ports.{port_of}
use Rattle.udp_node.specs.declared.address.Address.{Address}
use Rattle.udp_ports.specs.declared.places.Place.{Place}
use Rattle.host_places.specs.declared.tables.TheConstants.{HOSTS_BASE}

-- an actor among those of the list
abbrev pub address_in : HostList → Actor → Address
address_in list actor = record { base = HOSTS_BASE; own = actor; config = list.config }

abbrev pub place_at : ℕ → Actor → Option SocketAddr → List Place
place_at base actor None = []
place_at base actor (Some address) = record { port = port_of base actor; actor = actor; address = address } ∷ []

-- the place of an actor, under the port that nodes send to, if the list has it
abbrev pub place_of : ℕ → HostList → Actor → List Place
place_of base list actor = place_at base actor (address_with list actor)

-- the places of the actors of a kind, with numbers below this one
abbrev pub places_below : ℕ → HostList → (ℕ → Actor) → ℕ → List Place
places_below base list kind zero = []
places_below base list kind (suc n) = places_below base list kind n ++ place_of base list (kind n)

-- the places of all actors of the list
abbrev pub places_of : ℕ → HostList → List Place
places_of base list =
    (((places_below base list Replica MAX_REPLICAS ++ places_below base list Sequencer MAX_SEQUENCERS)
    ++ places_below base list Controller MAX_CONTROLLERS)
    ++ places_below base list Client MAX_CLIENTS)
    ++ places_below base list Observer MAX_OBSERVERS
