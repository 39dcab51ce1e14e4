-- Which actor a greeting speaks of, and which nodes are asked.
use Rattle.std.specs.Prelude.{ℕ, Bool, true, false, not, ◌%◌, ◌==◌, ◌&&◌, if◌then◌else◌, Option, Some, None}
pub use Rattle.nop_types.specs.Actors.{number_of, same_actor}
use Rattle.nop_types.specs.declared.output.Actor.{Actor}
use Rattle.nop_types.specs.declared.output.Actor.TheVariants.{Replica, Sequencer, Client, Controller, Observer}

abbrev pub is_client : Actor → Bool
is_client (Client i) = true
is_client _ = false

abbrev pub is_replica : Actor → Bool
is_replica (Replica i) = true
is_replica _ = false

abbrev pub is_observer : Actor → Bool
is_observer (Observer i) = true
is_observer _ = false

-- the actor that a greeting with this number speaks of, from the address of `source`: a node is itself; a place of clients is that of
-- each client with its remainder by 16
abbrev pub actor_named : Actor → ℕ → Option Actor
actor_named (Client place) number = if number % 16 == place then Some (Client number) else None
actor_named source number = if number == number_of source then Some source else None

-- each node but the own one is asked
abbrev pub is_asked : Actor → Actor → Bool
is_asked own other = not (is_client other) && not (same_actor own other)

-- whose answers count: for a replica those of all other replicas, sequencers and controllers, for any other actor those of replicas
abbrev pub counts : Actor → Actor → Bool
counts own other = if is_replica own then not (is_observer other) else is_replica other
