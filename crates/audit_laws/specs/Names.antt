-- The names of traces: which actors and destinations they are.
use Rattle.std.specs.Prelude.{ℕ, ◌==◌, Bool, true, false, nat_lt, Option, Some, None, option_map, if◌then◌else◌}
use Rattle.nop_types.specs.Configuration.{Configuration}
pub use Rattle.nop_types.specs.Actors.{same_actor}
use Rattle.nop_types.specs.declared.output.Actor.{Actor}
use Rattle.nop_types.specs.declared.output.Actor.TheVariants.{Replica, Sequencer, Client, Controller, Observer}
use Rattle.nop_types.specs.declared.output.Dest.{Dest}
use Rattle.nop_types.specs.declared.output.Dest.TheVariants as dests
use Rattle.trace_rows.specs.declared.row.Name.{Name}
use Rattle.trace_rows.specs.declared.row.Name.TheVariants as names
use Rattle.trace_rows.specs.declared.row.Number.{Number}
use Rattle.trace_rows.specs.declared.row.Number.TheVariants.{Is, Past}
use Rattle.trace_rows.specs.declared.row.To.{To}
use Rattle.trace_rows.specs.declared.row.To.TheVariants as tos

-- a number below a limit
abbrev pub number_within : ℕ → Number → Option ℕ
number_within limit Past = None
number_within limit (Is i) = if nat_lt i limit then Some i else None

-- the actor of this configuration with this name
abbrev pub actor_in : Configuration → Name → Option Actor
actor_in c (names.Replica n) = option_map Replica (number_within c.replicas n)
actor_in c (names.Sequencer n) = option_map Sequencer (number_within c.sequencers n)
actor_in c (names.Client n) = option_map Client (number_within c.clients n)
actor_in c (names.Controller k) = if nat_lt k c.controllers then Some (Controller k) else None
actor_in c (names.Observer n) = option_map Observer (number_within c.observers n)

-- a number past 64 bits is nobody's
abbrev pub is_number : Number → ℕ → Bool
is_number Past j = false
is_number (Is i) j = i == j

-- whether the name is this actor's
abbrev pub names_actor : Name → Actor → Bool
names_actor (names.Replica n) (Replica i) = is_number n i
names_actor (names.Sequencer n) (Sequencer i) = is_number n i
names_actor (names.Client n) (Client i) = is_number n i
names_actor (names.Controller k) (Controller i) = k == i
names_actor (names.Observer n) (Observer i) = is_number n i
names_actor name a = false

-- whether it is this destination's
abbrev pub names_dest : To → Dest → Bool
names_dest tos.Replicas dests.Replicas = true
names_dest tos.Sequencers dests.Sequencers = true
names_dest (tos.One name) (dests.One a) = names_actor name a
names_dest to dest = false
