-- The worlds that a run of the whole world passes, and what each replica had in each view.
use Rattle.std.specs.Prelude.{◌/◌, ℕ, suc, List, [], ◌∷◌}
use Rattle.nop_types.specs.Configuration.{Configuration}
use Rattle.nop_types.specs.Meaning.{Meaning}
use Rattle.nop_types.specs.declared.output.Actor.{Actor}
use Rattle.started_views.specs.Past.{Past, Standing, first_past, note}
use Rattle.protocol.specs.LocalState as member
use Rattle.world.specs.Seats.{Seated}
use Rattle.refinement.specs.Projection.{local_state_of}
use Rattle.whole_world.specs.Whole.{WholeReplica, WholeWorld, Brings, whole_step, opening}

-- what is noted of a replica
abbrev pub standing : Seated WholeReplica → Standing
standing p = member.standing (local_state_of p.state.state)

-- the last world, and the past
pub record Passed : Type 0 where
  pub world : WholeWorld
  pub past : Past

-- f, where there are 2 f + 1 replicas
abbrev pub faults : WholeWorld → ℕ
faults w = w.config.replicas / 2

-- each replica from the number i on, before an event and after it
abbrev pub noted : ℕ → Past → ℕ → List (Seated WholeReplica) → List (Seated WholeReplica) → Past
noted f past i [] new = past
noted f past i (a ∷ old) [] = past
noted f past i (a ∷ old) (b ∷ new) = noted f (note f past i (standing a) (standing b)) (suc i) old new

abbrev pub passes : Passed → WholeWorld → Passed
passes p w = record { world = w; past = noted (faults p.world) p.past 0 p.world.replicas w.replicas }

abbrev pub passed_from : {S : Type 0} → Meaning S → Passed → List (Actor × Brings) → Passed
passed_from m p [] = p
passed_from m p (e ∷ es) = passed_from m (passes p (whole_step m p.world e.0 e.1)) es

abbrev pub first : Configuration → Passed
first config = record { world = opening config; past = first_past }

-- what a list of events passes
abbrev pub passed : {S : Type 0} → Meaning S → Configuration → List (Actor × Brings) → Passed
passed m config es = passed_from m (first config) es
