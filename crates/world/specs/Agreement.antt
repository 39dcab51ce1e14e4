-- Replicas agree as far as they are synchronised.
use Rattle.std.specs.Prelude.{◌≡◌, ℕ, ◌≤◌, Some, slice_get, take}
use Rattle.nop_types.specs.Lists.{IsPrefixOf}
use Rattle.replica_core.specs.ReplicaSteps.{Replica}
use Rattle.world.specs.Archive.{with_archive}
use Rattle.world.specs.Seats.{Seated}
use Rattle.world.specs.WorldSteps.{WorldState, main_log, entry}

pub record Agreed (w : WorldState) : Type 0 where
  -- any two replicas, at each slot up to both of their sync points
  pub pairs : (i j slot : ℕ) (a b : Seated Replica) → slice_get w.replicas i ≡ Some a → slice_get w.replicas j ≡ Some b
      → slot ≤ a.state.state.sync.sync_point → slot ≤ b.state.state.sync.sync_point → entry w i slot ≡ entry w j slot
  -- and each with the log that the history is read from
  pub main : (i : ℕ) (a : Seated Replica) → slice_get w.replicas i ≡ Some a
      → IsPrefixOf (take a.state.state.sync.sync_point (with_archive w.archive a.state.state.log)) (main_log w)
