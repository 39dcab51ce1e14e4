-- The move `repeat_commit`.
use Rattle.std.proofs.Common.{refl, ℕ, ◌+◌, ◌*◌, ◌<◌}
use Rattle.std.specs.Prelude.{◌==◌}
use Rattle.nop_types.specs.Meaning.{Meaning}
use Rattle.protocol.specs.Conf.{Conf, after}
use Rattle.protocol.specs.Invariant.{Own, Inv}
use Rattle.protocol.specs.LocalState.{LocalState, max_faults}
use Rattle.protocol.specs.Moves.{say_all, repeat_commit}
use Rattle.protocol.specs.Said.{SyncCommit}
use Rattle.protocol.proofs.Growing.{Kept}
use Rattle.protocol.proofs.Saying.{said_unless, speaks}
use Rattle.protocol.proofs.Spoken.{unless_spoken}

module _ {S : Type 0} (m : Meaning S) (f : ℕ) (c : Conf) (r : ℕ) (inv : Inv m f c) (within : r < 2 * f + 1) where
  abbrev p : LocalState
  p = c.replicas r

  own : Own f c r p
  own = inv.own r within

  pub repeat_commit_keeps : Kept m f c (after f c r (repeat_commit p))
  repeat_commit_keeps = speaks m f c r inv within p.sync (say_all p (SyncCommit p.sync.sync_point)) (λ n. refl)
      (unless_spoken (max_faults p == 0) p (SyncCommit p.sync.sync_point))
      (λ d ev had. said_unless f d p (SyncCommit p.sync.sync_point) tt (max_faults p == 0))
