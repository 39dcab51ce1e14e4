-- The move `count_sync_vote`.
use Rattle.std.proofs.Common.{◌≡◌, ℕ, ◌+◌, ◌*◌, ◌<◌}
use Rattle.std.specs.Prelude.{◌==◌}
use Rattle.nop_types.specs.declared.replica_state.Phase.TheVariants.{Normal}
use Rattle.nop_types.specs.declared.replica_state.Vote.{Vote}
use Rattle.nop_types.specs.declared.replica_state.Vote.TheVariants.{Settled, Waiting}
use Rattle.nop_types.specs.Lists.{Has}
use Rattle.nop_types.specs.Meaning.{Meaning}
use Rattle.lemmas.proofs.Members.{Has-none}
use Rattle.protocol.specs.Conf.{Conf, after}
use Rattle.protocol.specs.Invariant.{Own, Inv}
use Rattle.protocol.specs.LocalState.{LocalState, max_faults}
use Rattle.protocol.specs.Moves.{commit_if, count_sync_vote}
use Rattle.protocol.specs.Said.{Said, SyncCommit}
use Rattle.protocol.specs.Truth.{TrueWord}
use Rattle.protocol.proofs.Growing.{Kept}
use Rattle.protocol.proofs.Saying.{said_unless, speaks, not_both}
use Rattle.protocol.proofs.Spoken.{IsSpokenIn, none_spoken, unless_spoken}

module _ {S : Type 0} (m : Meaning S) (f : ℕ) (c : Conf) (r : ℕ) (inv : Inv m f c) (within : r < 2 * f + 1) where
  abbrev p : LocalState
  p = c.replicas r

  own : Own f c r p
  own = inv.own r within

  commits : (d : Conf) (k : ℕ) (v : Vote) (y : Said) → Has (commit_if p k v) y → TrueWord f d y.sender y.view y.word
  commits d k Settled y i = said_unless f d p (SyncCommit k) tt (max_faults p == 0) y i
  commits d k Waiting y i = absurd (Has-none y i)

  spoken : (k : ℕ) (v : Vote) → IsSpokenIn p.view (commit_if p k v)
  spoken k Settled = unless_spoken (max_faults p == 0) p (SyncCommit k)
  spoken k Waiting = none_spoken p.view

  pub count_sync_vote_keeps : (q k : ℕ) → p.status ≡ Normal → Kept m f c (after f c r (count_sync_vote p q k))
  count_sync_vote_keeps q k normal = speaks m f c r inv within (count_sync_vote p q k).state.sync (count_sync_vote p q k).said
      (λ n. absurd (not_both normal n)) (spoken k _)
      (λ d ev had. commits d k _)
