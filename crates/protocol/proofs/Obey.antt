-- The move `obey`.
use Rattle.std.proofs.Common.{◌≡◌, ℕ, ◌+◌, ◌*◌, ◌<◌, []}
use Rattle.nop_types.specs.declared.replica_state.Phase.TheVariants.{Normal}
use Rattle.nop_types.specs.Meaning.{Meaning}
use Rattle.lemmas.proofs.Members.{Has-none}
use Rattle.protocol.specs.Conf.{Conf, after}
use Rattle.protocol.specs.Invariant.{Own, Inv}
use Rattle.protocol.specs.LocalState.{LocalState}
use Rattle.protocol.specs.Moves.{obey}
use Rattle.protocol.proofs.Growing.{Kept}
use Rattle.protocol.proofs.Saying.{speaks, not_both}
use Rattle.protocol.proofs.Spoken.{none_spoken}

module _ {S : Type 0} (m : Meaning S) (f : ℕ) (c : Conf) (r : ℕ) (inv : Inv m f c) (within : r < 2 * f + 1) where
  abbrev p : LocalState
  p = c.replicas r

  own : Own f c r p
  own = inv.own r within

  pub obey_keeps : (k : ℕ) → p.status ≡ Normal → Kept m f c (after f c r (obey p k))
  obey_keeps k normal = speaks m f c r inv within (obey p k).state.sync [] (λ n. absurd (not_both normal n))
      (none_spoken p.view)
      (λ d ev had y i. absurd (Has-none y i))
