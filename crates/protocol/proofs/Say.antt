-- The move by which a true word is said again.
use Rattle.std.proofs.Common.{refl, ℕ, ◌+◌, ◌*◌, ◌<◌, false}
use Rattle.nop_types.specs.Meaning.{Meaning}
use Rattle.protocol.specs.Conf.{Conf, after}
use Rattle.protocol.specs.Invariant.{Own, Inv}
use Rattle.protocol.specs.LocalState.{LocalState}
use Rattle.protocol.specs.Moves.{say, say_again, MaySay}
use Rattle.protocol.specs.Said.{Word}
use Rattle.protocol.proofs.Growing.{Kept}
use Rattle.protocol.proofs.Stays.{word_lasts}
use Rattle.protocol.proofs.Saying.{said_unless, true_again, speaks}
use Rattle.protocol.proofs.Spoken.{one_spoken}

module _ {S : Type 0} (m : Meaning S) (f : ℕ) (c : Conf) (r : ℕ) (inv : Inv m f c) (within : r < 2 * f + 1) where
  abbrev p : LocalState
  p = c.replicas r

  own : Own f c r p
  own = inv.own r within

  pub say_keeps : (x : Word) → MaySay f c p x → Kept m f c (after f c r (say_again p x))
  say_keeps x may = speaks m f c r inv within p.sync (say p x) (λ n. refl) (one_spoken p x)
      (λ d ev had. said_unless f d p x (word_lasts m f c d ev p.number p.view x (true_again f c p.number p.view x may.true)) false)
