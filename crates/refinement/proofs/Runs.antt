-- One list of moves after the other.
use Rattle.std.proofs.Common.{◌≡◌, ℕ, refl, List, [], ◌∷◌, ◌++◌}
use Rattle.nop_types.specs.Meaning.{Meaning}
use Rattle.protocol.specs.Conf.{Conf}
use Rattle.protocol.specs.Runs.{Move, happens, run, MayAll}

module _ {S : Type 0} (m : Meaning S) (f : ℕ) where
  pub run-append : (c : Conf) (xs ys : List Move) → run m f c (xs ++ ys) ≡ run m f (run m f c xs) ys
  run-append c [] ys = refl
  run-append c (x ∷ xs) ys = run-append (happens m f c x) xs ys

  pub may_all-append : (c : Conf) (xs ys : List Move) → MayAll m f c xs → MayAll m f (run m f c xs) ys → MayAll m f c (xs ++ ys)
  may_all-append c [] ys h g = g
  may_all-append c (x ∷ xs) ys (h, hs) g = (h, may_all-append (happens m f c x) xs ys hs g)
