-- Members of a list that was mapped.
use Rattle.std.proofs.Common.{◌≡◌, ℕ, zero, suc, List, [], ◌∷◌, Some, map, refl}
use Rattle.std.specs.Prelude.{slice_get}

-- a member of a list that was mapped
pub record IsMapped {A B : Type 0} (f : A → B) (xs : List A) (i : ℕ) (y : B) : Type 0 where
  pub from : A
  pub at : slice_get xs i ≡ Some from
  pub gives : f from ≡ y

pub mapped_at : {A B : Type 0} (f : A → B) (xs : List A) (i : ℕ) (y : B) → slice_get (map f xs) i ≡ Some y → IsMapped f xs i y
mapped_at f [] i y h = absurd cc
mapped_at f (x ∷ xs) zero y h = record { from = x; at = refl; gives = cc }
mapped_at f (x ∷ xs) (suc i) y h = let m = mapped_at f xs i y h in record { from = m.from; at = m.at; gives = m.gives }
