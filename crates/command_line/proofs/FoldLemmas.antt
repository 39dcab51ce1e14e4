-- A fold as far as a loop has come.
use Rattle.std.proofs.Common.{◌≡◌, ℕ, ◌+◌, ◌<◌, ◌≤◌, List, [], ◌∷◌, length, drop, get_or, refl, ap, ◌∙◌, zero, suc, arith}
use Rattle.std.specs.List.{fold}

module _ {A X : Type 0} (f : A → X → A) where
  step : (a : A) (xs : List X) (i : ℕ) (d : X) → i < length xs → fold f (f a (get_or xs i d)) (drop (i + 1) xs) ≡ fold f a (drop i xs)
  step a [] i d lt = absurd (omega (arith, lt))
  step a (x ∷ xs) zero d lt = refl
  step a (x ∷ xs) (suc i) d lt =
      let e : suc i + 1 ≡ suc (i + 1) = omega arith in
      rw e (step a xs i d (omega (arith, lt)))

  pub fold_next : (a b : A) (xs : List X) (i : ℕ) (d : X) → i < length xs → b ≡ f a (get_or xs i d)
      → fold f b (drop (i + 1) xs) ≡ fold f a (drop i xs)
  fold_next a b xs i d lt is = ap (λ e. fold f e (drop (i + 1) xs)) is ∙ step a xs i d lt

  pub fold_done : (a : A) (xs : List X) (i : ℕ) → length xs ≤ i → fold f a (drop i xs) ≡ a
  fold_done a [] zero le = refl
  fold_done a [] (suc i) le = refl
  fold_done a (x ∷ xs) zero le = absurd (omega (arith, le))
  fold_done a (x ∷ xs) (suc i) le = fold_done a xs i (omega (arith, le))
