-- Reading elements one after the other, as a loop does.
use Rattle.std.proofs.Common.{◌≡◌, ℕ, suc, ◌-◌, ◌+◌, ◌≤◌, ◌<◌, List, [], ◌∷◌, ◌++◌, Option, Some, None, refl, sym, ap, ◌∙◌, append_assoc}
use Rattle.std.proofs.Common.{append-nil, arith}
use Rattle.std.specs.Prelude.{option_and_then}
use Rattle.saved_fields.specs.Lists.{elements_at}

-- with these elements before those that were read
abbrev pub with_front : {A : Type 0} → List A → Option (List A × List ℕ) → Option (List A × List ℕ)
with_front xs None = None
with_front xs (Some (ys, rest)) = Some (xs ++ ys, rest)

module _ {A : Type 0} (read : List ℕ → Option (A × List ℕ)) (count i : ℕ) (xs : List A) (bytes : List ℕ)
    (total : Option (List A × List ℕ)) (so_far : with_front xs (elements_at read (count - i) bytes) ≡ total) where
  one_more : i < count → count - i ≡ suc (count - (i + 1))
  one_more more = omega arith

  in_front : (x : A) (o : Option (List A × List ℕ))
      → with_front xs (option_and_then (λ ys. Some (x ∷ ys.0, ys.1)) o) ≡ with_front (xs ++ x ∷ []) o
  in_front x None = refl
  in_front x (Some (ys, rest)) = ap (λ (zs : List A). Some (zs, rest)) (sym (append_assoc xs (x ∷ []) ys))

  pub goes_on : (x : A) (rest : List ℕ) → i < count → Some (x, rest) ≡ read bytes
      → with_front (xs ++ x ∷ []) (elements_at read (count - (i + 1)) rest) ≡ total
  unfolding elements_at
  goes_on x rest more e =
      let one : with_front xs (elements_at read (count - i) bytes) ≡ with_front (xs ++ x ∷ []) (elements_at read (count - (i + 1)) rest) =
      rw (one_more more, sym e) (in_front x (elements_at read (count - (i + 1)) rest)) in
      sym one ∙ so_far

  pub stops : i < count → None ≡ read bytes → None ≡ total
  unfolding elements_at
  stops more e =
      let one : with_front xs (elements_at read (count - i) bytes) ≡ None = rw (one_more more, sym e) refl in
      sym one ∙ so_far

  pub ends : count ≤ i → Some (xs, bytes) ≡ total
  unfolding elements_at
  ends all =
      let none : count - i ≡ 0 = omega arith in
      let one : with_front xs (elements_at read (count - i) bytes) ≡ Some (xs, bytes) =
      rw none (ap (λ (zs : List A). Some (zs, bytes)) (append-nil xs)) in
      sym one ∙ so_far
