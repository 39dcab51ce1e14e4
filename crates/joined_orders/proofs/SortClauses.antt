-- What a stable sort by lines ensures.
use Rattle.std.proofs.Common.{◌≡◌, ℕ, Bool, true, false, List, [], ◌∷◌, not, refl, sym, ap, ◌∙◌, arith}
use Rattle.std.specs.Prelude.{◌==◌, ◌&&◌, nat_lt, filter}
use Rattle.std.specs.List.Sorted.{IsNonDecreasingBy, IsStableByKey}
use Rattle.std.specs.Ordering.{is_lt, nat_cmp}
use Rattle.std.proofs.lemmas.Bool.{eq-eqb, eqb-true, ltb-true}
use Rattle.std.proofs.lemmas.Map.Keys.{ge_from_not_lt}
use Rattle.std.proofs.lemmas.Option.{get_or_from_slice_get, slice_get_within}
use Rattle.joined_orders.specs.Joining.{IsSortedOf, same_line}
use Rattle.order_search.specs.declared.outcome.Placed.{Placed}

filter_alike : {A : Type 0} (p q : A → Bool) → ((x : A) → p x ≡ q x) → (xs : List A) → filter p xs ≡ filter q xs
filter_alike p q same [] = refl
filter_alike p q same (x ∷ xs) = rw (same x, filter_alike p q same xs) refl

abbrev tied : ℕ → ℕ → Bool
tied a b = not (is_lt (nat_cmp a b)) && not (is_lt (nat_cmp b a))

tied_same : (a b : ℕ) → tied a b ≡ true → a ≡ b
tied_same a b = here (is_lt (nat_cmp a b)) refl (is_lt (nat_cmp b a)) refl
  where
    here : (s : Bool) → is_lt (nat_cmp a b) ≡ s → (t : Bool) → is_lt (nat_cmp b a) ≡ t → (not s && not t) ≡ true → a ≡ b
    here true e t f h = absurd cc
    here false e true f h = absurd cc
    here false e false f h = let x = ge_from_not_lt a b e in let y = ge_from_not_lt b a f in omega (arith, x, y)

same_tied : (a : ℕ) → tied a a ≡ true
same_tied a = here (nat_lt a a) refl
  where
    here : (s : Bool) → nat_lt a a ≡ s → tied a a ≡ true
    here true e = absurd (let l = ltb-true a a e in omega (arith, l))
    here false e = let f = eq-eqb a a refl in rw (e, f) refl

tied_is : (a b : ℕ) → tied a b ≡ (a == b)
tied_is a b = here (tied a b) refl (a == b) refl
  where
    here : (s : Bool) → tied a b ≡ s → (t : Bool) → (a == b) ≡ t → s ≡ t
    here true e true f = refl
    here false e false f = refl
    here true e false f = absurd (let g = eq-eqb a b (tied_same a b e) in let x : true ≡ false = sym g ∙ f in cc)
    here false e true f =
        let g = eqb-true a b f in
        absurd (let h = ap (λ (t : ℕ). tied a t) (sym g) ∙ same_tied a in let x : false ≡ true = sym e ∙ h in cc)

pub sorted_of : (xs ys : List Placed) → IsNonDecreasingBy (λ (p : Placed). p.line) ys
    → IsStableByKey (λ (p : Placed). p.line) nat_cmp xs ys → IsSortedOf xs ys
sorted_of xs ys up stable = record {
  rise = λ i j x y near g h.
      let u = up i j x near (slice_get_within ys j y h) in
      let e = get_or_from_slice_get ys i x x g in
      let f = get_or_from_slice_get ys j y x h in
      omega (arith, u, ap (λ (p : Placed). p.line) e, ap (λ (p : Placed). p.line) f);
  stable = λ x.
      let same = λ (y : Placed). sym (tied_is x.line y.line) in
      filter_alike (same_line x) (λ (y : Placed). tied x.line y.line) same ys ∙ stable x
      ∙ sym (filter_alike (same_line x) (λ (y : Placed). tied x.line y.line) same xs);
}
