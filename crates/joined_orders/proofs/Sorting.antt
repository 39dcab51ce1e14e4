-- A stable sort by a key leaves those that pass a test as they are, where their keys do not fall.
use Rattle.std.proofs.Common.{◌≡◌, ℕ, suc, ◌≤◌, Bool, true, false, cond, List, [], ◌∷◌, Some, refl, sym, ap, subst, ◌∙◌, arith, inl, inr}
use Rattle.std.specs.Prelude.{slice_get, filter}
use Rattle.std.proofs.lemmas.Bool.{cases_lt}
use Rattle.lemmas.proofs.Ranks.{comes_from, rank_passes}
use Rattle.lemmas.proofs.Members.{Has-filter, Has-from_filter}
use Rattle.nop_types.specs.Lists.{Has}

-- the key does not fall along the list
abbrev pub Rises : {A : Type 0} → (A → ℕ) → List A → Type 0
Rises {A} key xs = (i j : ℕ) (x y : A) → i ≤ j → slice_get xs i ≡ Some x → slice_get xs j ≡ Some y → key x ≤ key y

pub filter-filter : {A : Type 0} (p q : A → Bool) (xs : List A) → filter p (filter q xs) ≡ filter q (filter p xs)
filter-filter p q [] = refl
filter-filter p q (x ∷ xs) = here (p x) refl (q x) refl (filter-filter p q xs)
  where
    here : (b : Bool) → p x ≡ b → (c : Bool) → q x ≡ c → filter p (filter q xs) ≡ filter q (filter p xs)
        → filter p (cond c (x ∷ filter q xs) (filter q xs)) ≡ filter q (cond b (x ∷ filter p xs) (filter p xs))
    here true e true f r = rw (e, f) (ap (λ t. x ∷ t) r)
    here true e false f r = rw f r
    here false e true f r = rw e r
    here false e false f r = r

pub Rises-filter : {A : Type 0} (key : A → ℕ) (p : A → Bool) (xs : List A) → Rises key xs → Rises key (filter p xs)
Rises-filter key p xs rises i j x y less at_i at_j =
    let a = comes_from p xs i x at_i in
    let b = comes_from p xs j y at_j in
    elim (cases_lt b.place a.place) [
      | inl back ↦ absurd (let r = rank_passes p xs b.place a.place y b.stands b.passes back in omega (arith, less, r, a.ranks, b.ranks))
      | inr near ↦ rises a.place b.place x y near a.stands b.stands
    ]

-- the test `ties` says whether two keys are the same
module _ {A : Type 0} (key : A → ℕ) (ties : A → A → Bool) (same_key : (x y : A) → ties x y ≡ true → key x ≡ key y)
    (ties_are : (x y : A) → key x ≡ key y → ties x y ≡ true) where
  abbrev TieAlike : List A → List A → Type 0
  TieAlike xs ys = (x : A) → filter (ties x) xs ≡ filter (ties x) ys

  -- the first of a list, and those that tie with it
  first_ties : (x y : A) (ys : List A) → key x ≡ key y → filter (ties x) (y ∷ ys) ≡ y ∷ filter (ties x) ys
  first_ties x y ys e = let t = ties_are x y e in rw t refl

  -- the first of one list is not above that of the other
  first_below : (x : A) (xs : List A) (y : A) (ys : List A) → Rises key (y ∷ ys) → TieAlike (x ∷ xs) (y ∷ ys) → key y ≤ key x
  first_below x xs y ys rises alike =
      let e = sym (alike x) ∙ first_ties x x xs refl in
      let h : Has (filter (ties x) (y ∷ ys)) x = (0, ap (λ (t : List A). slice_get t 0) e) in
      let g = Has-from_filter (ties x) x (y ∷ ys) h in
      rises 0 g.0.0 y x (omega arith) refl g.0.1

  rest_alike : (x : A) (xs ys : List A) → TieAlike (x ∷ xs) (x ∷ ys) → TieAlike xs ys
  rest_alike x xs ys alike z = here (ties z x) (alike z)
    where
      here : (b : Bool) → cond b (x ∷ filter (ties z) xs) (filter (ties z) xs) ≡ cond b (x ∷ filter (ties z) ys) (filter (ties z) ys)
          → filter (ties z) xs ≡ filter (ties z) ys
      here true e = cc
      here false e = e

  rest_rises : (x : A) (xs : List A) → Rises key (x ∷ xs) → Rises key xs
  rest_rises x xs rises i j a b less at_i at_j = rises (suc i) (suc j) a b (omega (arith, less)) at_i at_j

  -- two lists whose keys do not fall are one, where those with one key are the same
  same_by_ties : (xs ys : List A) → Rises key xs → Rises key ys → TieAlike xs ys → xs ≡ ys
  same_by_ties [] [] r s alike = refl
  same_by_ties [] (y ∷ ys) r s alike = absurd (let e = alike y ∙ first_ties y y ys refl in cc)
  same_by_ties (x ∷ xs) [] r s alike = absurd (let e = sym (alike x) ∙ first_ties x x xs refl in cc)
  same_by_ties (x ∷ xs) (y ∷ ys) r s alike =
      let below = first_below x xs y ys s alike in
      let above = first_below y ys x xs r (λ z. sym (alike z)) in
      let keys : key x ≡ key y = omega (arith, below, above) in
      let e = sym (first_ties x x xs refl) ∙ alike x ∙ first_ties x y ys keys in
      let one : x ≡ y = cc in
      let alike_x = subst (λ (t : A). TieAlike (x ∷ xs) (t ∷ ys)) (sym one) alike in
      let rest = same_by_ties xs ys (rest_rises x xs r) (rest_rises y ys s) (rest_alike x xs ys alike_x) in
      cc

  module _ (xs sorted : List A) (stable : TieAlike sorted xs) where
    -- what is sorted was there
    pub was_there : (x : A) → Has sorted x → Has xs x
    was_there x h =
        let kept = subst (λ (t : List A). Has t x) (stable x) (Has-filter (ties x) x sorted h (ties_are x x refl)) in
        (Has-from_filter (ties x) x xs kept).0

    pub stays : (p : A → Bool) → Rises key sorted → Rises key (filter p xs) → filter p sorted ≡ filter p xs
    stays p rises kept =
        same_by_ties (filter p sorted) (filter p xs) (Rises-filter key p sorted rises) kept
        (λ x. filter-filter (ties x) p sorted ∙ ap (λ (t : List A). filter p t) (stable x) ∙ filter-filter p (ties x) xs)
