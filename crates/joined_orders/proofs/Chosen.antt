-- The places of the members that pass.
use Rattle.std.proofs.Common.{◌≡◌, ℕ, zero, suc, ◌+◌, ◌<◌, Bool, true, false, cond, List, [], ◌∷◌, ◌++◌, Option, Some, None, length, take, refl, sym, ap, subst, ◌∙◌, arith, inl, inr}
use Rattle.std.specs.Prelude.{slice_get, filter}
use Rattle.std.proofs.lemmas.Bool.{cases_lt}
use Rattle.std.proofs.lemmas.List.{append_assoc, length-append, take_all}
use Rattle.std.proofs.lemmas.List.Elements.{filter-append}
use Rattle.std.proofs.lemmas.Option.{slice_get_within}
use Rattle.lemmas.proofs.Ranks.{rank, passes_at, comes_from, rank_rises, one_rank}
use Rattle.joined_orders.specs.Owning.{passes, places_where, one_of, members_at}
use Rattle.lemmas.proofs.Places.{slice_get-some, slice_get-append_cases}

-- ---- the members at places

pub members-append : {A : Type 0} (xs : List A) (is js : List ℕ) → members_at xs (is ++ js) ≡ members_at xs is ++ members_at xs js
members-append xs [] js = refl
members-append xs (i ∷ is) js =
    ap (λ t. one_of (slice_get xs i) ++ t) (members-append xs is js)
    ∙ sym (append_assoc (one_of (slice_get xs i)) (members_at xs is) (members_at xs js))

take-suc : {A : Type 0} (xs : List A) (k : ℕ) → take (suc k) xs ≡ take k xs ++ one_of (slice_get xs k)
take-suc [] zero = refl
take-suc [] (suc k) = refl
take-suc (x ∷ xs) zero = refl
take-suc (x ∷ xs) (suc k) = ap (λ t. x ∷ t) (take-suc xs k)

module _ {A : Type 0} (p : A → Bool) where
  kept_at : (xs : List A) (k : ℕ) (o : Option A) → slice_get xs k ≡ o
      → members_at xs (cond (passes p o) (k ∷ []) []) ≡ filter p (one_of o)
  kept_at xs k None e = refl
  kept_at xs k (Some x) e = here (p x)
    where
      here : (b : Bool) → members_at xs (cond b (k ∷ []) []) ≡ cond b (x ∷ []) []
      here true = rw e refl
      here false = refl

  -- those at the places of the first k that pass are the first k, without those that fail
  kept_below : (xs : List A) (k : ℕ) → members_at xs (places_where p xs k) ≡ filter p (take k xs)
  kept_below xs zero = refl
  kept_below xs (suc k) =
      let o = slice_get xs k in
      members-append xs (places_where p xs k) (cond (passes p o) (k ∷ []) [])
      ∙ ap (λ (t : List A). t ++ members_at xs (cond (passes p o) (k ∷ []) [])) (kept_below xs k)
      ∙ ap (λ (t : List A). filter p (take k xs) ++ t) (kept_at xs k o refl)
      ∙ sym (filter-append p (take k xs) (one_of o))
      ∙ ap (λ (t : List A). filter p t) (sym (take-suc xs k))

  pub members_where : (xs : List A) → members_at xs (places_where p xs (length xs)) ≡ filter p xs
  members_where xs = kept_below xs (length xs) ∙ ap (λ (t : List A). filter p t) (take_all (length xs) xs (omega arith))

  -- ---- where they stand

  abbrev counts : Bool → ℕ
  counts true = 1
  counts false = 0

  rank-suc : (xs : List A) (k : ℕ) → rank p xs (suc k) ≡ rank p xs k + counts (passes p (slice_get xs k))
  rank-suc [] zero = refl
  rank-suc [] (suc k) = refl
  rank-suc (x ∷ xs) zero = here (p x)
    where
      here : (b : Bool) → cond b 1 0 ≡ 0 + counts b
      here true = refl
      here false = refl
  rank-suc (x ∷ xs) (suc k) = here (p x) (rank-suc xs k)
    where
      here : (b : Bool) → rank p xs (suc k) ≡ rank p xs k + counts (passes p (slice_get xs k))
          → cond b (suc (rank p xs (suc k))) (rank p xs (suc k))
          ≡ cond b (suc (rank p xs k)) (rank p xs k) + counts (passes p (slice_get xs k))
      here true e = omega (arith, e)
      here false e = e

  length-one : (k : ℕ) (b : Bool) → length (cond b (k ∷ []) []) ≡ counts b
  length-one k true = refl
  length-one k false = refl

  length-where : (xs : List A) (k : ℕ) → length (places_where p xs k) ≡ rank p xs k
  length-where xs zero = refl
  length-where xs (suc k) =
      let b = passes p (slice_get xs k) in
      length-append (places_where p xs k) (cond b (k ∷ []) [])
      ∙ (let e = length-where xs k in let f = length-one k b in let r = rank-suc xs k in omega (arith, e, f, r))

  length-kept : (xs : List A) → length (filter p xs) ≡ rank p xs (length xs)
  length-kept [] = refl
  length-kept (x ∷ xs) = here (p x) (length-kept xs)
    where
      here : (b : Bool) → length (filter p xs) ≡ rank p xs (length xs)
          → length (cond b (x ∷ filter p xs) (filter p xs)) ≡ cond b (suc (rank p xs (length xs))) (rank p xs (length xs))
      here true e = ap suc e
      here false e = e

  -- a place that is among them, with its rank
  pub record IsChosen (xs : List A) (k a i : ℕ) : Type 0 where
    pub member : A
    pub below : i < k
    pub stands : slice_get xs i ≡ Some member
    pub passes : p member ≡ true
    pub ranks : rank p xs i ≡ a

  last_chosen : (xs : List A) (k j i : ℕ) (o : Option A) → slice_get xs k ≡ o → slice_get (cond (passes p o) (k ∷ []) []) j ≡ Some i
      → IsChosen xs (suc k) (rank p xs k + j) i
  last_chosen xs k j i None e h = absurd cc
  last_chosen xs k j i (Some x) e h = here (p x) refl j h
    where
      here : (b : Bool) → p x ≡ b → (j : ℕ) → slice_get (cond b (k ∷ []) []) j ≡ Some i → IsChosen xs (suc k) (rank p xs k + j) i
      here false t j h = absurd cc
      here true t (suc j) h = absurd cc
      here true t zero h =
          let same : k ≡ i = cc in record {
            member = x;
            below = omega (arith, same);
            stands = ap (λ (t : ℕ). slice_get xs t) (sym same) ∙ e;
            passes = t;
            ranks = let r = ap (λ (t : ℕ). rank p xs t) same in omega (arith, r);
          }

  pub chosen_at : (xs : List A) (k a i : ℕ) → slice_get (places_where p xs k) a ≡ Some i → IsChosen xs k a i
  chosen_at xs zero a i h = absurd cc
  chosen_at xs (suc k) a i h =
      let places = places_where p xs k in
      elim (slice_get-append_cases places (cond (passes p (slice_get xs k)) (k ∷ []) []) a i h) [
        | inl l ↦
            let c = chosen_at xs k a i l.1 in
            record { member = c.member; below = let b = c.below in omega (arith, b); stands = c.stands; passes = c.passes; ranks = c.ranks }
        | inr r ↦
            let c = last_chosen xs k r.0 i (slice_get xs k) refl r.2 in
            let e : rank p xs k + r.0 ≡ a = let f = r.1 in let l = length-where xs k in omega (arith, f, l) in
            record { member = c.member; below = c.below; stands = c.stands; passes = c.passes; ranks = c.ranks ∙ e }
      ]

  module _ (xs : List A) where
    abbrev places : List ℕ
    places = places_where p xs (length xs)

    -- there are as many as are kept
    pub length-places : length places ≡ length (filter p xs)
    length-places = let e = length-where xs (length xs) in let f = length-kept xs in omega (arith, e, f)

    -- what stands at their places is what is kept
    pub chosen_is_kept : (a i : ℕ) (x : A) → slice_get places a ≡ Some i → slice_get xs i ≡ Some x → slice_get (filter p xs) a ≡ Some x
    chosen_is_kept a i x h g =
        let c = chosen_at xs (length xs) a i h in
        let same : c.member ≡ x = cc in
        subst (λ (t : ℕ). slice_get (filter p xs) t ≡ Some x) c.ranks
        (passes_at p xs i x g (subst (λ (t : A). p t ≡ true) same c.passes))

    -- each that is kept stands at one of them
    pub kept_is_chosen : (a : ℕ) (x : A) → slice_get (filter p xs) a ≡ Some x
        → (i : ℕ) × (slice_get places a ≡ Some i) × (slice_get xs i ≡ Some x) × (p x ≡ true)
    kept_is_chosen a x h =
        let l = slice_get_within (filter p xs) a x h in
        let e = length-kept xs in
        let f = length-where xs (length xs) in
        let i = slice_get-some places a (omega (arith, l, e, f)) in
        let c = chosen_at xs (length xs) a i.0 i.1 in
        let k = comes_from p xs a x h in
        let one = one_rank p xs i.0 k.place c.member x c.stands k.stands c.passes k.passes (c.ranks ∙ sym k.ranks) in
        (i.0, i.1, ap (λ (t : ℕ). slice_get xs t) one ∙ k.stands, k.passes)

    -- what is kept stands at its place
    pub kept_stands : (a i : ℕ) (x : A) → slice_get (filter p xs) a ≡ Some x → slice_get places a ≡ Some i → slice_get xs i ≡ Some x
    kept_stands a i x h g =
        let k = kept_is_chosen a x h in
        let same : k.0 ≡ i = let e = sym k.1 ∙ g in cc in
        subst (λ (t : ℕ). slice_get xs t ≡ Some x) same k.2

    -- a member that passes stands at one of them
    pub passing_is_chosen : (i : ℕ) (x : A) → slice_get xs i ≡ Some x → p x ≡ true → (a : ℕ) × (slice_get places a ≡ Some i)
    passing_is_chosen i x h t =
        let a = rank p xs i in
        let k = kept_is_chosen a x (passes_at p xs i x h t) in
        let c = chosen_at xs (length xs) a k.0 k.1 in
        let one = one_rank p xs k.0 i x x k.2 h k.3 t c.ranks in
        (a, subst (λ (t : ℕ). slice_get places a ≡ Some t) one k.1)

    -- they ascend
    pub chosen_rise : (a b i j : ℕ) → slice_get places a ≡ Some i → slice_get places b ≡ Some j → a < b → i < j
    chosen_rise a b i j g h less =
        let c = chosen_at xs (length xs) a i g in
        let d = chosen_at xs (length xs) b j h in
        elim (cases_lt i j) [
          | inl near ↦ near
          | inr back ↦ absurd (let r = rank_rises p xs j i back in let e = c.ranks in let f = d.ranks in omega (arith, less, r, e, f))
        ]
