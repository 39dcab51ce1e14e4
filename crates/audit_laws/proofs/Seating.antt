-- The seats of the actors of one kind, after some steps.
use Rattle.std.proofs.Common.{◌≡◌, ℕ, zero, suc, ◌<◌, Bool, true, false, cond, List, [], ◌∷◌, ◌++◌, map, length, Some, refl, sym, ap, subst, ◌∙◌}
use Rattle.std.proofs.Common.{arith, inl, inr}
use Rattle.std.specs.Prelude.{◌==◌, slice_get, slice_set}
use Rattle.std.proofs.lemmas.Bool.{cases_eq, cases_lt, eq-eqb, ne_eqb}
use Rattle.std.proofs.lemmas.List.{append-nil, length_push, map-append}
use Rattle.std.proofs.lemmas.Option.{slice_get_within}
use Rattle.nop_types.specs.Given.{Given}
use Rattle.nop_types.specs.declared.output.Actor.{Actor}
use Rattle.nop_types.specs.declared.output.Out.{Out}
use Rattle.lemmas.proofs.Places.{slice_get-append_left, slice_get-append_at, slice_get-set_here, slice_get-set_other}
use Rattle.world.specs.Seats.{Seated, seated}
use Rattle.world.specs.WorldSteps.{numbered_seats}
use Rattle.audit_laws.specs.Audits.{Step}
use Rattle.audit_laws.specs.Braids.{own}
use Rattle.audit_laws.specs.Names.{same_actor}
use Rattle.audit_laws.proofs.Taking.{given_of}

-- ---- a core over its inputs

abbrev pub after : {S : Type 0} → (S → Given → S × List Out) → S → List Given → S
after next s [] = s
after next s (g ∷ gs) = after next (next s g).0 gs

after-push : {S : Type 0} (next : S → Given → S × List Out) (s : S) (gs : List Given) (g : Given)
    → after next s (gs ++ g ∷ []) ≡ (next (after next s gs) g).0
after-push next s [] g = refl
after-push next s (x ∷ gs) g = after-push next (next s x).0 gs g

abbrev pub givens : List Step → List Given
givens xs = map (λ x. given_of x.taken) xs

-- ---- the steps of an actor

pub own-append : (a : Actor) (xs ys : List Step) → own a (xs ++ ys) ≡ own a xs ++ own a ys
own-append a [] ys = refl
own-append a (x ∷ xs) ys = on (same_actor x.actor a) (own-append a xs ys)
  where
    on : (b : Bool) → own a (xs ++ ys) ≡ own a xs ++ own a ys
        → cond b (x ∷ own a (xs ++ ys)) (own a (xs ++ ys)) ≡ cond b (x ∷ own a xs) (own a xs) ++ own a ys
    on true e = ap (λ (l : List Step). x ∷ l) e
    on false e = e

own_here : (a : Actor) (xs : List Step) (x : Step) → same_actor x.actor a ≡ true → own a (xs ++ x ∷ []) ≡ own a xs ++ x ∷ []
own_here a xs x e = own-append a xs (x ∷ []) ∙ ap (λ (b : Bool). own a xs ++ cond b (x ∷ []) []) e

own_other : (a : Actor) (xs : List Step) (x : Step) → same_actor x.actor a ≡ false → own a (xs ++ x ∷ []) ≡ own a xs
own_other a xs x e = own-append a xs (x ∷ []) ∙ ap (λ (b : Bool). own a xs ++ cond b (x ∷ []) []) e ∙ append-nil (own a xs)

-- where a step stands among an actor's own
pub record Found (a : Actor) (xs ps : List Step) (x : Step) : Type 0 where
  pub front : List Step
  pub rest : List Step
  pub split : xs ≡ front ++ x ∷ rest
  pub before : own a front ≡ ps

pub found : (a : Actor) (xs ps qs : List Step) (x : Step) → own a xs ≡ ps ++ x ∷ qs → Found a xs ps x
found a [] [] qs x e = absurd cc
found a [] (p ∷ ps) qs x e = absurd cc
found a (y ∷ xs) ps qs x e = on (same_actor y.actor a) refl ps e (λ front h. found a xs front qs x h)
  where
    later : (ps : List Step) → same_actor y.actor a ≡ false → Found a xs ps x → Found a (y ∷ xs) ps x
    later ps is f = record {
      front = y ∷ f.front;
      rest = f.rest;
      split = ap (λ (l : List Step). y ∷ l) f.split;
      before = ap (λ (b : Bool). cond b (y ∷ own a f.front) (own a f.front)) is ∙ f.before;
    }

    next : (ps : List Step) → same_actor y.actor a ≡ true → Found a xs ps x → Found a (y ∷ xs) (y ∷ ps) x
    next ps is f = record {
      front = y ∷ f.front;
      rest = f.rest;
      split = ap (λ (l : List Step). y ∷ l) f.split;
      before =
          ap (λ (b : Bool). cond b (y ∷ own a f.front) (own a f.front)) is ∙ ap (λ (l : List Step). y ∷ l) f.before;
    }

    on : (b : Bool) → same_actor y.actor a ≡ b → (ps : List Step) → cond b (y ∷ own a xs) (own a xs) ≡ ps ++ x ∷ qs
        → ((front : List Step) → own a xs ≡ front ++ x ∷ qs → Found a xs front x) → Found a (y ∷ xs) ps x
    on false is ps h more = later ps is (more ps h)
    on true is [] h more =
        let same : y ≡ x = cc in
        record { front = []; rest = xs; split = ap (λ (z : Step). z ∷ xs) same; before = refl }
    on true is (p ∷ ps) h more =
        let same : y ≡ p = cc in
        let others : own a xs ≡ ps ++ x ∷ qs = cc in
        subst (λ (z : Step). Found a (y ∷ xs) (z ∷ ps) x) same (next ps is (more ps others))

-- ---- all actors of a kind

module _ {S : Type 0} (next : S → Given → S × List Out) (make : ℕ → S) (kind : ℕ → Actor) where
  abbrev pub state_after : List Step → ℕ → S
  state_after front i = after next (make i) (givens (own (kind i) front))

  abbrev pub SeatsAre : ℕ → List Step → List (Seated S) → Type 0
  SeatsAre n front seats = (i : ℕ) → i < n → slice_get seats i ≡ Some (seated (state_after front i))

  pub others_stay : (n : ℕ) (front : List Step) (seats : List (Seated S)) (x : Step) → ((i : ℕ) → same_actor x.actor (kind i) ≡ false)
      → SeatsAre n front seats → SeatsAre n (front ++ x ∷ []) seats
  others_stay n front seats x other are i less =
      are i less ∙ ap (λ (xs : List Step). Some (seated (after next (make i) (givens xs)))) (sym (own_other (kind i) front x (other i)))

  state_here : (front : List Step) (x : Step) (i : ℕ) → same_actor x.actor (kind i) ≡ true
      → (next (state_after front i) (given_of x.taken)).0 ≡ state_after (front ++ x ∷ []) i
  state_here front x i same =
      sym (after-push next (make i) (givens (own (kind i) front)) (given_of x.taken))
      ∙ ap (after next (make i)) (sym (map-append (λ (y : Step). given_of y.taken) (own (kind i) front) (x ∷ [])))
      ∙ ap (λ (xs : List Step). after next (make i) (givens xs)) (sym (own_here (kind i) front x same))

  pub one_moves : (n : ℕ) (front : List Step) (seats : List (Seated S)) (x : Step) (i : ℕ)
      → ((j : ℕ) → same_actor x.actor (kind j) ≡ (i == j)) → i < n → SeatsAre n front seats
      → SeatsAre n (front ++ x ∷ []) (slice_set seats i (seated (next (state_after front i) (given_of x.taken)).0))
  one_moves n front seats x i tests here are j less = elim (cases_eq j i) [
    | inl same ↦
        let mine : same_actor x.actor (kind j) ≡ true = tests j ∙ eq-eqb i j (sym same) in
        let within : i < length seats = slice_get_within seats i _ (are i here) in
        let new : S = (next (state_after front i) (given_of x.taken)).0 in
        ap (slice_get (slice_set seats i (seated new))) same
        ∙ slice_get-set_here seats i (seated new) within
        ∙ ap (λ (k : ℕ). Some (seated (next (state_after front k) (given_of x.taken)).0)) (sym same)
        ∙ ap (λ (s : S). Some (seated s)) (state_here front x j mine)
    | inr apart ↦
        let other : same_actor x.actor (kind j) ≡ false = tests j ∙ ne_eqb i j (λ e. apart (sym e)) in
        slice_get-set_other seats i j (seated (next (state_after front i) (given_of x.taken)).0) apart
        ∙ are j less
        ∙ ap (λ (xs : List Step). Some (seated (after next (make j) (givens xs)))) (sym (own_other (kind j) front x other))
  ]

  length-counted : (n : ℕ) → length (numbered_seats make n) ≡ n
  length-counted zero = refl
  length-counted (suc n) =
      let l : length (numbered_seats make n) ≡ n = length-counted n in
      let e = length_push (numbered_seats make n) (seated (make n)) in
      omega (arith, l, e)

  pub opening_are : (n : ℕ) → SeatsAre n [] (numbered_seats make n)
  opening_are zero i less = absurd (omega (arith, less))
  opening_are (suc n) i less = elim (cases_lt i n) [
    | inl l ↦ slice_get-append_left (numbered_seats make n) (seated (make n) ∷ []) i (seated (make i)) (opening_are n i l)
    | inr more ↦
        let same : i ≡ n = omega (arith, less, more) in
        let at : length (numbered_seats make n) ≡ i = length-counted n ∙ sym same in
        ap (slice_get (numbered_seats make n ++ seated (make n) ∷ [])) (sym at)
        ∙ slice_get-append_at (numbered_seats make n) (seated (make n)) []
        ∙ ap (λ (k : ℕ). Some (seated (make k))) (sym same)
  ]
