-- Claims by parts, one more.
use Rattle.std.proofs.Common.{◌≡◌, ℕ, zero, suc, ◌+◌, ◌<◌, Bool, true, false, cond, List, [], ◌∷◌, ◌++◌, Option, Some, refl, sym, ap, subst, ◌∙◌, add-one, arith, inl, inr}
use Rattle.std.specs.Prelude.{slice_get, slice_set}
use Rattle.std.specs.Str.{bytes_eq}
use Rattle.std.proofs.lemmas.Bool.{cases_lt}
use Rattle.std.proofs.lemmas.List.{append-nil, map-append}
use Rattle.std.proofs.lemmas.Slice.Eq.{bytes_eq-Decides}
use Rattle.execution_laws.specs.Legality.{SubmittedOnce}
use Rattle.fronts.specs.Parts.{AreDistinct}
use Rattle.joined_orders.proofs.Owned.{owns}
use Rattle.joined_orders.specs.Owning.{is_own, passes, places_where}
use Rattle.joined_orders.specs.Splitting.{part_names, Adds, AreSplit, IsNotedAt, IsOpOf, IsUsed, Takes}
use Rattle.joined_orders.specs.declared.part.Part.{Part}
use Rattle.lemmas.proofs.Members.{Has-append_left, Has-push_cases}
use Rattle.lemmas.proofs.Places.{slice_get-push_cases, slice_get-set_cases}
use Rattle.lemmas.proofs.Options.{same_Some-at}
use Rattle.nop_types.specs.Lines.{Line}
use Rattle.nop_types.specs.Lists.{Has}

-- no place is chosen where none passes
none_chosen : {A : Type 0} (p : A → Bool) (xs : List A) (k : ℕ) → ((i : ℕ) → i < k → passes p (slice_get xs i) ≡ true → ⊥)
    → places_where p xs k ≡ []
none_chosen p xs zero none = refl
none_chosen p xs (suc k) none =
    let rest = none_chosen p xs k (λ i l. none i (omega (arith, l))) in
    rw rest (here (passes p (slice_get xs k)) (none k (omega arith)))
  where
    here : (b : Bool) → (b ≡ true → ⊥) → [] ++ cond b (k ∷ []) [] ≡ []
    here true n = absurd (n refl)
    here false n = refl

-- ---- names

names_set : (parts : List Part) (i : ℕ) (x y : Part) → slice_get parts i ≡ Some x → y.name.now ≡ x.name.now
    → part_names (slice_set parts i y) ≡ part_names parts
names_set [] i x y h e = refl
names_set (z ∷ zs) zero x y h e =
    let same : z ≡ x = cc in
    let f : y.name.now ≡ z.name.now = e ∙ sym (ap (λ (t : Part). t.name.now) same) in
    rw f refl
names_set (z ∷ zs) (suc i) x y h e = ap (λ (t : List (List ℕ)). z.name.now ∷ t) (names_set zs i x y h e)

pub noted_names : (old new : List Part) (number place : ℕ) → IsNotedAt old new number place → part_names new ≡ part_names old
noted_names old new number place noted =
    ap (λ (t : List Part). part_names t) noted.new_is
    ∙ names_set old number noted.former noted.latter noted.there noted.name_stays

pub name_at : (parts : List Part) (i : ℕ) (x : Part) → slice_get parts i ≡ Some x → slice_get (part_names parts) i ≡ Some x.name.now
name_at [] i x h = absurd cc
name_at (y ∷ ys) zero x h = let e : y ≡ x = cc in ap (λ (t : Part). Some t.name.now) e
name_at (y ∷ ys) (suc i) x h = name_at ys i x h

distinct_push : (names : List (List ℕ)) (name : List ℕ) → AreDistinct names → (Has names name → ⊥) → AreDistinct (names ++ name ∷ [])
distinct_push names name distinct new i j p g h =
    elim (slice_get-push_cases names name i p g) [
      | inl a ↦ elim (slice_get-push_cases names name j p h) [
        | inl b ↦ distinct i j p a.1 b.1
        | inr b ↦ absurd (new (i, a.1 ∙ ap (λ (t : List ℕ). Some t) (sym b.1)))
      ]
      | inr a ↦ elim (slice_get-push_cases names name j p h) [
        | inl b ↦ absurd (new (j, b.1 ∙ ap (λ (t : List ℕ). Some t) (sym a.1)))
        | inr b ↦ a.0 ∙ sym b.0
      ]
    ]

not_same : (a b : List ℕ) → (a ≡ b → ⊥) → bytes_eq a b ≡ false
not_same a b n = here (bytes_eq a b) refl
  where
    here : (c : Bool) → bytes_eq a b ≡ c → c ≡ false
    here true e = absurd (n ((bytes_eq-Decides a b).0 e))
    here false e = refl

module _ (part : List ℕ → List ℕ) (lines : List Line) (once : SubmittedOnce lines) where
  -- a line is of the part of its op
  pub own_of_op : (place : ℕ) (op : List ℕ) → IsOpOf lines place op → (p : List ℕ)
      → passes (is_own part lines p) (slice_get lines place) ≡ bytes_eq (part op) p
  own_of_op place op is p =
      let r = is.about.request in
      let back = ap (λ (t : List ℕ). bytes_eq (part t) p) (sym is.op_is) in
      elim is.about.line [
        | inl e ↦ ap (λ (t : Option Line). passes (is_own part lines p) t) e ∙ back
        | inr e ↦
            ap (λ (t : Option Line). passes (is_own part lines p) t) e.1
            ∙ ((owns part lines p once).accepts r.client r.id e.0 r (is.submit, is.about.submits)
            (record { same_client = refl; same_id = refl }) ∙ back)
      ]

  pub nothing_split : AreSplit part lines 0 []
  nothing_split = record {
    distinct = λ i j p g h. absurd cc;
    used = λ p h. absurd cc;
    known = λ i p l e. absurd (omega (arith, l));
    places = λ j x h. absurd cc;
  }

  module _ (k : ℕ) (old : List Part) (are : AreSplit part lines k old) where
    -- with a part of this name that has no places
    module _ (name : List ℕ) (used : IsUsed part lines name) (new : Has (part_names old) name → ⊥) (x : Part) (is : x.name.now ≡ name)
        (empty : x.places.items ≡ []) where
      names : part_names (old ++ x ∷ []) ≡ part_names old ++ name ∷ []
      names = map-append (λ (t : Part). t.name.now) old (x ∷ []) ∙ ap (λ (t : List ℕ). part_names old ++ t ∷ []) is

      none_yet : x.places.items ≡ places_where (is_own part lines x.name.now) lines k
      none_yet =
          empty
          ∙ sym (none_chosen (is_own part lines x.name.now) lines k
          (λ i l e. new (subst (λ (t : List ℕ). Has (part_names old) t) is (are.known i x.name.now l e))))

      added : AreSplit part lines k (old ++ x ∷ [])
      added = record {
        distinct = subst (λ (t : List (List ℕ)). AreDistinct t) (sym names) (distinct_push (part_names old) name are.distinct new);
        used = λ p h. elim (Has-push_cases (part_names old) name p (subst (λ (t : List (List ℕ)). Has t p) names h)) [
          | inl g ↦ are.used p g
          | inr e ↦ subst (λ (t : List ℕ). IsUsed part lines t) e used
        ];
        known = λ i p l e.
            subst (λ (t : List (List ℕ)). Has t p) (sym names) (Has-append_left (part_names old) (name ∷ []) p (are.known i p l e));
        places = λ j y h. elim (slice_get-push_cases old x j y h) [
          | inl g ↦ are.places j y g.1
          | inr e ↦ subst (λ (t : Part). t.places.items ≡ places_where (is_own part lines t.name.now) lines k) e.1 none_yet
        ];
      }

    pub adds : (new : List Part) (name : List ℕ) → IsUsed part lines name → Adds old new name → AreSplit part lines k new
    adds new name used (inl same) = subst (λ (t : List Part). AreSplit part lines k t) (sym same) are
    adds new name used (inr (fresh, x, is, empty, new_is)) =
        subst (λ (t : List Part). AreSplit part lines k t) (sym new_is) (added name used fresh x is empty)

    -- with the place k in the part of its op
    module _ (name : List ℕ) (of_name : (p : List ℕ) → passes (is_own part lines p) (slice_get lines k) ≡ bytes_eq name p)
        (number : ℕ) (there : slice_get (part_names old) number ≡ Some name) (new : List Part) (noted : IsNotedAt old new number k) where
      former_name : noted.former.name.now ≡ name
      former_name = let e = name_at old number noted.former noted.there in same_Some-at (slice_get (part_names old) number) noted.former.name.now name e there

      same_names : part_names new ≡ part_names old
      same_names = noted_names old new number k noted

      more_at : (x : Part) → x.places.items ≡ places_where (is_own part lines x.name.now) lines k → (b : Bool)
          → bytes_eq name x.name.now ≡ b
          → x.places.items ++ cond b (k ∷ []) [] ≡ places_where (is_own part lines x.name.now) lines (suc k)
      more_at x e b t = let f = of_name x.name.now ∙ t in rw (f, e) refl

      latter_places : noted.latter.places.items ≡ places_where (is_own part lines noted.latter.name.now) lines (suc k)
      latter_places =
          let is = noted.name_stays in
          let t = (bytes_eq-Decides name noted.former.name.now).1 (sym former_name) in
          noted.more ∙ more_at noted.former (are.places number noted.former noted.there) true t
          ∙ ap (λ (t : List ℕ). places_where (is_own part lines t) lines (suc k)) (sym is)

      other_places : (j : ℕ) (x : Part) → (j ≡ number → ⊥) → slice_get old j ≡ Some x
          → x.places.items ≡ places_where (is_own part lines x.name.now) lines (suc k)
      other_places j x other h =
          let apart = not_same name x.name.now
          (λ e. other (are.distinct j number x.name.now (name_at old j x h) (there ∙ ap (λ (t : List ℕ). Some t) e))) in
          sym (append-nil x.places.items) ∙ more_at x (are.places j x h) false apart

      pub notes : AreSplit part lines (suc k) new
      notes = record {
        distinct = subst (λ (t : List (List ℕ)). AreDistinct t) (sym same_names) are.distinct;
        used = λ p h. are.used p (subst (λ (t : List (List ℕ)). Has t p) same_names h);
        known = λ i p l e. subst (λ (t : List (List ℕ)). Has t p) (sym same_names) (elim (cases_lt i k) [
          | inl less ↦ are.known i p less e
          | inr more ↦
              let at : i ≡ k = omega (arith, l, more) in
              let f = sym (of_name p) ∙ ap (λ (t : ℕ). passes (is_own part lines p) (slice_get lines t)) (sym at) ∙ e in
              let is = (bytes_eq-Decides name p).0 f in
              (number, there ∙ ap (λ (t : List ℕ). Some t) is)
        ]);
        places = λ j x h.
            elim (slice_get-set_cases old number noted.latter j x (ap (λ (t : List Part). slice_get t j) (sym noted.new_is) ∙ h)) [
              | inl e ↦ subst (λ (t : Part). t.places.items ≡ places_where (is_own part lines t.name.now) lines (suc k)) (sym e.1) latter_places
              | inr e ↦ other_places j x e.0 e.1
            ];
      }

  -- one claim more
  pub takes : (k : ℕ) (old new : List Part) (op : List ℕ) → AreSplit part lines k old → IsOpOf lines k op
      → Takes old new (part op) k → AreSplit part lines (k + 1) new
  takes k old new op are is take =
      let used : IsUsed part lines (part op) =
      (is.about.request, (is.submit, is.about.submits), ap (λ (t : List ℕ). part t) (sym is.op_is)) in
      let between = adds k old are take.between (part op) used take.adds in
      rw (add-one k) (notes k take.between between (part op) (own_of_op k op is) take.number take.there new take.noted)
