-- Lines that have no pair.
use Rattle.std.proofs.Common.{◌≡◌, ℕ, ◌<◌, List, Option, Some, None, refl, sym, ap, subst, ◌∙◌, arith, inl, inr}
use Rattle.std.specs.Prelude.{slice_get, is_some, true, false}
use Rattle.execution_laws.proofs.Ids.{IsOf-refl, IsOf-both}
use Rattle.fronts.specs.Fronts.{HasOrder}
use Rattle.lemmas.proofs.Options.{same_Some-at}
use Rattle.nop_types.specs.Legality.{IsOf}
use Rattle.nop_types.specs.Lines.{Line, Submit, Accept}
use Rattle.nop_types.specs.Meaning.{Meaning}
use Rattle.nop_types.specs.declared.request.Request.{Request}
use Rattle.pairs.specs.Pairing.{IsPairing}
use Rattle.pairs.specs.Stops.{IsRepeat, IsGroundless, AreGood}

module _ (lines : List Line) (k : ℕ) (f : ℕ × ℕ → Option ℕ) (accepts submits : List (Option ℕ))
    (old : IsPairing lines k f accepts submits) where
  module _ (j : ℕ) (less : j < k) (client id : ℕ) (result : List ℕ) (h : slice_get lines j ≡ Some (Accept client id result)) where
    pair_of : (i : ℕ) × (slice_get accepts i ≡ Some (Some j)) × ((r : Request) × (i < j) × (slice_get lines i ≡ Some (Submit r)) × IsOf client id r)
    pair_of =
        let s = old.paired.founded j client id result less h in
        let x = old.paired.submitted s.place j s.there in
        let e : Accept x.request.client x.request.id x.result ≡ Accept client id result =
        same_Some-at (slice_get lines j) (Accept x.request.client x.request.id x.result) (Accept client id result) x.accepts h in
        let c : x.request.client ≡ client = cc in
        let d : x.request.id ≡ id = cc in
        (s.place, s.back, (x.request, x.before, x.submits, record { same_client = c; same_id = d }))

  -- two lines before the place k do not accept one client and id
  not_again : (i j client id : ℕ) (a b : List ℕ) → i < j → j < k → slice_get lines i ≡ Some (Accept client id a)
      → slice_get lines j ≡ Some (Accept client id b) → ⊥
  not_again i j client id a b l n g h =
      let x = pair_of i (omega (arith, l, n)) client id a g in
      let y = pair_of j n client id b h in
      let same : x.0 ≡ y.0 =
      old.paired.once x.0 y.0 x.2.0 y.2.0 (omega (arith, l, n, x.2.1)) (omega (arith, n, y.2.1)) x.2.2 y.2.2
      (IsOf-both client id x.2.0 y.2.0 x.2.3 y.2.3) in
      let here : slice_get accepts y.0 ≡ Some (Some i) = subst (λ (t : ℕ). slice_get accepts t ≡ Some (Some i)) same x.1 in
      let v : Some (Some i) ≡ Some (Some j) = sym here ∙ y.1 in
      let e : i ≡ j = cc in
      omega (arith, l, e)

  grounded : (j : ℕ) → j < k → IsGroundless lines j → ⊥
  grounded j less b = elim b.lacks [
    | inl none ↦
        let x = pair_of j less b.client b.id b.result b.line in
        none (record { place = x.0; before = x.2.1; request = x.2.0; line = x.2.2; same = x.2.3 })
    | inr again ↦ not_again again.place j b.client b.id again.result b.result again.before less again.line b.line
  ]

  pub all_good : AreGood lines k
  all_good = record {
    new = λ j less b.
        let e = old.paired.once b.earlier j b.first b.second (omega (arith, less, b.before)) less b.first_line b.second_line b.same in
        omega (arith, e, b.before);
    grounded = grounded;
  }

  -- the line submits what is noted
  pub repeats : (r : Request) → slice_get lines k ≡ Some (Submit r) → (i : ℕ) → f (r.client, r.id) ≡ Some i → IsRepeat lines k
  repeats r line i some =
      let s = old.noted.found (r.client, r.id) i some in
      record {
        earlier = i;
        before = s.before;
        first = s.request;
        second = r;
        first_line = s.line;
        second_line = line;
        same = IsOf-both r.client r.id s.request r s.same (IsOf-refl r);
      }

  module _ (client id : ℕ) (result : List ℕ) (line : slice_get lines k ≡ Some (Accept client id result)) where
    -- it accepts what is not noted
    pub lacks_submit : f (client, id) ≡ None → IsGroundless lines k
    lacks_submit none = record {
      client = client;
      id = id;
      result = result;
      line = line;
      lacks = inl (λ s.
          old.noted.missing (client, id) none s.place
          (record { before = s.before; request = s.request; line = s.line; same = s.same }));
    }

    -- it accepts what is accepted
    pub accepts_again : (i j : ℕ) → f (client, id) ≡ Some i → slice_get accepts i ≡ Some (Some j) → IsGroundless lines k
    accepts_again i j some h =
        let s = old.noted.found (client, id) i some in
        let x = old.paired.accepted i j h in
        let e : Submit x.request ≡ Submit s.request =
        same_Some-at (slice_get lines i) (Submit x.request) (Submit s.request) x.submits s.line in
        let same : x.request ≡ s.request = cc in
        let a : Accept x.request.client x.request.id x.result ≡ Accept client id x.result =
        ap (λ (t : Request). Accept t.client t.id x.result) same
        ∙ (ap (λ (t : ℕ). Accept t s.request.id x.result) s.same.same_client ∙ ap (λ (t : ℕ). Accept client t x.result) s.same.same_id) in
        record {
          client = client;
          id = id;
          result = result;
          line = line;
          lacks = inr (record { place = j; before = old.recent i j h; result = x.result; line = x.accepts ∙ ap (λ (t : Line). Some t) a });
        }

-- no history is legal
pub no_order : {S : Type 0} (m : Meaning S) (lines : List Line) (k : ℕ) → IsGroundless lines k → HasOrder m lines → ⊥
no_order m lines k b h = elim b.lacks [
  | inl none ↦ none (h.legal.later k b.client b.id b.result b.line)
  | inr again ↦
      let e = h.legal.once again.place k b.client b.id again.result b.result again.line b.line in
      omega (arith, e, again.before)
]

-- ---- what a look-up says

pub some_of : {A : Type 0} (o : Option A) → is_some o ≡ true → (x : A) × (o ≡ Some x)
some_of None h = absurd cc
some_of (Some x) h = (x, refl)

pub none_of : {A : Type 0} (o : Option A) → is_some o ≡ false → o ≡ None
none_of None h = refl
none_of (Some x) h = absurd cc
