-- Whether lines accept an answer, by their pairs.
use Rattle.std.proofs.Common.{◌≡◌, ℕ, ◌<◌, Bool, true, false, List, length, Option, Some, None, sym, ap, subst, ◌∙◌, arith}
use Rattle.std.specs.Prelude.{slice_get, MatchBool}
use Rattle.std.proofs.lemmas.Option.{slice_get_within}
use Rattle.lemmas.proofs.Options.{same_Some-at}
use Rattle.nop_types.specs.Legality.{IsOf, AcceptedOnce}
use Rattle.nop_types.specs.Lines.{Line, Submit, Accept}
use Rattle.nop_types.specs.declared.request.Request.{Request}
use Rattle.order_search.specs.Agreeing.{AllAccept, Accepts, Differs}
use Rattle.pairs.specs.Pairing.{ArePaired}

module _ (lines : List Line) (k : ℕ) (all : length lines ≡ k) (accepts submits : List (Option ℕ))
    (paired : ArePaired lines k accepts submits) (i : ℕ) (r : Request) (line : slice_get lines i ≡ Some (Submit r)) where
  pub has_place : i < length accepts
  has_place = let l = slice_get_within lines i (Submit r) line in omega (arith, l, all, paired.accepts_length)

  -- the line that accepts it
  accepted_there : (j : ℕ) → slice_get accepts i ≡ Some (Some j) → (result : List ℕ) × (slice_get lines j ≡ Some (Accept r.client r.id result))
  accepted_there j h =
      let x = paired.accepted i j h in
      let e : Submit x.request ≡ Submit r = same_Some-at (slice_get lines i) (Submit x.request) (Submit r) x.submits line in
      let same : x.request ≡ r = cc in
      (x.result, x.accepts ∙ ap (λ (t : Request). Some (Accept t.client t.id x.result)) same)

  pub accept_place : (j : ℕ) → slice_get accepts i ≡ Some (Some j) → j < k
  accept_place j h =
      let x = accepted_there j h in
      let l = slice_get_within lines j (Accept r.client r.id x.0) x.1 in
      omega (arith, l, all)

  module _ (once : AcceptedOnce lines) (answer : List ℕ) where
    agreed : (result : List ℕ) (b : Bool) → MatchBool b (Accepts answer (Accept r.client r.id result)) (Differs answer (Accept r.client r.id result))
        → MatchBool b (answer ≡ result) (answer ≡ result → ⊥)
    agreed result true h = h
    agreed result false h = h

    all_or_not : (result : List ℕ) (b : Bool) (j : ℕ) → slice_get lines j ≡ Some (Accept r.client r.id result)
        → MatchBool b (answer ≡ result) (answer ≡ result → ⊥)
        → MatchBool b (AllAccept lines r.client r.id answer) (AllAccept lines r.client r.id answer → ⊥)
    all_or_not result true j at h = λ a has.
        let e = once j has.0 r.client r.id result a at has.1 in
        let x : Accept r.client r.id result ≡ Accept r.client r.id a =
        same_Some-at (slice_get lines j) (Accept r.client r.id result) (Accept r.client r.id a) at
        (subst (λ (t : ℕ). slice_get lines t ≡ Some (Accept r.client r.id a)) (sym e) has.1) in
        let same : result ≡ a = cc in
        h ∙ same
    all_or_not result false j at h = λ every. h (every result (j, at))

    -- the claim that accepts it is at this place
    pub agrees_there : (j : ℕ) (l : Line) (b : Bool) → slice_get accepts i ≡ Some (Some j) → slice_get lines j ≡ Some l
        → MatchBool b (Accepts answer l) (Differs answer l)
        → MatchBool b (AllAccept lines r.client r.id answer) (AllAccept lines r.client r.id answer → ⊥)
    agrees_there j l b h at is =
        let x = accepted_there j h in
        let e : l ≡ Accept r.client r.id x.0 = same_Some-at (slice_get lines j) l (Accept r.client r.id x.0) at x.1 in
        all_or_not x.0 b j x.1 (agreed x.0 b (subst (λ (t : Line). MatchBool b (Accepts answer t) (Differs answer t)) e is))

    -- no claim accepts it
    pub agrees_with_none : slice_get accepts i ≡ Some None → AllAccept lines r.client r.id answer
    agrees_with_none h a has =
        let l = slice_get_within lines has.0 (Accept r.client r.id a) has.1 in
        let s = paired.founded has.0 r.client r.id a (omega (arith, l, all)) has.1 in
        let x = paired.submitted s.place has.0 s.there in
        let e : Accept x.request.client x.request.id x.result ≡ Accept r.client r.id a =
        same_Some-at (slice_get lines has.0) (Accept x.request.client x.request.id x.result) (Accept r.client r.id a) x.accepts has.1 in
        let c : r.client ≡ x.request.client = cc in
        let d : r.id ≡ x.request.id = cc in
        let n = slice_get_within lines s.place (Submit x.request) x.submits in
        let o = slice_get_within lines i (Submit r) line in
        let same : s.place ≡ i =
        paired.once s.place i x.request r (omega (arith, n, all)) (omega (arith, o, all)) x.submits line
        (record { same_client = c; same_id = d }) in
        absurd (let v : Some (Some has.0) ≡ Some None = sym s.back ∙ subst (λ (t : ℕ). slice_get accepts t ≡ Some None) (sym same) h in cc)

-- the claim that submits what a claim accepts
pub submit_there : (lines : List Line) (k : ℕ) → length lines ≡ k → (accepts submits : List (Option ℕ)) → ArePaired lines k accepts submits
    → (j i client id : ℕ) (result : List ℕ) → slice_get lines j ≡ Some (Accept client id result) → slice_get submits j ≡ Some (Some i)
    → (r : Request) × (slice_get lines i ≡ Some (Submit r)) × IsOf client id r
submit_there lines k all accepts submits paired j i client id result at h =
    let x = paired.submitted i j h in
    let e : Accept x.request.client x.request.id x.result ≡ Accept client id result =
    same_Some-at (slice_get lines j) (Accept x.request.client x.request.id x.result) (Accept client id result) x.accepts at in
    let c : x.request.client ≡ client = cc in
    let d : x.request.id ≡ id = cc in
    (x.request, x.submits, record { same_client = c; same_id = d })
