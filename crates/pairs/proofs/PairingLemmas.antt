-- Pairs of lines, one line more.
use Rattle.std.proofs.Common.{◌≡◌, ℕ, suc, ◌<◌, ◌≤◌, cond, List, [], ◌∷◌, ◌++◌, length, Option, Some, None, refl, sym, ap, subst, ◌∙◌, arith, inl, inr}
use Rattle.std.proofs.Common.{length-append}
use Rattle.std.specs.Prelude.{◌⊎◌, slice_get, slice_set}
use Rattle.std.proofs.lemmas.Bool.{cases_lt}
use Rattle.std.proofs.lemmas.Option.{slice_get_within}
use Rattle.execution_laws.proofs.Ids.{IsOf-refl, IsOf-both}
use Rattle.execution_laws.specs.Legality.{SubmittedOnce}
use Rattle.fronts.specs.Fronts.{AcceptedLater}
use Rattle.lemmas.proofs.Options.{same_Some-at}
use Rattle.lemmas.proofs.Places.{slice_get-append_left, slice_get-append_at, slice_get-push_cases, slice_get-set_here, slice_get-set_other, slice_get-set_cases}
use Rattle.lemmas.proofs.Places.{length-slice_set}
use Rattle.nop_types.specs.Legality.{IsOf, AcceptedOnce}
use Rattle.nop_types.specs.Lines.{Line, Submit, Accept}
use Rattle.nop_types.specs.declared.request.Request.{Request}
use Rattle.pairs.specs.Pairing.{IsPair, HasSubmit, ArePaired, IsPairing}
use Rattle.pairs.specs.Submitted.{same_pair}
use Rattle.pairs.proofs.SubmittedLemmas.{nothing_noted, noted_stays, noted_more}

length_push : {A : Type 0} (xs : List A) (x : A) (k : ℕ) → length xs ≡ k → length (xs ++ x ∷ []) ≡ suc k
length_push xs x k e = let l = length-append xs (x ∷ []) in omega (arith, l, e)

pub pairing_opens : (f : ℕ × ℕ → Option ℕ) (lines : List Line) → ((p : ℕ × ℕ) → f p ≡ None) → IsPairing lines 0 f [] []
pairing_opens f lines none = record {
  noted = nothing_noted f lines none;
  paired = record {
    accepts_length = refl;
    submits_length = refl;
    accepted = λ i j e. absurd cc;
    submitted = λ i j e. absurd cc;
    founded = λ j client id result l h. absurd (omega (arith, l));
    once = λ i j p q l n g h same. absurd (omega (arith, l));
  };
  recent = λ i j e. absurd cc;
}

module _ (lines : List Line) (k : ℕ) (f : ℕ × ℕ → Option ℕ) (accepts submits : List (Option ℕ))
    (old : IsPairing lines k f accepts submits) where
  -- the place of what is pushed last
  last_there : (x : Option ℕ) → slice_get (submits ++ x ∷ []) k ≡ Some x
  last_there x =
      subst (λ (n : ℕ). slice_get (submits ++ x ∷ []) n ≡ Some x) old.paired.submits_length (slice_get-append_at submits x [])

  pushed : (xs : List (Option ℕ)) (x : Option ℕ) (i j : ℕ) → slice_get (xs ++ x ∷ []) i ≡ Some (Some j)
      → (slice_get xs i ≡ Some (Some j)) ⊎ ((i ≡ length xs) × (x ≡ Some j))
  pushed xs x i j h = elim (slice_get-push_cases xs x i (Some j) h) [
    | inl before ↦ inl before.1
    | inr last ↦ inr last
  ]

  module _ (r : Request) (line : slice_get lines k ≡ Some (Submit r)) where
    not_accepting : (j client id : ℕ) (result : List ℕ) → j ≡ k → slice_get lines j ≡ Some (Accept client id result) → ⊥
    not_accepting j client id result e h =
        let x : Submit r ≡ Accept client id result =
        same_Some-at (slice_get lines k) (Submit r) (Accept client id result) line
        (subst (λ (t : ℕ). slice_get lines t ≡ Some (Accept client id result)) e h) in
        cc

    is_new : f (r.client, r.id) ≡ None → (i : ℕ) (p : Request) → i < k → slice_get lines i ≡ Some (Submit p) → IsOf r.client r.id p → ⊥
    is_new none i p l h same = old.noted.missing (r.client, r.id) none i (record { before = l; request = p; line = h; same = same })

    at_k : (i : ℕ) (p : Request) → i ≡ k → slice_get lines i ≡ Some (Submit p) → r ≡ p
    at_k i p e h =
        let x : Submit r ≡ Submit p =
        same_Some-at (slice_get lines k) (Submit r) (Submit p) line (subst (λ (t : ℕ). slice_get lines t ≡ Some (Submit p)) e h) in
        cc

    once_more : f (r.client, r.id) ≡ None → (i j : ℕ) (p q : Request) → i < suc k → j < suc k → slice_get lines i ≡ Some (Submit p)
        → slice_get lines j ≡ Some (Submit q) → IsOf p.client p.id q → i ≡ j
    once_more none i j p q l n g h same = elim (cases_lt i k) [
      | inl less ↦ elim (cases_lt j k) [
        | inl below ↦ old.paired.once i j p q less below g h same
        | inr last ↦
            let e = at_k j q (omega (arith, n, last)) h in
            absurd (is_new none i p less g
            (IsOf-both p.client p.id r p (subst (λ (t : Request). IsOf p.client p.id t) (sym e) same) (IsOf-refl p)))
      ]
      | inr here ↦
          let e = at_k i p (omega (arith, l, here)) g in
          elim (cases_lt j k) [
            | inl below ↦ absurd (is_new none j q below h (subst (λ (t : Request). IsOf t.client t.id q) (sym e) same))
            | inr last ↦ omega (arith, l, n, here, last)
          ]
    ]

    -- the line submits what no earlier one does
    pub pairing_submits : f (r.client, r.id) ≡ None → (g : ℕ × ℕ → Option ℕ)
        → ((p : ℕ × ℕ) → g p ≡ cond (same_pair (r.client, r.id) p) (Some k) (f p))
        → IsPairing lines (suc k) g (accepts ++ None ∷ []) (submits ++ None ∷ [])
    pairing_submits none g put = record {
      noted = noted_more lines k f g r line old.noted put;
      paired = record {
        accepts_length = length_push accepts None k old.paired.accepts_length;
        submits_length = length_push submits None k old.paired.submits_length;
        accepted = λ i j e. elim (pushed accepts None i j e) [
          | inl before ↦ old.paired.accepted i j before
          | inr last ↦ absurd (let x = last.1 in cc)
        ];
        submitted = λ i j e. elim (pushed submits None j i e) [
          | inl before ↦ old.paired.submitted i j before
          | inr last ↦ absurd (let x = last.1 in cc)
        ];
        founded = λ j client id result l h. elim (cases_lt j k) [
          | inl less ↦
              let s = old.paired.founded j client id result less h in
              record {
                place = s.place;
                there = slice_get-append_left submits (None ∷ []) j (Some s.place) s.there;
                back = slice_get-append_left accepts (None ∷ []) s.place (Some j) s.back;
              }
          | inr more ↦ absurd (not_accepting j client id result (omega (arith, l, more)) h)
        ];
        once = once_more none;
      };
      recent = λ i j e. elim (pushed accepts None i j e) [
        | inl before ↦ let b = old.recent i j before in omega (arith, b)
        | inr last ↦ absurd (let x = last.1 in cc)
      ];
    }

  module _ (client id : ℕ) (result : List ℕ) (line : slice_get lines k ≡ Some (Accept client id result)) where
    not_submitting : (i : ℕ) (p : Request) → i ≡ k → slice_get lines i ≡ Some (Submit p) → ⊥
    not_submitting i p e h =
        let x : Accept client id result ≡ Submit p =
        same_Some-at (slice_get lines k) (Accept client id result) (Submit p) line
        (subst (λ (t : ℕ). slice_get lines t ≡ Some (Submit p)) e h) in
        cc

    module _ (i : ℕ) (some : f (client, id) ≡ Some i) (free : slice_get accepts i ≡ Some None) where
      this_pair : IsPair lines i k
      this_pair =
          let s = old.noted.found (client, id) i some in
          let e : Accept client id result ≡ Accept s.request.client s.request.id result =
          ap (λ (t : ℕ). Accept t id result) (sym s.same.same_client) ∙ ap (λ (t : ℕ). Accept s.request.client t result) (sym s.same.same_id) in
          record {
            before = s.before;
            request = s.request;
            result = result;
            submits = s.line;
            accepts = line ∙ ap (λ (t : Line). Some t) e;
          }

      within : i < length accepts
      within = slice_get_within accepts i None free

      other : (n j : ℕ) → slice_get accepts n ≡ Some (Some j) → n ≡ i → ⊥
      other n j h e =
          let x : slice_get accepts i ≡ Some (Some j) = subst (λ (t : ℕ). slice_get accepts t ≡ Some (Some j)) e h in
          let y : Some None ≡ Some (Some j) = sym free ∙ x in
          cc

      -- the line accepts what an earlier one submits and none accepts
      pub pairing_accepts : IsPairing lines (suc k) f (slice_set accepts i (Some k) ++ None ∷ []) (submits ++ Some i ∷ [])
      pairing_accepts = record {
        noted = noted_stays lines k f old.noted (λ r h. not_submitting k r refl h);
        paired = record {
          accepts_length = length_push (slice_set accepts i (Some k)) None k (length-slice_set accepts i (Some k) ∙ old.paired.accepts_length);
          submits_length = length_push submits (Some i) k old.paired.submits_length;
          accepted = λ n j e. elim (pushed (slice_set accepts i (Some k)) None n j e) [
            | inl before ↦ elim (slice_get-set_cases accepts i (Some k) n (Some j) before) [
              | inl here ↦
                  let b : Some j ≡ Some k = here.1 in
                  let same : j ≡ k = cc in
                  subst (λ (t : ℕ). IsPair lines t j) (sym here.0) (subst (λ (t : ℕ). IsPair lines i t) (sym same) this_pair)
              | inr there ↦ old.paired.accepted n j there.1
            ]
            | inr last ↦ absurd (let x = last.1 in cc)
          ];
          submitted = λ n j e. elim (pushed submits (Some i) j n e) [
            | inl before ↦ old.paired.submitted n j before
            | inr last ↦
                let b : Some i ≡ Some n = last.1 in
                let same : i ≡ n = cc in
                let there : j ≡ k = last.0 ∙ old.paired.submits_length in
                subst (λ (t : ℕ). IsPair lines n t) (sym there) (subst (λ (t : ℕ). IsPair lines t k) same this_pair)
          ];
          founded = λ j c n a l h. elim (cases_lt j k) [
            | inl less ↦
                let s = old.paired.founded j c n a less h in
                record {
                  place = s.place;
                  there = slice_get-append_left submits (Some i ∷ []) j (Some s.place) s.there;
                  back =
                      slice_get-append_left (slice_set accepts i (Some k)) (None ∷ []) s.place (Some j)
                      (slice_get-set_other accepts i s.place (Some k) (other s.place j s.back) ∙ s.back);
                }
            | inr more ↦
                let e : k ≡ j = omega (arith, l, more) in
                subst (λ (t : ℕ). HasSubmit (slice_set accepts i (Some k) ++ None ∷ []) (submits ++ Some i ∷ []) t) e (record {
                  place = i;
                  there = last_there (Some i);
                  back =
                      slice_get-append_left (slice_set accepts i (Some k)) (None ∷ []) i (Some k)
                      (slice_get-set_here accepts i (Some k) within);
                })
          ];
          once = λ a b p q l n g h same. elim (cases_lt a k) [
            | inl less ↦ elim (cases_lt b k) [
              | inl below ↦ old.paired.once a b p q less below g h same
              | inr last ↦ absurd (not_submitting b q (omega (arith, n, last)) h)
            ]
            | inr last ↦ absurd (not_submitting a p (omega (arith, l, last)) g)
          ];
        };
        recent = λ n j e. elim (pushed (slice_set accepts i (Some k)) None n j e) [
          | inl before ↦ elim (slice_get-set_cases accepts i (Some k) n (Some j) before) [
            | inl here ↦ let b : Some j ≡ Some k = here.1 in let same : j ≡ k = cc in omega (arith, same)
            | inr there ↦ let b = old.recent n j there.1 in omega (arith, b)
          ]
          | inr last ↦ absurd (let x = last.1 in cc)
        ];
      }

-- ---- all lines

module _ (lines : List Line) (k : ℕ) (all : length lines ≤ k) (accepts submits : List (Option ℕ))
    (paired : ArePaired lines k accepts submits) where
  pub submitted_once : SubmittedOnce lines
  submitted_once i j p q g h same =
      let a = slice_get_within lines i (Submit p) g in
      let b = slice_get_within lines j (Submit q) h in
      paired.once i j p q (omega (arith, a, all)) (omega (arith, b, all)) g h same

  pub accepted_later : AcceptedLater lines
  accepted_later j client id result h =
      let l = slice_get_within lines j (Accept client id result) h in
      let s = paired.founded j client id result (omega (arith, l, all)) h in
      let x = paired.submitted s.place j s.there in
      let e : Accept x.request.client x.request.id x.result ≡ Accept client id result =
      same_Some-at (slice_get lines j) (Accept x.request.client x.request.id x.result) (Accept client id result) x.accepts h in
      let c : x.request.client ≡ client = cc in
      let d : x.request.id ≡ id = cc in
      record {
        place = s.place;
        before = x.before;
        request = x.request;
        line = x.submits;
        same = record { same_client = c; same_id = d };
      }

  pub accepted_once : AcceptedOnce lines
  accepted_once i j client id a b g h =
      let l = slice_get_within lines i (Accept client id a) g in
      let n = slice_get_within lines j (Accept client id b) h in
      let s = paired.founded i client id a (omega (arith, l, all)) g in
      let t = paired.founded j client id b (omega (arith, n, all)) h in
      let x = paired.submitted s.place i s.there in
      let y = paired.submitted t.place j t.there in
      let e : Accept x.request.client x.request.id x.result ≡ Accept client id a =
      same_Some-at (slice_get lines i) (Accept x.request.client x.request.id x.result) (Accept client id a) x.accepts g in
      let u : Accept y.request.client y.request.id y.result ≡ Accept client id b =
      same_Some-at (slice_get lines j) (Accept y.request.client y.request.id y.result) (Accept client id b) y.accepts h in
      let c : y.request.client ≡ x.request.client = cc in
      let d : y.request.id ≡ x.request.id = cc in
      let same : s.place ≡ t.place =
      submitted_once s.place t.place x.request y.request x.submits y.submits (record { same_client = c; same_id = d }) in
      let here : slice_get accepts t.place ≡ Some (Some i) = subst (λ (n : ℕ). slice_get accepts n ≡ Some (Some i)) same s.back in
      let v : Some (Some i) ≡ Some (Some j) = sym here ∙ t.back in
      cc
