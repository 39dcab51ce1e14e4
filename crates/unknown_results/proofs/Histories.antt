-- Legal histories of lines with all results, and of what is asked in their place.
use Rattle.std.proofs.Common.{◌≡◌, ◌∙◌, ℕ, zero, suc, Bool, true, false, cond, List, [], ◌∷◌, map, Some, refl, sym, ap, subst}
use Rattle.std.specs.Prelude.{slice_get}
use Rattle.fronts.specs.Fronts.{HasOrder}
use Rattle.nop_types.specs.Histories.{answer_from}
use Rattle.nop_types.specs.Legality.{IsOf, Legal}
use Rattle.nop_types.specs.Lines.{Line, Submit}
use Rattle.nop_types.specs.Lists.{Has}
use Rattle.nop_types.specs.Meaning.{Meaning}
use Rattle.nop_types.specs.declared.request.Request.{Request}
use Rattle.lemmas.proofs.Mapped.{slice_get-into_map}
use Rattle.unknown_results.proofs.Lines.{from_map, takes_asked, unless_asked, asked_lines, from_submit, from_accept, at_submit, at_accept, same_asked}
use Rattle.unknown_results.specs.AnyResults.{any_result, takes_any, unless}
use Rattle.unknown_results.specs.Asking.{asked, without_byte, without_first}
use Rattle.unknown_results.specs.Filling.{AreAnswers, HasNoOrder}

by_cases : (b : Bool) {P : Type 0} → (b ≡ true → P) → (b ≡ false → P) → P
by_cases true f g = f refl
by_cases false f g = g refl

-- ---- one client and id

of_asked : (unknown : ℕ → ℕ → Bool) (client id : ℕ) (q r : Request) → q ≡ asked unknown r → IsOf client id q → IsOf client id r
of_asked unknown client id q r e same = record {
  same_client = sym (ap (λ (x : Request). x.client) e) ∙ same.same_client;
  same_id = sym (ap (λ (x : Request). x.id) e) ∙ same.same_id;
}

to_asked : (unknown : ℕ → ℕ → Bool) (client id : ℕ) (q r : Request) → q ≡ asked unknown r → IsOf client id r → IsOf client id q
to_asked unknown client id q r e same = record {
  same_client = ap (λ (x : Request). x.client) e ∙ same.same_client;
  same_id = ap (λ (x : Request). x.id) e ∙ same.same_id;
}

of_plain : (client id : ℕ) (r q : Request) → r ≡ without_byte q → IsOf client id r → IsOf client id q
of_plain client id r q e same = record {
  same_client = sym (ap (λ (x : Request). x.client) e) ∙ same.same_client;
  same_id = sym (ap (λ (x : Request). x.id) e) ∙ same.same_id;
}

of_ids : (c d i j : ℕ) (r : Request) → c ≡ d → i ≡ j → IsOf c i r → IsOf d j r
of_ids c d i j r e f same = record { same_client = same.same_client ∙ e; same_id = same.same_id ∙ f }

-- ---- answers

module _ {S : Type 0} (m : Meaning S) where
  -- where the answer is asked, it is that of the service
  known_answer : (s : S) (history : List Request) (j : ℕ) (q : Request) → slice_get history j ≡ Some q → takes_any q.op ≡ false
      → answer_from (any_result m) s history j ≡ answer_from m s (map without_byte history) j
  known_answer s [] j q h e = absurd cc
  known_answer s (x ∷ history) zero q h e =
      let one : x ≡ q = cc in
      let f : takes_any x.op ≡ false = ap (λ (r : Request). takes_any r.op) one ∙ e in
      ap (λ (b : Bool). Some (unless b (m.answer s (without_first x.op)))) f
  known_answer s (x ∷ history) (suc j) q h e = known_answer (m.after s (without_first x.op)) history j q h e

  -- what is answered to what is asked
  asked_answer : (unknown : ℕ → ℕ → Bool) (s : S) (history : List Request) (j : ℕ) (r : Request) (answer : List ℕ)
      → slice_get history j ≡ Some r → answer_from m s history j ≡ Some answer
      → answer_from (any_result m) s (map (asked unknown) history) j ≡ Some (cond (unknown r.client r.id) [] answer)
  asked_answer unknown s [] j r answer h e = absurd cc
  asked_answer unknown s (x ∷ history) zero r answer h e =
      let one : x ≡ r = cc in
      let is : m.answer s x.op ≡ answer = cc in
      ap (λ (a : List ℕ). Some a) (unless_asked (unknown x.client x.id) x.op (m.answer s x.op))
      ∙ ap (λ (a : List ℕ). Some (cond (unknown x.client x.id) [] a)) is
      ∙ ap (λ (q : Request). Some (cond (unknown q.client q.id) [] answer)) one
  asked_answer unknown s (x ∷ history) (suc j) r answer h e = asked_answer unknown (m.after s x.op) history j r answer h e

  module _ (unknown : ℕ → ℕ → Bool) (filled : List Line) (history : List Request) where
    -- ---- from what is asked

    module _ (legal : Legal (any_result m) (asked_lines unknown filled) history) where
      -- a member is what is asked in place of a request that is submitted
      member_is : (q : Request) → Has history q → (i : ℕ) × (r : Request) × (slice_get filled i ≡ Some (Submit r)) × (q ≡ asked unknown r)
      member_is q h =
          let s = legal.submitted q h in
          let t = from_submit unknown filled s.0 q s.1 in
          (s.0, t.0, t.1, t.2)

      answer_is_known : (client id : ℕ) (q : Request) → Has history q → IsOf client id q → unknown client id ≡ false
          → takes_any q.op ≡ false
      answer_is_known client id q h same e =
          let t = member_is q h in
          let r = t.1 in
          let of = of_asked unknown client id q r t.3 same in
          ap (λ (x : Request). takes_any x.op) t.3
          ∙ takes_asked (unknown r.client r.id) r.op
          ∙ ap (λ (c : ℕ). unknown c r.id) of.same_client
          ∙ ap (λ (i : ℕ). unknown client i) of.same_id
          ∙ e

      pub filled_is_legal : AreAnswers m unknown filled (map without_byte history) → Legal m filled (map without_byte history)
      filled_is_legal answers = record {
        apart = λ i j p q g h same.
            let x = from_map without_byte history i p g in
            let y = from_map without_byte history j q h in
            legal.apart i j x.0 y.0 x.1 y.1
            (of_ids p.client x.0.client p.id x.0.id y.0 (ap (λ (r : Request). r.client) x.2) (ap (λ (r : Request). r.id) x.2)
            (of_plain p.client p.id q y.0 y.2 same));
        submitted = λ r h.
            let x = from_map without_byte history h.0 r h.1 in
            let t = member_is x.0 (h.0, x.1) in
            let is : r ≡ t.1 = x.2 ∙ ap without_byte t.3 in
            (t.0, t.2 ∙ ap (λ (a : Request). Some (Submit a)) (sym is));
        later = λ k client id result h.
            let b = legal.later k client id (cond (unknown client id) [] result) (at_accept unknown filled k client id result h) in
            let t = from_submit unknown filled b.place b.request b.line in
            record {
              place = b.place;
              before = b.before;
              request = t.0;
              line = t.1;
              same = of_asked unknown client id b.request t.0 t.2 b.same;
            };
        once = λ k l client id a b g h.
            legal.once k l client id (cond (unknown client id) [] a) (cond (unknown client id) [] b)
            (at_accept unknown filled k client id a g) (at_accept unknown filled l client id b h);
        answered = λ k client id result h.
            let an = legal.answered k client id (cond (unknown client id) [] result) (at_accept unknown filled k client id result h) in
            let there = slice_get-into_map without_byte history an.place an.request an.member in
            let same : IsOf client id (without_byte an.request) =
            record { same_client = an.same.same_client; same_id = an.same.same_id } in
            record {
              place = an.place;
              request = without_byte an.request;
              member = there;
              same = same;
              answer = by_cases (unknown client id)
                  (λ e. answers k client id result h e an.place (without_byte an.request) there same)
                  (λ e.
                  let known = answer_is_known client id an.request (an.place, an.member) an.same e in
                  sym (known_answer m.opening history an.place an.request an.member known)
                  ∙ an.answer
                  ∙ ap (λ (b : Bool). Some (cond b [] result)) e);
            };
        ordered = λ k l client id result p lt g h i j a b ga sa hb sb.
            let x = from_map without_byte history i a ga in
            let y = from_map without_byte history j b hb in
            legal.ordered k l client id (cond (unknown client id) [] result) (asked unknown p) lt
            (at_accept unknown filled k client id result g) (at_submit unknown filled l p h) i j x.0 y.0 x.1
            (of_plain client id a x.0 x.2 sa) y.1 (of_plain p.client p.id b y.0 y.2 sb);
      }

    -- ---- to what is asked

    pub asked_is_legal : Legal m filled history → Legal (any_result m) (asked_lines unknown filled) (map (asked unknown) history)
    asked_is_legal legal = record {
      apart = λ i j p q g h same.
          let x = from_map (asked unknown) history i p g in
          let y = from_map (asked unknown) history j q h in
          legal.apart i j x.0 y.0 x.1 y.1
          (of_ids p.client x.0.client p.id x.0.id y.0 (ap (λ (r : Request). r.client) x.2) (ap (λ (r : Request). r.id) x.2)
          (of_asked unknown p.client p.id q y.0 y.2 same));
      submitted = λ q h.
          let x = from_map (asked unknown) history h.0 q h.1 in
          let s = legal.submitted x.0 (h.0, x.1) in
          (s.0, at_submit unknown filled s.0 x.0 s.1 ∙ ap (λ (a : Request). Some (Submit a)) (sym x.2));
      later = λ k client id result h.
          let t = from_accept unknown filled k client id result h in
          let b = legal.later k client id t.0 t.1 in
          record {
            place = b.place;
            before = b.before;
            request = asked unknown b.request;
            line = at_submit unknown filled b.place b.request b.line;
            same = to_asked unknown client id (asked unknown b.request) b.request refl b.same;
          };
      once = λ k l client id a b g h.
          let s = from_accept unknown filled k client id a g in
          let t = from_accept unknown filled l client id b h in
          legal.once k l client id s.0 t.0 s.1 t.1;
      answered = λ k client id result h.
          let t = from_accept unknown filled k client id result h in
          let an = legal.answered k client id t.0 t.1 in
          let q = an.request in
          record {
            place = an.place;
            request = asked unknown q;
            member = slice_get-into_map (asked unknown) history an.place q an.member;
            same = to_asked unknown client id (asked unknown q) q refl an.same;
            answer = asked_answer unknown m.opening history an.place q t.0 an.member an.answer
                ∙ ap (λ (c : ℕ). Some (cond (unknown c q.id) [] t.0)) an.same.same_client
                ∙ ap (λ (i : ℕ). Some (cond (unknown client i) [] t.0)) an.same.same_id
                ∙ ap (λ (a : List ℕ). Some a) (sym t.2);
          };
      ordered = λ k l client id result p lt g h i j a b ga sa hb sb.
          let s = from_accept unknown filled k client id result g in
          let t = from_submit unknown filled l p h in
          let x = from_map (asked unknown) history i a ga in
          let y = from_map (asked unknown) history j b hb in
          legal.ordered k l client id s.0 t.0 lt s.1 t.1 i j x.0 y.0 x.1 (of_asked unknown client id a x.0 x.2 sa) y.1
          (of_ids p.client t.0.client p.id t.0.id y.0 (ap (λ (r : Request). r.client) t.2) (ap (λ (r : Request). r.id) t.2)
          (of_asked unknown p.client p.id b y.0 y.2 sb));
    }

  -- where what is asked has no order, the lines have none, whatever the unknown results are
  pub none_is_filled : (unknown : ℕ → ℕ → Bool) (lines : List Line) → (HasOrder (any_result m) (asked_lines unknown lines) → ⊥)
      → HasNoOrder m unknown lines
  none_is_filled unknown lines none filled fills order =
      none (record {
        history = map (asked unknown) order.history;
        legal =
            subst (λ (ls : List Line). Legal (any_result m) ls (map (asked unknown) order.history)) (same_asked unknown lines filled fills)
            (asked_is_legal unknown filled order.history order.legal);
      })
