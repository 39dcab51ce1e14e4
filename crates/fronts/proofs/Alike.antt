-- A front goes on where one does that leaves the same state and has more that is never accepted.
use Rattle.std.proofs.Common.{◌≡◌, ℕ, ◌+◌, ◌<◌, List, ◌++◌, length, Some, refl, sym, ap, ◌∙◌, arith, inl, inr}
use Rattle.std.specs.Prelude.{slice_get}
use Rattle.std.proofs.lemmas.Option.{slice_get_within}
use Rattle.lemmas.proofs.Members.{Has-append_left, Has-append_right, Has-append_cases}
use Rattle.lemmas.proofs.Places.{slice_get-append_left, slice_get-append_right, slice_get-append_cases}
use Rattle.execution_laws.specs.Legality.{SubmittedOnce}
use Rattle.execution_laws.proofs.Ids.{IsOf-refl, IsOf-both}
use Rattle.execution_laws.proofs.Members.{answer_needs_prefix}
use Rattle.nop_types.specs.Histories.{answer_from, answer_at}
use Rattle.nop_types.specs.Legality.{IsOf, IsAnswered, Legal}
use Rattle.nop_types.specs.Lines.{Line, Submit, Accept}
use Rattle.nop_types.specs.Lists.{Has}
use Rattle.nop_types.specs.Meaning.{Meaning}
use Rattle.nop_types.specs.declared.request.Request.{Request}
use Rattle.fronts.specs.Fronts.{AreApart, after_all, GoesOn, AreOrdered, IsFront, IsAlike}
use Rattle.fronts.proofs.Following.{answers_behind}

module _ {S : Type 0} (m : Meaning S) (lines : List Line) (once : SubmittedOnce lines) (k : ℕ) (f g rest : List Request)
    (front : IsFront m lines k g) (alike : IsAlike m lines f g) (legal : Legal m lines (f ++ rest)) where
  -- in f ++ rest, where a member of g stands
  in_f : (r : Request) → Has g r → (i : ℕ) × (i < length f) × (slice_get (f ++ rest) i ≡ Some r)
  in_f r h =
      let a = alike.members r h in
      (a.0, slice_get_within f a.0 r a.1, slice_get-append_left f rest a.0 r a.1)

  in_rest : (j : ℕ) (r : Request) → slice_get rest j ≡ Some r → slice_get (f ++ rest) (length f + j) ≡ Some r
  in_rest j r h = slice_get-append_right f rest j ∙ h

  -- no client and id is in both
  not_both : (p q : Request) (j : ℕ) → Has g p → slice_get rest j ≡ Some q → IsOf p.client p.id q → ⊥
  not_both p q j h at same =
      let a = in_f p h in
      let e : a.0 ≡ length f + j = legal.apart a.0 (length f + j) p q a.2 (in_rest j q at) same in
      omega (arith, a.1, e)

  alike_apart : AreApart (g ++ rest)
  alike_apart i j p q at_i at_j same = elim (slice_get-append_cases g rest i p at_i) [
    | inl a ↦ elim (slice_get-append_cases g rest j q at_j) [
      | inl b ↦ front.apart i j p q a.1 b.1 same
      | inr b ↦ absurd (not_both p q b.0 (i, a.1) b.2 same)
    ]
    | inr a ↦ elim (slice_get-append_cases g rest j q at_j) [
      | inl b ↦
          absurd (not_both q p a.0 (j, b.1) a.2 (record { same_client = sym same.same_client; same_id = sym same.same_id }))
      | inr b ↦
          let e : length f + a.0 ≡ length f + b.0 =
          legal.apart (length f + a.0) (length f + b.0) p q (in_rest a.0 p a.2) (in_rest b.0 q b.2) same in
          omega (arith, e, a.1, b.1)
    ]
  ]

  alike_submitted : (r : Request) → Has (g ++ rest) r → Has lines (Submit r)
  alike_submitted r h = elim (Has-append_cases g rest r h) [
    | inl a ↦ legal.submitted r (Has-append_left f rest r (alike.members r a))
    | inr a ↦ legal.submitted r (Has-append_right f rest r a)
  ]

  alike_answered : (j client id : ℕ) (result : List ℕ) → slice_get lines j ≡ Some (Accept client id result)
      → IsAnswered m (g ++ rest) client id result
  alike_answered j client id result line =
      let a = legal.answered j client id result line in
      elim (slice_get-append_cases f rest a.place a.request a.member) [
        | inl near ↦
            let e : Accept client id result ≡ Accept a.request.client a.request.id result =
            ap (λ (t : ℕ). Accept t id result) (sym a.same.same_client) ∙ ap (λ (t : ℕ). Accept a.request.client t result) (sym a.same.same_id) in
            let accepts : Has lines (Accept a.request.client a.request.id result) = (j, line ∙ ap (λ (t : Line). Some t) e) in
            let h = alike.accepted a.request result (a.place, near.1) accepts in
            record {
              place = h.0;
              request = a.request;
              member = slice_get-append_left g rest h.0 a.request h.1;
              same = a.same;
              answer =
                  answer_needs_prefix m g (g ++ rest) h.0 (rest, refl) (slice_get_within g h.0 a.request h.1)
                  ∙ front.answered h.0 a.request result h.1 accepts;
            }
        | inr far ↦
            let there : answer_from m (after_all m m.opening f) rest far.0 ≡ Some result =
            sym (answers_behind m m.opening f rest far.0)
            ∙ (ap (λ (t : ℕ). answer_at m (f ++ rest) t) (sym far.1) ∙ a.answer) in
            record {
              place = length g + far.0;
              request = a.request;
              member = slice_get-append_right g rest far.0 ∙ far.2;
              same = a.same;
              answer =
                  answers_behind m m.opening g rest far.0
                  ∙ (ap (λ (t : S). answer_from m t rest far.0) (sym alike.state) ∙ there);
            }
      ]

  alike_ordered : AreOrdered lines (g ++ rest)
  alike_ordered c l client id result p lt accept submit i j a b at_i is_a at_j is_b = elim (slice_get-append_cases g rest i a at_i) [
    | inl old ↦ elim (slice_get-append_cases g rest j b at_j) [
      | inl both ↦ front.ordered c l client id result p lt accept submit i j a b old.1 is_a both.1 is_b
      | inr behind ↦ omega (arith, old.0, behind.1)
    ]
    | inr new ↦ elim (slice_get-append_cases g rest j b at_j) [
      | inl early ↦
          let s = front.submitted b (j, early.1) in
          let one : s.place ≡ l = once s.place l b p s.line submit (IsOf-both p.client p.id b p is_b (IsOf-refl p)) in
          let x = front.accepted c client id result (omega (arith, one, s.before, lt)) accept in
          absurd (not_both x.request a new.0 x.member new.2 (IsOf-both client id x.request a x.same is_a))
      | inr both ↦
          let e : length f + new.0 < length f + both.0 =
          legal.ordered c l client id result p lt accept submit (length f + new.0) (length f + both.0) a b (in_rest new.0 a new.2) is_a
          (in_rest both.0 b both.2) is_b in
          omega (arith, e, new.1, both.1)
    ]
  ]

  alike_legal : Legal m lines (g ++ rest)
  alike_legal = record {
    apart = alike_apart;
    submitted = alike_submitted;
    later = legal.later;
    once = legal.once;
    answered = alike_answered;
    ordered = alike_ordered;
  }

-- what goes on behind f goes on behind g
pub goes_on_alike : {S : Type 0} (m : Meaning S) (lines : List Line) (k : ℕ) (f g : List Request) → SubmittedOnce lines → IsFront m lines k g
    → IsAlike m lines f g → GoesOn m lines f → GoesOn m lines g
goes_on_alike m lines k f g once front alike h =
    record { rest = h.rest; legal = alike_legal m lines once k f g h.rest front alike h.legal }
