-- Fronts, as lines are passed and members are placed.
use Rattle.std.proofs.Common.{◌≡◌, ℕ, suc, ◌<◌, ◌≤◌, List, [], ◌∷◌, ◌++◌, length, Some, refl, sym, ap, subst, ◌∙◌, arith, inl, inr}
use Rattle.std.specs.Prelude.{slice_get}
use Rattle.std.proofs.lemmas.Bool.{cases_lt}
use Rattle.std.proofs.lemmas.Option.{slice_get_within}
use Rattle.lemmas.proofs.Members.{Has-append_left, Has-push_cases}
use Rattle.lemmas.proofs.Places.{slice_get-push_cases}
use Rattle.execution_laws.specs.Legality.{SubmittedOnce}
use Rattle.execution_laws.proofs.Ids.{IsOf-refl, IsOf-both}
use Rattle.execution_laws.proofs.Members.{answer_needs_prefix}
use Rattle.nop_types.specs.Histories.{answer_at}
use Rattle.nop_types.specs.Legality.{IsOf, AcceptedOnce, Legal}
use Rattle.nop_types.specs.Lines.{Line, Accept}
use Rattle.nop_types.specs.Lists.{Has}
use Rattle.nop_types.specs.Meaning.{Meaning}
use Rattle.nop_types.specs.declared.request.Request.{Request}
use Rattle.fronts.specs.Fronts.{AreApart, AcceptedLater, HasOrder, GoesOn, IsSubmittedAt, IsMember, MayFollow, AreOrdered, IsFront}
use Rattle.fronts.proofs.Following.{answer_behind}

submitted_later : (lines : List Line) (k : ℕ) (r : Request) → IsSubmittedAt lines k r → IsSubmittedAt lines (suc k) r
submitted_later lines k r s = record { place = s.place; before = omega (arith, s.before); line = s.line }

module _ {S : Type 0} (m : Meaning S) (lines : List Line) where
  pub front_opens : IsFront m lines 0 []
  front_opens = record {
    apart = λ i j p q g h same. absurd cc;
    submitted = λ r h. absurd (let e = h.1 in cc);
    accepted = λ j client id result l h. absurd (omega (arith, l));
    answered = λ i r result h a. absurd cc;
    ordered = λ k l client id result p lt g h i j a b at_i is_a at_j is_b. absurd cc;
  }

  module _ (k : ℕ) (front : List Request) where
    -- one more line is passed, whose request, where it accepts one, is a member
    pub front_passes : IsFront m lines k front
        → ((client id : ℕ) (result : List ℕ) → slice_get lines k ≡ Some (Accept client id result) → IsMember front client id)
        → IsFront m lines (suc k) front
    front_passes f here = record {
      apart = f.apart;
      submitted = λ r h. submitted_later lines k r (f.submitted r h);
      accepted = λ j client id result l h. elim (cases_lt j k) [
        | inl less ↦ f.accepted j client id result less h
        | inr more ↦
            let e : j ≡ k = omega (arith, l, more) in
            here client id result (ap (λ (t : ℕ). slice_get lines t) (sym e) ∙ h)
      ];
      answered = f.answered;
      ordered = f.ordered;
    }

    module _ (r : Request) (once : SubmittedOnce lines) (f : IsFront m lines k front) (may : MayFollow m lines k front r) where
      placed_apart : AreApart (front ++ r ∷ [])
      placed_apart i j p q g h same = elim (slice_get-push_cases front r i p g) [
        | inl a ↦ elim (slice_get-push_cases front r j q h) [
          | inl b ↦ f.apart i j p q a.1 b.1 same
          | inr b ↦
              absurd (may.new p (i, a.1)
              (IsOf-both p.client p.id r p (subst (λ (t : Request). IsOf p.client p.id t) (sym b.1) same) (IsOf-refl p)))
        ]
        | inr a ↦ elim (slice_get-push_cases front r j q h) [
          | inl b ↦ absurd (may.new q (j, b.1) (subst (λ (t : Request). IsOf t.client t.id q) (sym a.1) same))
          | inr b ↦ omega (arith, a.0, b.0)
        ]
      ]

      placed_submitted : (q : Request) → Has (front ++ r ∷ []) q → IsSubmittedAt lines k q
      placed_submitted q h = elim (Has-push_cases front r q h) [
        | inl a ↦ f.submitted q a
        | inr a ↦ subst (λ (t : Request). IsSubmittedAt lines k t) a may.submitted
      ]

      placed_answered : (i : ℕ) (q : Request) (result : List ℕ) → slice_get (front ++ r ∷ []) i ≡ Some q
          → Has lines (Accept q.client q.id result) → answer_at m (front ++ r ∷ []) i ≡ Some result
      placed_answered i q result h a = elim (slice_get-push_cases front r i q h) [
        | inl b ↦ answer_needs_prefix m front (front ++ r ∷ []) i (r ∷ [], refl) b.0 ∙ f.answered i q result b.1 a
        | inr b ↦
            let mine : Has lines (Accept r.client r.id result) =
            subst (λ (t : Request). Has lines (Accept t.client t.id result)) (sym b.1) a in
            ap (λ (t : ℕ). answer_at m (front ++ r ∷ []) t) b.0
            ∙ (answer_behind m m.opening front [] r ∙ ap (λ (t : List ℕ). Some t) (may.agrees result mine))
      ]

      placed_ordered : AreOrdered lines (front ++ r ∷ [])
      placed_ordered c l client id result p lt accept submit i j a b at_i is_a at_j is_b = elim (slice_get-push_cases front r i a at_i) [
        | inl old ↦ elim (slice_get-push_cases front r j b at_j) [
          | inl both ↦ f.ordered c l client id result p lt accept submit i j a b old.1 is_a both.1 is_b
          | inr last ↦ omega (arith, old.0, last.0)
        ]
        | inr new ↦
            let s = placed_submitted b (j, at_j) in
            let one : s.place ≡ l =
            once s.place l b p s.line submit (IsOf-both p.client p.id b p is_b (IsOf-refl p)) in
            let early : c < k = omega (arith, one, s.before, lt) in
            let x = f.accepted c client id result early accept in
            absurd (may.new x.request x.member
            (IsOf-both client id r x.request (subst (λ (t : Request). IsOf client id t) (sym new.1) is_a) x.same))
      ]

      -- a request that may follow is placed
      pub front_places : IsFront m lines k (front ++ r ∷ [])
      front_places = record {
        apart = placed_apart;
        submitted = placed_submitted;
        accepted = λ j client id result l h.
            let x = f.accepted j client id result l h in
            record { request = x.request; member = Has-append_left front (r ∷ []) x.request x.member; same = x.same };
        answered = placed_answered;
        ordered = placed_ordered;
      }

  -- a front behind the last line is a legal history
  pub front_is_legal : (front : List Request) (k : ℕ) → length lines ≤ k → AcceptedOnce lines
      → AcceptedLater lines → IsFront m lines k front → Legal m lines front
  front_is_legal front k all once later f = record {
    apart = f.apart;
    submitted = λ r h. let s = f.submitted r h in (s.place, s.line);
    later = later;
    once = once;
    answered = λ j client id result h.
        let near : j < length lines = slice_get_within lines j (Accept client id result) h in
        let x = f.accepted j client id result (omega (arith, near, all)) h in
        let e : Accept client id result ≡ Accept x.request.client x.request.id result =
        ap (λ (t : ℕ). Accept t id result) (sym x.same.same_client) ∙ ap (λ (t : ℕ). Accept x.request.client t result) (sym x.same.same_id) in
        record {
          place = x.member.0;
          request = x.request;
          member = x.member.1;
          same = x.same;
          answer = f.answered x.member.0 x.request result x.member.1 (j, h ∙ ap (λ (t : Line). Some t) e);
        };
    ordered = f.ordered;
  }

  -- where the empty front goes nowhere, no history is legal
  pub no_order : (GoesOn m lines [] → ⊥) → HasOrder m lines → ⊥
  no_order fails h = fails (record { rest = h.history; legal = h.legal })
