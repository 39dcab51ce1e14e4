-- Which histories are legal.
use Rattle.std.proofs.Common.{◌≡◌, ℕ, zero, suc, ◌<◌, ◌≤◌, List, [], ◌∷◌, ◌++◌, length, take, Some, refl, sym, ap, subst, ◌∙◌, append_assoc}
use Rattle.std.proofs.Common.{arith, inl, inr}
use Rattle.std.specs.Prelude.{slice_get}
use Rattle.std.proofs.lemmas.Bool.{cases_lt}
use Rattle.std.proofs.lemmas.List.{append-nil, length-take, length-take-le}
use Rattle.std.proofs.lemmas.Option.{slice_get_within}
use Rattle.nop_types.specs.declared.request.Request.{Request}
use Rattle.nop_types.specs.declared.request.Entry.{Entry}
use Rattle.nop_types.specs.declared.request.Entry.TheVariants.{Req}
use Rattle.nop_types.specs.Meaning.{Meaning}
use Rattle.nop_types.specs.Lists.{Has, IsPrefixOf}
use Rattle.nop_types.specs.Lines.{Line, Submit, Accept}
use Rattle.nop_types.specs.Histories.{history_of}
use Rattle.nop_types.specs.Legality.{IsOf, IsSubmittedBefore, IsAnswered, Legal}
use Rattle.lemmas.proofs.Places.{slice_get-append_left, slice_get-append_within, slice_get-push_cases}
use Rattle.lemmas.proofs.Prefixes.{length-prefix, IsPrefixOf-shorter, IsPrefixOf-take}
use Rattle.lemmas.proofs.Members.{Has-append_left, Has-append_cases, Has-one}
use Rattle.lemmas.proofs.Slots.{Has-slot_of, slot_of-within, Carries-prefix}
use Rattle.execution_laws.specs.Legality.{IsOtherLine, IsUnsubmitted, IsUnaccepted, IsNoMember, IsGrounded, Grounded, StandsFrom}
use Rattle.execution_laws.proofs.Ids.{IsOf-refl, IsOf-trans, IsOf-both}
use Rattle.execution_laws.proofs.Members.{members_are_logged, members_are_distinct, history_of_prefix, answered_as, answer_stays}
use Rattle.execution_laws.proofs.Results.{result_is_answered, result_needs_prefix}
use Rattle.execution_laws.proofs.Lines.{submitted_stays, accepted_once_stays}

-- before the first line nothing was submitted, and nothing is in the history
pub legal_at_first : {S : Type 0} (m : Meaning S) → Legal m [] []
legal_at_first m = record {
  apart = λ i j p q g h same. absurd cc;
  submitted = λ r h. absurd (let e = h.1 in cc);
  later = λ k client id result h. absurd cc;
  once = λ k l client id a b g h. absurd cc;
  answered = λ k client id result h. absurd cc;
  ordered = λ k l client id result p lt g h i j a b e is_a f is_b. absurd cc;
}

module _ {S : Type 0} (m : Meaning S) (lines : List Line) (history : List Request) where
  -- what a new line needs that accepts
  record MayAccept (client id : ℕ) (result : List ℕ) : Type 0 where
    submitted : IsSubmittedBefore lines (length lines) client id
    unaccepted : IsUnaccepted lines client id
    answered : IsAnswered m history client id result

  -- one more line, which submits or accepts only what is new
  legal_with_line : (line : Line) → ((p : Request) → line ≡ Submit p → IsUnsubmitted lines p.client p.id)
      → ((client id : ℕ) (result : List ℕ) → line ≡ Accept client id result → MayAccept client id result)
      → Legal m lines history → Legal m (lines ++ line ∷ []) history
  legal_with_line line new_submit new_accept legal = record {
    apart = legal.apart;
    submitted = λ r h. Has-append_left lines (line ∷ []) (Submit r) (legal.submitted r h);
    later =
        λ k client id result h. submitted_stays lines (lines ++ line ∷ []) k client id (line ∷ [], refl)
        (elim (slice_get-push_cases lines line k (Accept client id result) h) [
          | inl a ↦ legal.later k client id result a.1
          | inr a ↦ subst (λ (t : ℕ). IsSubmittedBefore lines t client id) (sym a.0) ((new_accept client id result a.1).submitted)
        ]);
    once = accepted_once_stays lines line legal.once (λ client id result e. (new_accept client id result e).unaccepted);
    answered = λ k client id result h. elim (slice_get-push_cases lines line k (Accept client id result) h) [
      | inl a ↦ legal.answered k client id result a.1
      | inr a ↦ (new_accept client id result a.1).answered
    ];
    ordered = λ k l client id result p lt g h i j a b at_i is_a at_j is_b. elim (slice_get-push_cases lines line l (Submit p) h) [
      | inl s ↦
          legal.ordered k l client id result p lt (before_old k client id result (omega (arith, lt, s.0)) g) s.1 i j a b at_i is_a at_j is_b
      | inr s ↦ absurd (new_submit p s.1 b (legal.submitted b (j, at_j)) is_b)
    ];
  }
    where
      before_old : (k client id : ℕ) (result : List ℕ) → k < length lines
          → slice_get (lines ++ line ∷ []) k ≡ Some (Accept client id result) → slice_get lines k ≡ Some (Accept client id result)
      before_old k client id result lt g = sym (slice_get-append_within lines (line ∷ []) k lt) ∙ g

  pub legal_with_other_line : (line : Line) → IsOtherLine line → Legal m lines history → Legal m (lines ++ line ∷ []) history
  legal_with_other_line line other legal =
      legal_with_line line (λ p e. absurd (subst IsOtherLine e other)) (λ client id result e. absurd (subst IsOtherLine e other)) legal

  pub legal_with_submit : (p : Request) → IsUnsubmitted lines p.client p.id → Legal m lines history
      → Legal m (lines ++ Submit p ∷ []) history
  legal_with_submit p new legal =
      legal_with_line (Submit p) (λ q e. let same : p ≡ q = cc in subst (λ (t : Request). IsUnsubmitted lines t.client t.id) same new)
      (λ client id result e. absurd cc) legal

  pub legal_with_accept : (client id : ℕ) (result : List ℕ) → IsSubmittedBefore lines (length lines) client id
      → IsUnaccepted lines client id → IsAnswered m history client id result → Legal m lines history
      → Legal m (lines ++ Accept client id result ∷ []) history
  legal_with_accept client id result submitted unaccepted answered legal =
      legal_with_line (Accept client id result) (λ p e. absurd cc) (λ c n a e. same c n a (cc) (cc) (cc)) legal
    where
      same : (c n : ℕ) (a : List ℕ) → client ≡ c → id ≡ n → result ≡ a → MayAccept c n a
      same c n a e f g =
          subst (λ (t : ℕ). MayAccept t n a) e
          (subst (λ (t : ℕ). MayAccept client t a) f
          (subst (λ (t : List ℕ). MayAccept client id t) g
          (record { submitted = submitted; unaccepted = unaccepted; answered = answered })))

  -- a submitted request that is no member yet may stand at the end
  pub legal_with_member : (r : Request) → Has lines (Submit r) → IsNoMember history r.client r.id → Legal m lines history
      → Legal m lines (history ++ r ∷ [])
  legal_with_member r known new legal = record {
    apart = λ i j p q g h same. elim (slice_get-push_cases history r i p g) [
      | inl a ↦ elim (slice_get-push_cases history r j q h) [
        | inl b ↦ legal.apart i j p q a.1 b.1 same
        | inr b ↦
            absurd
            (new p (i, a.1) (IsOf-both p.client p.id r p (subst (λ (t : Request). IsOf p.client p.id t) (sym b.1) same) (IsOf-refl p)))
      ]
      | inr a ↦ elim (slice_get-push_cases history r j q h) [
        | inl b ↦ absurd (new q (j, b.1) (subst (λ (t : Request). IsOf t.client t.id q) (sym a.1) same))
        | inr b ↦ omega (arith, a.0, b.0)
      ]
    ];
    submitted = λ q h. elim (Has-append_cases history (r ∷ []) q h) [
      | inl a ↦ legal.submitted q a
      | inr a ↦ subst (λ (t : Request). Has lines (Submit t)) (sym (Has-one q r a)) known
    ];
    later = legal.later;
    once = legal.once;
    answered =
        λ k client id result h. answer_stays m history (history ++ r ∷ []) client id result (r ∷ [], refl)
        (legal.answered k client id result h);
    ordered = λ k l client id result p lt g h i j a b at_i is_a at_j is_b. elim (slice_get-push_cases history r i a at_i) [
      | inl e ↦ elim (slice_get-push_cases history r j b at_j) [
        | inl f ↦ legal.ordered k l client id result p lt g h i j a b e.1 is_a f.1 is_b
        | inr f ↦ omega (arith, e.0, f.0)
      ]
      | inr e ↦
          let old = legal.answered k client id result g in
          absurd (new old.request (old.place, old.member)
          (IsOf-both client id r old.request (subst (λ (t : Request). IsOf client id t) (sym e.1) is_a) old.same))
    ];
  }

-- lines that neither submit nor accept
pub legal_with_other_lines : {S : Type 0} (m : Meaning S) (lines more : List Line) (history : List Request)
    → ((line : Line) → Has more line → IsOtherLine line) → Legal m lines history → Legal m (lines ++ more) history
legal_with_other_lines m lines [] history other legal = rw (append-nil lines) legal
legal_with_other_lines m lines (line ∷ more) history other legal =
    rw append_assoc at
    (legal_with_other_lines m (lines ++ line ∷ []) more history (λ l h. other l (suc h.0, h.1))
    (legal_with_other_line m lines history line (other line (zero, refl)) legal))

-- grounds in one log are grounds in each log that begins with its entries up to the slot, and among more lines
pub grounds_carry : {S : Type 0} (m : Meaning S) (lines more : List Line) (log other : List Entry) (k client id : ℕ) (result : List ℕ)
    (g : IsGrounded m lines log k client id result) → IsPrefixOf lines more → IsPrefixOf (take g.slot log) other
    → IsGrounded m more other k client id result
grounds_carry m lines more log other k client id result g p q =
    let c = Carries-prefix log other g.slot (Req g.request) q g.entry in
    record {
      slot = g.slot;
      request = g.request;
      entry = c.slot;
      same = g.same;
      gives =
          result_needs_prefix m (take g.slot log) other g.slot q c.inside
          ∙ (sym (result_needs_prefix m (take g.slot log) log g.slot (IsPrefixOf-take g.slot log) c.inside) ∙ g.gives);
      known = λ r h. submitted_stays lines more k r.client r.id p (g.known r (subst (λ (t : List Entry). Has t (Req r)) c.part h));
    }

module _ {S : Type 0} (m : Meaning S) (lines : List Line) (log : List Entry) where
  -- a grounded result is an answer in the history up to its slot
  answered_up_to_slot : (k client id : ℕ) (result : List ℕ) → (g : IsGrounded m lines log k client id result)
      → IsAnswered m (history_of (take g.slot log)) client id result
  answered_up_to_slot k client id result g =
      answered_as m (history_of (take g.slot log)) client id g.request result g.same
      (result_is_answered m log g.slot g.request result g.entry g.gives)

  history_begins : (s : ℕ) → IsPrefixOf (history_of (take s log)) (history_of log)
  history_begins s = history_of_prefix (take s log) log (IsPrefixOf-take s log)

  member_in_whole : (s i : ℕ) (r : Request) → slice_get (history_of (take s log)) i ≡ Some r → slice_get (history_of log) i ≡ Some r
  member_in_whole s i r h = let p = history_begins s in rw (p.1) (slice_get-append_left (history_of (take s log)) p.0 i r h)

  -- a member of the history that is submitted only after the accept line does not stand up to its slot
  later_member_is_behind : Grounded m lines log → (k l client id : ℕ) (result : List ℕ) (p b : Request) (j : ℕ) → k < l
      → (g : IsGrounded m lines log k client id result) → slice_get lines l ≡ Some (Submit p)
      → slice_get (history_of log) j ≡ Some b → IsOf p.client p.id b → length (history_of (take g.slot log)) ≤ j
  later_member_is_behind all k l client id result p b j lt g line member same = elim (cases_lt j (length (history_of (take g.slot log)))) [
    | inl early ↦
        let q = history_begins g.slot in
        let here : slice_get (history_of (take g.slot log)) j ≡ Some b =
        sym (slice_get-append_within (history_of (take g.slot log)) q.0 j early)
        ∙ (sym (ap (λ (t : List Request). slice_get t j) (q.1)) ∙ member) in
        let s = g.known b (members_are_logged (take g.slot log) b (j, here)) in
        let one : s.place ≡ l =
        all.submitted_once s.place l s.request p s.line line
        (IsOf-both b.client b.id s.request p s.same (IsOf-both p.client p.id b p same (IsOf-refl p))) in
        absurd (omega (arith, one, s.before, lt))
    | inr late ↦ late
  ]

  pub legal_from_grounds : Grounded m lines log → Legal m lines (history_of log)
  legal_from_grounds all = record {
    apart = members_are_distinct log;
    submitted = λ r h. all.submitted r (members_are_logged log r h);
    later = λ k client id result line.
        let g = all.grounds k client id result line in
        let s = g.known g.request (Has-slot_of log g.slot (Req g.request) g.entry) in
        record {
          place = s.place;
          before = s.before;
          request = s.request;
          line = s.line;
          same = IsOf-trans client id g.request s.request g.same s.same;
        };
    once = all.accepted_once;
    answered = λ k client id result line.
        let g = all.grounds k client id result line in
        answer_stays m (history_of (take g.slot log)) (history_of log) client id result (history_begins g.slot)
        (answered_up_to_slot k client id result g);
    ordered = λ k l client id result p lt accept submit i j a b at_i is_a at_j is_b.
        let g = all.grounds k client id result accept in
        let u = answered_up_to_slot k client id result g in
        let one : i ≡ u.place =
        members_are_distinct log i u.place a u.request at_i (member_in_whole g.slot u.place u.request u.member)
        (IsOf-both client id a u.request is_a u.same) in
        let near : u.place < length (history_of (take g.slot log)) =
        slice_get_within (history_of (take g.slot log)) u.place u.request u.member in
        let far : length (history_of (take g.slot log)) ≤ j = later_member_is_behind all k l client id result p b j lt g submit at_j is_b in
        omega (arith, one, near, far);
  }

-- a request with grounds in one log stands from their slot on in each log that begins with its entries up to there
pub grounds_stand : {S : Type 0} (m : Meaning S) (lines : List Line) (log other : List Entry) (k client id : ℕ) (result : List ℕ)
    (g : IsGrounded m lines log k client id result) → IsPrefixOf (take g.slot log) other → StandsFrom m other client id g.slot result
grounds_stand m lines log other k client id result g begins =
    let there = slot_of-within log g.slot (Req g.request) g.entry in
    let long : length (take g.slot log) ≡ g.slot = length-take-le g.slot log there.1 in
    let inside : length (take g.slot log) ≤ length other = length-prefix (take g.slot log) other begins in
    record {
      within = omega (arith, long, inside);
      answered = λ position behind.
          let most = length-take position other in
          let part : IsPrefixOf (take g.slot log) (take position other) =
          IsPrefixOf-shorter (take g.slot log) (take position other) other begins (IsPrefixOf-take position other)
          (omega (arith, long, inside, most, behind)) in
          answer_stays m (history_of (take g.slot log)) (history_of (take position other)) client id result
          (history_of_prefix (take g.slot log) (take position other) part) (answered_up_to_slot m lines log k client id result g);
    }
