-- A request that changes nothing and may follow comes first behind a front.
use Rattle.std.proofs.Common.{◌≡◌, ℕ, zero, suc, ◌+◌, ◌<◌, Bool, true, false, cond, eqb, List, [], ◌∷◌, ◌++◌, length, Some, refl, sym, ap, subst, ◌∙◌, arith, inl, inr}
use Rattle.std.specs.Prelude.{not, ◌&&◌, slice_get, filter}
use Rattle.std.proofs.lemmas.Bool.{eq-eqb, eqb-true}
use Rattle.std.proofs.lemmas.Option.{slice_get_within}
use Rattle.lemmas.proofs.Members.{Has-append_left, Has-append_right, Has-append_cases, Has-from_filter, Has-push, Has-push_cases}
use Rattle.lemmas.proofs.Options.{same_Some-at}
use Rattle.lemmas.proofs.Places.{slice_get-append_left, slice_get-append_right, slice_get-append_cases}
use Rattle.execution_laws.specs.Legality.{SubmittedOnce}
use Rattle.execution_laws.proofs.Ids.{IsOf-refl, IsOf-both}
use Rattle.execution_laws.proofs.Members.{answer_needs_prefix}
use Rattle.nop_types.specs.Histories.{answer_from, answer_at}
use Rattle.nop_types.specs.Legality.{IsOf, IsAnswered, Legal}
use Rattle.nop_types.specs.Lines.{Line, Submit, Accept}
use Rattle.nop_types.specs.Lists.{Has}
use Rattle.nop_types.specs.Meaning.{Meaning}
use Rattle.nop_types.specs.declared.request.Request.{Request}
use Rattle.fronts.specs.Fronts.{AreApart, after_all, GoesOn, AreOrdered, MayFollow, IsFront, OnlyReads}
use Rattle.fronts.proofs.Following.{after_all-push, answers_behind}
use Rattle.fronts.proofs.Fronts.{front_places}
use Rattle.lemmas.proofs.Ranks.{rank, passes_at, comes_from, rank_passes}

-- ---- requests of another client or id

abbrev is_other : Request → Request → Bool
is_other r q = not (eqb r.client q.client && eqb r.id q.id)

not_both_true : (a b : Bool) → a ≡ true → b ≡ true → not (a && b) ≡ true → ⊥
not_both_true true true e f g = absurd cc
not_both_true true false e f g = absurd cc
not_both_true false b e f g = absurd cc

both_true : (a b : Bool) → not (a && b) ≡ false → (a ≡ true) × (b ≡ true)
both_true true true e = (refl, refl)
both_true true false e = absurd cc
both_true false b e = absurd cc

other_differs : (r q : Request) → is_other r q ≡ true → IsOf r.client r.id q → ⊥
other_differs r q e same =
    not_both_true (eqb r.client q.client) (eqb r.id q.id) (eq-eqb r.client q.client (sym same.same_client))
    (eq-eqb r.id q.id (sym same.same_id)) e

same_not_other : (r q : Request) → is_other r q ≡ false → IsOf r.client r.id q
same_not_other r q e =
    let b = both_true (eqb r.client q.client) (eqb r.id q.id) e in
    record { same_client = sym (eqb-true r.client q.client b.0); same_id = sym (eqb-true r.id q.id b.1) }

-- ---- answers without what changes nothing

module _ {S : Type 0} (m : Meaning S) where
  -- where those that are left out change nothing, the others are answered as before
  answers_without : (keep : Request → Bool) (s : S) (xs : List Request)
      → ((q : Request) → Has xs q → keep q ≡ false → OnlyReads m q.op) → (i : ℕ) (r : Request) → slice_get xs i ≡ Some r → keep r ≡ true
      → answer_from m s (filter keep xs) (rank keep xs i) ≡ answer_from m s xs i
  answers_without keep s [] still i r h e = absurd cc
  answers_without keep s (x ∷ xs) still zero r h e =
      let one : x ≡ r = cc in
      let kept : keep x ≡ true = ap keep one ∙ e in
      rw kept refl
  answers_without keep s (x ∷ xs) still (suc i) r h e =
      here (keep x) refl
      (answers_without keep (m.after s x.op) xs (λ q g. still q (suc g.0, g.1)) i r h e)
    where
      here : (b : Bool) → keep x ≡ b
          → answer_from m (m.after s x.op) (filter keep xs) (rank keep xs i) ≡ answer_from m (m.after s x.op) xs i
          → answer_from m s (cond b (x ∷ filter keep xs) (filter keep xs)) (cond b (suc (rank keep xs i)) (rank keep xs i))
          ≡ answer_from m (m.after s x.op) xs i
      here true f rest = rest
      here false f rest =
          ap (λ (t : S). answer_from m t (filter keep xs) (rank keep xs i)) (sym (still x (0, refl) f s)) ∙ rest

  module _ (lines : List Line) (once : SubmittedOnce lines) (k : ℕ) (front rest : List Request) (r : Request)
      (is_front : IsFront m lines k front) (may : MayFollow m lines k front r) (reads : OnlyReads m r.op)
      (legal : Legal m lines (front ++ rest)) where
    abbrev others : List Request
    others = filter (is_other r) rest

    abbrev now : List Request
    now = front ++ r ∷ []

    placed : IsFront m lines k now
    placed = front_places m lines k front r once is_front may

    in_rest : (j : ℕ) (q : Request) → slice_get rest j ≡ Some q → slice_get (front ++ rest) (length front + j) ≡ Some q
    in_rest j q h = slice_get-append_right front rest j ∙ h

    -- no client and id is in the front and among the others
    not_both : (p q : Request) (j : ℕ) → Has now p → slice_get rest j ≡ Some q → is_other r q ≡ true → IsOf p.client p.id q → ⊥
    not_both p q j h at other same = elim (Has-push_cases front r p h) [
      | inl a ↦
          let e : a.0 ≡ length front + j =
          legal.apart a.0 (length front + j) p q (slice_get-append_left front rest a.0 p a.1) (in_rest j q at) same in
          let l = slice_get_within front a.0 p a.1 in
          omega (arith, l, e)
      | inr e ↦ other_differs r q other (subst (λ (t : Request). IsOf t.client t.id q) (sym e) same)
    ]

    -- what is left out is the request itself
    left_out : (q : Request) → Has rest q → is_other r q ≡ false → q ≡ r
    left_out q h e =
        let s = legal.submitted q (Has-append_right front rest q h) in
        let one = once may.submitted.place s.0 r q may.submitted.line s.1 (same_not_other r q e) in
        let lines_same : Submit q ≡ Submit r =
        same_Some-at (slice_get lines s.0) (Submit q) (Submit r) s.1
        (subst (λ (t : ℕ). slice_get lines t ≡ Some (Submit r)) one may.submitted.line) in
        cc

    state_now : after_all m m.opening now ≡ after_all m m.opening front
    state_now = after_all-push m m.opening front r ∙ reads (after_all m m.opening front)

    first_apart : AreApart (now ++ others)
    first_apart i j p q at_i at_j same = elim (slice_get-append_cases now others i p at_i) [
      | inl a ↦ elim (slice_get-append_cases now others j q at_j) [
        | inl b ↦ placed.apart i j p q a.1 b.1 same
        | inr b ↦
            let y = comes_from (is_other r) rest b.0 q b.2 in
            absurd (not_both p q y.place (i, a.1) y.stands y.passes same)
      ]
      | inr a ↦ elim (slice_get-append_cases now others j q at_j) [
        | inl b ↦
            let x = comes_from (is_other r) rest a.0 p a.2 in
            absurd (not_both q p x.place (j, b.1) x.stands x.passes
            (record { same_client = sym same.same_client; same_id = sym same.same_id }))
        | inr b ↦
            let x = comes_from (is_other r) rest a.0 p a.2 in
            let y = comes_from (is_other r) rest b.0 q b.2 in
            let e : length front + x.place ≡ length front + y.place =
            legal.apart (length front + x.place) (length front + y.place) p q (in_rest x.place p x.stands) (in_rest y.place q y.stands) same in
            let places : x.place ≡ y.place = omega (arith, e) in
            let ranks = ap (rank (is_other r) rest) places in
            omega (arith, ranks, x.ranks, y.ranks, a.1, b.1)
      ]
    ]

    first_submitted : (q : Request) → Has (now ++ others) q → Has lines (Submit q)
    first_submitted q h = elim (Has-append_cases now others q h) [
      | inl a ↦ let s = placed.submitted q a in (s.place, s.line)
      | inr a ↦ legal.submitted q (Has-append_right front rest q (Has-from_filter (is_other r) q rest a).0)
    ]

    module _ (j client id : ℕ) (result : List ℕ) (line : slice_get lines j ≡ Some (Accept client id result)) where
      -- what is accepted and placed
      answered_now : (q : Request) → Has now q → IsOf client id q → IsAnswered m (now ++ others) client id result
      answered_now q h same =
          let e : Accept client id result ≡ Accept q.client q.id result =
          ap (λ (t : ℕ). Accept t id result) (sym same.same_client) ∙ ap (λ (t : ℕ). Accept q.client t result) (sym same.same_id) in
          record {
            place = h.0;
            request = q;
            member = slice_get-append_left now others h.0 q h.1;
            same = same;
            answer =
                answer_needs_prefix m now (now ++ others) h.0 (others, refl) (slice_get_within now h.0 q h.1)
                ∙ placed.answered h.0 q result h.1 (j, line ∙ ap (λ (t : Line). Some t) e);
          }

      -- what is accepted and comes later
      answered_later : (q : Request) (i : ℕ) → slice_get rest i ≡ Some q → IsOf client id q
          → answer_from m (after_all m m.opening front) rest i ≡ Some result → (b : Bool) → is_other r q ≡ b
          → IsAnswered m (now ++ others) client id result
      answered_later q i at same answer true e = record {
        place = length now + rank (is_other r) rest i;
        request = q;
        member = slice_get-append_right now others (rank (is_other r) rest i) ∙ passes_at (is_other r) rest i q at e;
        same = same;
        answer =
            answers_behind m m.opening now others (rank (is_other r) rest i)
            ∙ (ap (λ (t : S). answer_from m t others (rank (is_other r) rest i)) state_now
            ∙ (answers_without (is_other r) (after_all m m.opening front) rest
            (λ p h f. subst (λ (t : Request). OnlyReads m t.op) (sym (left_out p h f)) reads) i q at e ∙ answer));
      }
      answered_later q i at same answer false e =
          answered_now q (subst (λ (t : Request). Has now t) (sym (left_out q (i, at) e)) (Has-push front r)) same

      first_answered : IsAnswered m (now ++ others) client id result
      first_answered =
          let a = legal.answered j client id result line in
          elim (slice_get-append_cases front rest a.place a.request a.member) [
            | inl near ↦ answered_now a.request (Has-append_left front (r ∷ []) a.request (a.place, near.1)) a.same
            | inr far ↦
                answered_later a.request far.0 far.2 a.same
                (sym (answers_behind m m.opening front rest far.0)
                ∙ (ap (λ (t : ℕ). answer_at m (front ++ rest) t) (sym far.1) ∙ a.answer))
                (is_other r a.request) refl
          ]

    first_ordered : AreOrdered lines (now ++ others)
    first_ordered c l client id result p lt accept submit i j a b at_i is_a at_j is_b = elim (slice_get-append_cases now others i a at_i) [
      | inl old ↦ elim (slice_get-append_cases now others j b at_j) [
        | inl both ↦ placed.ordered c l client id result p lt accept submit i j a b old.1 is_a both.1 is_b
        | inr behind ↦ omega (arith, old.0, behind.1)
      ]
      | inr new ↦
          let x = comes_from (is_other r) rest new.0 a new.2 in
          elim (slice_get-append_cases now others j b at_j) [
            | inl early ↦
                let s = placed.submitted b (j, early.1) in
                let one : s.place ≡ l = once s.place l b p s.line submit (IsOf-both p.client p.id b p is_b (IsOf-refl p)) in
                let y = placed.accepted c client id result (omega (arith, one, s.before, lt)) accept in
                absurd (not_both y.request a x.place y.member x.stands x.passes (IsOf-both client id y.request a y.same is_a))
            | inr both ↦
                let y = comes_from (is_other r) rest both.0 b both.2 in
                let e : length front + x.place < length front + y.place =
                legal.ordered c l client id result p lt accept submit (length front + x.place) (length front + y.place) a b
                (in_rest x.place a x.stands) is_a (in_rest y.place b y.stands) is_b in
                let less = rank_passes (is_other r) rest x.place y.place a x.stands x.passes (omega (arith, e)) in
                omega (arith, less, x.ranks, y.ranks, new.1, both.1)
          ]
    ]

    first_legal : Legal m lines (now ++ others)
    first_legal = record {
      apart = first_apart;
      submitted = first_submitted;
      later = legal.later;
      once = legal.once;
      answered = first_answered;
      ordered = first_ordered;
    }

  -- what goes on behind a front goes on behind it and a request that changes nothing
  pub read_comes_first : (lines : List Line) (k : ℕ) (front : List Request) (r : Request) → SubmittedOnce lines → IsFront m lines k front
      → MayFollow m lines k front r → OnlyReads m r.op → GoesOn m lines front → GoesOn m lines (front ++ r ∷ [])
  read_comes_first lines k front r once is_front may reads g = record {
    rest = filter (is_other r) g.rest;
    legal = first_legal lines once k front g.rest r is_front may reads g.legal;
  }
