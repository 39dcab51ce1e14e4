-- What follows in a history that goes on.
use Rattle.std.proofs.Common.{◌≡◌, ℕ, suc, ◌+◌, ◌<◌, ◌≤◌, List, [], ◌∷◌, ◌++◌, length, Some, refl, sym, ap, ◌∙◌, append_assoc, arith, inl, inr}
use Rattle.std.specs.Prelude.{slice_get}
use Rattle.std.proofs.lemmas.Bool.{cases_lt}
use Rattle.std.proofs.lemmas.List.{append-nil}
use Rattle.std.proofs.lemmas.Option.{slice_get_within}
use Rattle.lemmas.proofs.Places.{slice_get-append_left, slice_get-append_within, slice_get-append_at}
use Rattle.execution_laws.specs.Legality.{IsNoMember}
use Rattle.execution_laws.proofs.Ids.{IsOf-refl}
use Rattle.nop_types.specs.Histories.{answer_from, answer_at}
use Rattle.nop_types.specs.Legality.{IsAnswered, Legal}
use Rattle.nop_types.specs.Lines.{Line, Submit, Accept}
use Rattle.nop_types.specs.Meaning.{Meaning}
use Rattle.nop_types.specs.declared.request.Request.{Request}
use Rattle.fronts.specs.Fronts.{after_all, GoesOn, IsSubmittedAt, Agrees, MayFollow}

-- ---- states and answers behind a front

pub after_all-push : {S : Type 0} (m : Meaning S) (s : S) (xs : List Request) (r : Request)
    → after_all m s (xs ++ r ∷ []) ≡ m.after (after_all m s xs) r.op
after_all-push m s [] r = refl
after_all-push m s (x ∷ xs) r = after_all-push m (m.after s x.op) xs r

-- the answer to what comes right behind a front
pub answer_behind : {S : Type 0} (m : Meaning S) (s : S) (xs ys : List Request) (r : Request)
    → answer_from m s (xs ++ r ∷ ys) (length xs) ≡ Some (m.answer (after_all m s xs) r.op)
answer_behind m s [] ys r = refl
answer_behind m s (x ∷ xs) ys r = answer_behind m (m.after s x.op) xs ys r

-- the answers behind a front rest on its state alone
pub answers_behind : {S : Type 0} (m : Meaning S) (s : S) (xs ys : List Request) (i : ℕ)
    → answer_from m s (xs ++ ys) (length xs + i) ≡ answer_from m (after_all m s xs) ys i
answers_behind m s [] ys i = let e : 0 + i ≡ i = omega arith in rw e refl
answers_behind m s (x ∷ xs) ys i =
    let e : suc (length xs) + i ≡ suc (length xs + i) = omega arith in
    rw e (answers_behind m (m.after s x.op) xs ys i)

module _ {S : Type 0} (m : Meaning S) (lines : List Line) (front : List Request) where
  -- the first one behind a front is no member of it
  first_is_new : (r : Request) (rest : List Request) → Legal m lines (front ++ r ∷ rest) → IsNoMember front r.client r.id
  first_is_new r rest legal q h same =
      let near : h.0 < length front = slice_get_within front h.0 q h.1 in
      let one : length front ≡ h.0 =
      legal.apart (length front) h.0 r q (slice_get-append_at front r rest) (slice_get-append_left front (r ∷ rest) h.0 q h.1) same in
      omega (arith, near, one)

  -- it is answered as the lines accept
  first_agrees : (r : Request) (rest : List Request) → Legal m lines (front ++ r ∷ rest) → Agrees m lines (after_all m m.opening front) r
  first_agrees r rest legal result h =
      let a = legal.answered h.0 r.client r.id result h.1 in
      let one : length front ≡ a.place =
      legal.apart (length front) a.place r a.request (slice_get-append_at front r rest) a.member a.same in
      let here : answer_at m (front ++ r ∷ rest) (length front) ≡ Some result =
      ap (λ (t : ℕ). answer_at m (front ++ r ∷ rest) t) one ∙ a.answer in
      let there : answer_at m (front ++ r ∷ rest) (length front) ≡ Some (m.answer (after_all m m.opening front) r.op) =
      answer_behind m m.opening front rest r in
      cc

  module _ (k client id : ℕ) (result : List ℕ) (line : slice_get lines k ≡ Some (Accept client id result)) where
    -- what is accepted at k and is no member stands behind the front
    stands_behind : (rest : List Request) → Legal m lines (front ++ rest) → IsNoMember front client id
        → (a : IsAnswered m (front ++ rest) client id result) → length front ≤ a.place
    stands_behind rest legal new a = elim (cases_lt a.place (length front)) [
      | inl near ↦
          absurd (new a.request (a.place, sym (slice_get-append_within front rest a.place near) ∙ a.member) a.same)
      | inr far ↦ far
    ]

    -- so the first one behind the front is submitted before k
    first_is_submitted : (r : Request) (rest : List Request) → Legal m lines (front ++ r ∷ rest) → IsNoMember front client id
        → IsSubmittedAt lines k r
    first_is_submitted r rest legal new =
        let here : slice_get (front ++ r ∷ rest) (length front) ≡ Some r = slice_get-append_at front r rest in
        let s = legal.submitted r (length front, here) in
        let a = legal.answered k client id result line in
        let far : length front ≤ a.place = stands_behind (r ∷ rest) legal new a in
        elim (cases_lt s.0 k) [
          | inl early ↦ record { place = s.0; before = early; line = s.1 }
          | inr late ↦ elim (cases_lt k s.0) [
            | inl more ↦
                let less : a.place < length front =
                legal.ordered k s.0 client id result r more line s.1 a.place (length front) a.request r a.member a.same here (IsOf-refl r) in
                absurd (omega (arith, far, less))
            | inr not_more ↦
                let e : k ≡ s.0 = omega (arith, late, not_more) in
                let there : slice_get lines k ≡ Some (Submit r) = ap (λ (t : ℕ). slice_get lines t) e ∙ s.1 in
                absurd cc
          ]
        ]

    next_of : (rest : List Request) → Legal m lines (front ++ rest) → IsNoMember front client id
        → (r : Request) × MayFollow m lines k front r × GoesOn m lines (front ++ r ∷ [])
    next_of [] legal new =
        let a = legal.answered k client id result line in
        let far : length front ≤ a.place = stands_behind [] legal new a in
        let near : a.place < length (front ++ []) = slice_get_within (front ++ []) a.place a.request a.member in
        let e : length (front ++ []) ≡ length front = ap (λ (t : List Request). length t) (append-nil front) in
        absurd (omega (arith, far, near, e))
    next_of (r ∷ rest) legal new = (
      r,
      record {
        submitted = first_is_submitted r rest legal new;
        new = first_is_new r rest legal;
        agrees = first_agrees r rest legal;
      },
      record { rest = rest; legal = rw append_assoc legal },
    )

    -- where a front goes on, and a line accepts what is no member, some request may be placed with which it goes on
    pub next_member : GoesOn m lines front → IsNoMember front client id
        → (r : Request) × MayFollow m lines k front r × GoesOn m lines (front ++ r ∷ [])
    next_member g new = next_of g.rest g.legal new
