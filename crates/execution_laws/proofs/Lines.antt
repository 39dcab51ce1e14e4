-- Lines that are added at the end.
use Rattle.std.proofs.Common.{◌≡◌, ℕ, List, [], ◌∷◌, ◌++◌, length, Some, arith, inl, inr}
use Rattle.std.specs.Prelude.{slice_get}
use Rattle.std.proofs.lemmas.Option.{slice_get_within}
use Rattle.nop_types.specs.declared.request.Request.{Request}
use Rattle.nop_types.specs.Lists.{Has, IsPrefixOf}
use Rattle.nop_types.specs.Lines.{Line, Submit, Accept}
use Rattle.nop_types.specs.Legality.{IsSubmittedBefore, AcceptedOnce}
use Rattle.lemmas.proofs.Places.{slice_get-append_left, slice_get-append_cases, slice_get-push_cases}
use Rattle.execution_laws.specs.Legality.{IsOtherLine, IsUnsubmitted, IsUnaccepted, SubmittedOnce}
use Rattle.execution_laws.proofs.Ids.{IsOf-refl, IsOf-both}

-- what was submitted is submitted before each line that comes
pub submitted_so_far : (lines : List Line) (r : Request) → Has lines (Submit r) → IsSubmittedBefore lines (length lines) r.client r.id
submitted_so_far lines r h =
    record { place = h.0; before = slice_get_within lines h.0 (Submit r) h.1; request = r; line = h.1; same = IsOf-refl r }

-- and stays so
pub submitted_stays : (lines more : List Line) (k client id : ℕ) → IsPrefixOf lines more → IsSubmittedBefore lines k client id
    → IsSubmittedBefore more k client id
submitted_stays lines more k client id p s = record {
  place = s.place;
  before = s.before;
  request = s.request;
  line = rw (p.1) (slice_get-append_left lines p.0 s.place (Submit s.request) s.line);
  same = s.same;
}

pub submitted_once_stays : (lines : List Line) (line : Line) → SubmittedOnce lines
    → ((p : Request) → line ≡ Submit p → IsUnsubmitted lines p.client p.id) → SubmittedOnce (lines ++ line ∷ [])
submitted_once_stays lines line once new k l p q g h same = elim (slice_get-push_cases lines line k (Submit p) g) [
  | inl a ↦ elim (slice_get-push_cases lines line l (Submit q) h) [
    | inl b ↦ once k l p q a.1 b.1 same
    | inr b ↦ absurd (new q b.1 p (k, a.1) (IsOf-both p.client p.id q p same (IsOf-refl p)))
  ]
  | inr a ↦ elim (slice_get-push_cases lines line l (Submit q) h) [
    | inl b ↦ absurd (new p a.1 q (l, b.1) same)
    | inr b ↦ omega (arith, a.0, b.0)
  ]
]

pub accepted_once_stays : (lines : List Line) (line : Line) → AcceptedOnce lines
    → ((client id : ℕ) (result : List ℕ) → line ≡ Accept client id result → IsUnaccepted lines client id)
    → AcceptedOnce (lines ++ line ∷ [])
accepted_once_stays lines line once new k l c n a b g h = elim (slice_get-push_cases lines line k (Accept c n a) g) [
  | inl p ↦ elim (slice_get-push_cases lines line l (Accept c n b) h) [
    | inl q ↦ once k l c n a b p.1 q.1
    | inr q ↦ absurd (new c n b q.1 a (k, p.1))
  ]
  | inr p ↦ elim (slice_get-push_cases lines line l (Accept c n b) h) [
    | inl q ↦ absurd (new c n a p.1 b (l, q.1))
    | inr q ↦ omega (arith, p.0, q.0)
  ]
]

-- a line that submits or accepts is an old one, where the new ones do neither
pub old_line : (lines more : List Line) (k : ℕ) (line : Line) → ((l : Line) → Has more l → IsOtherLine l) → (IsOtherLine line → ⊥)
    → slice_get (lines ++ more) k ≡ Some line → slice_get lines k ≡ Some line
old_line lines more k line others mine h = elim (slice_get-append_cases lines more k line h) [
  | inl a ↦ a.1
  | inr b ↦ absurd (mine (others line (b.0, b.2)))
]

pub submitted_once_with_others : (lines more : List Line) → SubmittedOnce lines → ((line : Line) → Has more line → IsOtherLine line)
    → SubmittedOnce (lines ++ more)
submitted_once_with_others lines more once others k l p q g h same =
    once k l p q (old_line lines more k (Submit p) others (λ o. o) g) (old_line lines more l (Submit q) others (λ o. o) h) same

pub accepted_once_with_others : (lines more : List Line) → AcceptedOnce lines → ((line : Line) → Has more line → IsOtherLine line)
    → AcceptedOnce (lines ++ more)
accepted_once_with_others lines more once others k l c n a b g h =
    once k l c n a b (old_line lines more k (Accept c n a) others (λ o. o) g) (old_line lines more l (Accept c n b) others (λ o. o) h)
