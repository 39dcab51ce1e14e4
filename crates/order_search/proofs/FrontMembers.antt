-- Members of a front with one more request.
use Rattle.std.proofs.Common.{◌≡◌, ℕ, List, [], ◌∷◌, ◌++◌, Some, sym, subst, arith, inl, inr}
use Rattle.std.specs.Prelude.{◌⊎◌, slice_get}
use Rattle.execution_laws.proofs.Ids.{IsOf-refl, IsOf-both}
use Rattle.execution_laws.specs.Legality.{IsNoMember, SubmittedOnce}
use Rattle.fronts.specs.Fronts.{IsMember, IsFront}
use Rattle.lemmas.proofs.Members.{Has-append_left, Has-push, Has-push_cases}
use Rattle.nop_types.specs.Legality.{IsOf}
use Rattle.nop_types.specs.Lines.{Line, Submit}
use Rattle.nop_types.specs.Meaning.{Meaning}
use Rattle.nop_types.specs.declared.request.Request.{Request}

module _ (front : List Request) (r : Request) where
  pub IsMember-push : (client id : ℕ) → IsMember front client id → IsMember (front ++ r ∷ []) client id
  IsMember-push client id h =
      record { request = h.request; member = Has-append_left front (r ∷ []) h.request h.member; same = h.same }

  pub IsMember-last : IsMember (front ++ r ∷ []) r.client r.id
  IsMember-last = record { request = r; member = Has-push front r; same = IsOf-refl r }

  pub IsMember-push_cases : (client id : ℕ) → IsMember (front ++ r ∷ []) client id → IsMember front client id ⊎ IsOf client id r
  IsMember-push_cases client id h = elim (Has-push_cases front r h.request h.member) [
    | inl a ↦ inl (record { request = h.request; member = a; same = h.same })
    | inr a ↦ inr (subst (λ (t : Request). IsOf client id t) (sym a) h.same)
  ]

  pub IsNoMember-push : (client id : ℕ) → IsNoMember front client id → (IsOf client id r → ⊥) → IsNoMember (front ++ r ∷ []) client id
  IsNoMember-push client id none other q h same = elim (Has-push_cases front r q h) [
    | inl a ↦ none q a same
    | inr a ↦ other (subst (λ (t : Request). IsOf client id t) (sym a) same)
  ]

  pub IsNoMember-front : (client id : ℕ) → IsNoMember (front ++ r ∷ []) client id → IsNoMember front client id
  IsNoMember-front client id none q h same = none q (Has-append_left front (r ∷ []) q h) same

-- two lines that submit one client and id
pub one_place : (lines : List Line) → SubmittedOnce lines → (i j : ℕ) (q r : Request) → slice_get lines i ≡ Some (Submit q)
    → slice_get lines j ≡ Some (Submit r) → IsOf q.client q.id r → i ≡ j
one_place lines once i j q r g h same = once i j q r g h same

-- what the next line submits is not placed yet
pub next_is_new : {S : Type 0} (m : Meaning S) (lines : List Line) (k : ℕ) (front : List Request) → SubmittedOnce lines
    → IsFront m lines k front → (r : Request) → slice_get lines k ≡ Some (Submit r) → IsNoMember front r.client r.id
next_is_new m lines k front once is_front r line q h same =
    let s = is_front.submitted q h in
    let e = once s.place k q r s.line line (IsOf-both r.client r.id q r same (IsOf-refl r)) in
    omega (arith, e, s.before)
