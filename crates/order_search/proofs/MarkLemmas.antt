-- The marks of what is placed, one request more or less.
use Rattle.std.proofs.Common.{◌≡◌, ℕ, Bool, true, false, List, [], ◌∷◌, ◌++◌, length, Some, sym, subst, ◌∙◌, inl, inr}
use Rattle.std.specs.Prelude.{slice_get, slice_set, replicate}
use Rattle.std.proofs.lemmas.List.{length-replicate}
use Rattle.execution_laws.specs.Legality.{IsNoMember, SubmittedOnce}
use Rattle.fronts.specs.Fronts.{IsMember}
use Rattle.lemmas.proofs.Members.{Has-none}
use Rattle.lemmas.proofs.Options.{same_Some-at}
use Rattle.lemmas.proofs.Places.{slice_get-set_cases, length-slice_set}
use Rattle.nop_types.specs.Lines.{Line, Submit}
use Rattle.nop_types.specs.declared.request.Request.{Request}
use Rattle.order_search.proofs.Edits.{unmarked_all}
use Rattle.order_search.proofs.FrontMembers.{IsMember-push, IsMember-last, IsMember-push_cases, IsNoMember-push, IsNoMember-front}
use Rattle.order_search.specs.Placing.{AreMarked}

pub nothing_marked : (lines : List Line) (n : ℕ) → length lines ≡ n → AreMarked lines [] (replicate n false)
nothing_marked lines n e = record {
  count = length-replicate n false ∙ sym e;
  marked = λ i r h line. absurd (let x : true ≡ false = unmarked_all n i true h in cc);
  unmarked = λ i r h line q has same. Has-none q has;
}

module _ (lines : List Line) (once : SubmittedOnce lines) (front : List Request) (placed : List Bool) (i : ℕ) (r : Request)
    (line : slice_get lines i ≡ Some (Submit r)) where
  same_request : (n : ℕ) (q : Request) → n ≡ i → slice_get lines n ≡ Some (Submit q) → r ≡ q
  same_request n q e h =
      let x : Submit r ≡ Submit q =
      same_Some-at (slice_get lines i) (Submit r) (Submit q) line (subst (λ (t : ℕ). slice_get lines t ≡ Some (Submit q)) e h) in
      cc

  -- its request is placed
  pub marked_more : AreMarked lines front placed → AreMarked lines (front ++ r ∷ []) (slice_set placed i true)
  marked_more old = record {
    count = length-slice_set placed i true ∙ old.count;
    marked = λ n q h at. elim (slice_get-set_cases placed i true n true h) [
      | inl here ↦
          subst (λ (t : Request). IsMember (front ++ r ∷ []) t.client t.id) (same_request n q here.0 at) (IsMember-last front r)
      | inr there ↦ IsMember-push front r q.client q.id (old.marked n q there.1 at)
    ];
    unmarked = λ n q h at. elim (slice_get-set_cases placed i true n false h) [
      | inl here ↦ absurd (let x : false ≡ true = here.1 in cc)
      | inr there ↦
          IsNoMember-push front r q.client q.id (old.unmarked n q there.1 at) (λ same. there.0 (once n i q r at line same))
    ];
  }

  -- it is taken back
  pub marked_less : IsNoMember front r.client r.id → AreMarked lines (front ++ r ∷ []) placed
      → AreMarked lines front (slice_set placed i false)
  marked_less new old = record {
    count = length-slice_set placed i false ∙ old.count;
    marked = λ n q h at. elim (slice_get-set_cases placed i false n true h) [
      | inl here ↦ absurd (let x : true ≡ false = here.1 in cc)
      | inr there ↦ elim (IsMember-push_cases front r q.client q.id (old.marked n q there.1 at)) [
        | inl a ↦ a
        | inr same ↦ absurd (there.0 (once n i q r at line same))
      ]
    ];
    unmarked = λ n q h at. elim (slice_get-set_cases placed i false n false h) [
      | inl here ↦ subst (λ (t : Request). IsNoMember front t.client t.id) (same_request n q here.0 at) new
      | inr there ↦ IsNoMember-front front r q.client q.id (old.unmarked n q there.1 at)
    ];
  }
