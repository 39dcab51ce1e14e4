-- The steps of a search, one more or less; and what the host has the room to undo.
use Rattle.std.proofs.Common.{◌≡◌, ℕ, List, [], ◌∷◌, ◌++◌, Some, sym, ap, subst, ◌∙◌, append_assoc}
use Rattle.std.specs.Prelude.{slice_get, remove}
use Rattle.std.proofs.lemmas.List.{append-nil}
use Rattle.nop_types.specs.Lines.{Line, Submit}
use Rattle.nop_types.specs.Lists.{IsPrefixOf}
use Rattle.nop_types.specs.Meaning.{Meaning}
use Rattle.nop_types.specs.declared.request.Request.{Request}
use Rattle.order_search.specs.Searching.{told_by, requests_at, front_of, IsStep, AreSteps, UndosFit}
use Rattle.order_search.specs.declared.step.Step.{Step}

-- ---- fronts of steps

pub requests_at-submit : (lines : List Line) (i : ℕ) (r : Request) → slice_get lines i ≡ Some (Submit r) → requests_at lines i ≡ r ∷ []
requests_at-submit lines i r h = ap told_by h

pub front_of-push : {U : Type 0} (lines : List Line) (steps : List (Step U)) (s : Step U)
    → front_of lines (steps ++ s ∷ []) ≡ front_of lines steps ++ requests_at lines s.submit
front_of-push lines [] s = append-nil (requests_at lines s.submit)
front_of-push lines (t ∷ steps) s =
    ap (λ (x : List Request). requests_at lines t.submit ++ x) (front_of-push lines steps s)
    ∙ sym (append_assoc (requests_at lines t.submit) (front_of lines steps) (requests_at lines s.submit))

-- ---- the chain of steps

prefix_more : (base waiting more : List ℕ) → IsPrefixOf base waiting → IsPrefixOf base (waiting ++ more)
prefix_more base waiting more h =
    (h.0 ++ more, ap (λ (x : List ℕ). x ++ more) h.1 ∙ append_assoc base h.0 more)

module _ {S U : Type 0} (m : Meaning S) (undo_of : S → List ℕ → U) (lines : List Line) where
  -- more places wait at the end
  pub steps_wait : (before : List Request) (base : List ℕ) (steps : List (Step U)) (waiting more : List ℕ)
      → AreSteps m undo_of lines before base steps waiting → AreSteps m undo_of lines before base steps (waiting ++ more)
  steps_wait before base [] waiting more h = prefix_more base waiting more h
  steps_wait before base (s ∷ steps) waiting more h =
      (h.0, h.1, h.2, steps_wait (before ++ requests_at lines s.submit) (remove h.0 s.at) steps waiting more h.3)

  -- one more step, of one that waits
  pub steps_push : (before : List Request) (base : List ℕ) (steps : List (Step U)) (waiting : List ℕ) (s : Step U)
      → AreSteps m undo_of lines before base steps waiting → IsStep m undo_of lines (before ++ front_of lines steps) waiting s
      → AreSteps m undo_of lines before base (steps ++ s ∷ []) (remove waiting s.at)
  steps_push before base [] waiting s h k = (
    waiting,
    subst (λ (x : List Request). IsStep m undo_of lines x waiting s) (append-nil before) k,
    h,
    ([], sym (append-nil (remove waiting s.at))),
  )
  steps_push before base (t ∷ steps) waiting s h k = (
    h.0,
    h.1,
    h.2,
    steps_push (before ++ requests_at lines t.submit) (remove h.0 t.at) steps waiting s h.3
        (subst (λ (x : List Request). IsStep m undo_of lines x waiting s)
        (sym (append_assoc before (requests_at lines t.submit) (front_of lines steps))) k),
  )

  -- the last step, and what waited before it
  pub record IsLast (before : List Request) (base : List ℕ) (steps : List (Step U)) (s : Step U) (waiting : List ℕ) : Type 0 where
    pub left : List ℕ
    pub steps_are : AreSteps m undo_of lines before base steps left
    pub is_step : IsStep m undo_of lines (before ++ front_of lines steps) left s
    pub others_wait : IsPrefixOf (remove left s.at) waiting

  pub steps_last : (before : List Request) (base : List ℕ) (steps : List (Step U)) (waiting : List ℕ) (s : Step U)
      → AreSteps m undo_of lines before base (steps ++ s ∷ []) waiting → IsLast before base steps s waiting
  steps_last before base [] waiting s h = record {
    left = h.0;
    steps_are = h.2;
    is_step = subst (λ (x : List Request). IsStep m undo_of lines x h.0 s) (sym (append-nil before)) h.1;
    others_wait = h.3;
  }
  steps_last before base (t ∷ steps) waiting s h =
      let k = steps_last (before ++ requests_at lines t.submit) (remove h.0 t.at) steps waiting s h.3 in
      record {
        left = k.left;
        steps_are = (h.0, h.1, h.2, k.steps_are);
        is_step =
            subst (λ (x : List Request). IsStep m undo_of lines x k.left s)
            (append_assoc before (requests_at lines t.submit) (front_of lines steps)) k.is_step;
        others_wait = k.others_wait;
      }

-- ---- the room to undo

module _ {U : Type 0} where
  pub fit_push : (fits : U → Type 0) (steps : List (Step U)) (s : Step U) → UndosFit fits steps → fits s.undo → UndosFit fits (steps ++ s ∷ [])
  fit_push fits [] s h k = (k, tt)
  fit_push fits (t ∷ steps) s h k = (h.0, fit_push fits steps s h.1 k)

  pub fit_front : (fits : U → Type 0) (steps : List (Step U)) (s : Step U) → UndosFit fits (steps ++ s ∷ []) → UndosFit fits steps
  fit_front fits [] s h = tt
  fit_front fits (t ∷ steps) s h = (h.0, fit_front fits steps s h.1)

  pub fit_still : (fits still : U → Type 0) → ((u : U) → fits u → still u) → (steps : List (Step U)) → UndosFit fits steps
      → UndosFit still steps
  fit_still fits still f [] h = tt
  fit_still fits still f (s ∷ steps) h = (f s.undo h.0, fit_still fits still f steps h.1)
