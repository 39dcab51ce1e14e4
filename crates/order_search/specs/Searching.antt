-- A search for an order, step by step.
use Rattle.std.specs.Prelude.{◌≡◌, ℕ, ◌<◌, ◌≤◌, Bool, List, [], ◌∷◌, ◌++◌, length, Option, Some, None, slice_get, remove}
use Rattle.std.specs.List.{AllByRecursion}
use Rattle.fronts.specs.Fronts.{after_all, GoesOn, MayFollow, IsFront}
use Rattle.nop_types.specs.Lines.{Line, Submit}
use Rattle.nop_types.specs.Lists.{IsPrefixOf}
use Rattle.nop_types.specs.Meaning.{Meaning}
use Rattle.nop_types.specs.declared.request.Request.{Request}
use Rattle.order_search.specs.Placing.{AreMarked}
use Rattle.order_search.specs.Waiting.{AreWaiting}
use Rattle.order_search.specs.declared.step.Step.{Step}

-- what a line submits
abbrev pub told : Line → List Request
told (Submit request) = request ∷ []
told _ = []

abbrev pub told_by : Option Line → List Request
told_by None = []
told_by (Some line) = told line

abbrev pub requests_at : List Line → ℕ → List Request
requests_at lines i = told_by (slice_get lines i)

-- the requests that steps placed, in order
abbrev pub front_of : {U : Type 0} → List Line → List (Step U) → List Request
front_of lines [] = []
front_of lines (s ∷ steps) = requests_at lines s.submit ++ front_of lines steps

-- the lines of the steps do not fall, none is below `low`, and none is above `line`
abbrev pub AreRising : {U : Type 0} → ℕ → List (Step U) → ℕ → Type 0
AreRising low [] line = low ≤ line
AreRising low (s ∷ steps) line = (low ≤ s.line) × AreRising s.line steps line

module _ {S U : Type 0} (m : Meaning S) (undo_of : S → List ℕ → U) (lines : List Line) where
  -- behind the front, none of the first n that wait leads to a legal history
  abbrev pub HasTried : ℕ → List Request → List ℕ → ℕ → Type 0
  HasTried k front waiting n =
      (a i : ℕ) (r : Request) → a < n → slice_get waiting a ≡ Some i → slice_get lines i ≡ Some (Submit r) → MayFollow m lines k front r
      → GoesOn m lines (front ++ r ∷ []) → ⊥

  -- the one that waits at this place may not be placed next
  abbrev pub IsRefused : ℕ → List Request → List ℕ → ℕ → Type 0
  IsRefused k front waiting at =
      (i : ℕ) (r : Request) → slice_get waiting at ≡ Some i → slice_get lines i ≡ Some (Submit r) → MayFollow m lines k front r → ⊥

  -- where the one that waits at this place may be placed next and leads nowhere, none of the first n that wait leads to a legal history
  abbrev pub Settles : ℕ → List Request → List ℕ → ℕ → ℕ → Type 0
  Settles k front waiting at n =
      (i : ℕ) (r : Request) → slice_get waiting at ≡ Some i → slice_get lines i ≡ Some (Submit r) → MayFollow m lines k front r
      → (GoesOn m lines (front ++ r ∷ []) → ⊥) → HasTried k front waiting n

  -- a step that placed a request behind this front, where these waited
  pub record IsStep (before : List Request) (waiting : List ℕ) (s : Step U) : Type 0 where
    pub request : Request
    pub line : slice_get lines s.submit ≡ Some (Submit request)
    pub within : s.line < length lines
    pub front : IsFront m lines s.line before
    pub follows : MayFollow m lines s.line before request
    pub are_waiting : AreWaiting lines s.line before waiting
    pub stands : slice_get waiting s.at ≡ Some s.submit
    pub others : s.others ≡ length (remove waiting s.at)
    pub tried : (GoesOn m lines (before ++ request ∷ []) → ⊥) → HasTried s.line before waiting s.tried
    pub undo : s.undo ≡ undo_of (after_all m m.opening before) request.op

  -- steps behind a front, where at least the places in `base` wait; at the end those in `waiting` do
  abbrev pub AreSteps : List Request → List ℕ → List (Step U) → List ℕ → Type 0
  AreSteps before base [] waiting = IsPrefixOf base waiting
  AreSteps before base (s ∷ steps) waiting =
      (left : List ℕ) × IsStep before left s × IsPrefixOf base left
      × AreSteps (before ++ requests_at lines s.submit) (remove left s.at) steps waiting

  -- with the host in this state, so many lines are passed, these steps are taken, these places wait, and the first `next` of them were tried
  pub record IsSearching (state : S) (line next : ℕ) (steps : List (Step U)) (waiting : List ℕ) (placed : List Bool) : Type 0 where
    pub within : line ≤ length lines
    pub front : IsFront m lines line (front_of lines steps)
    pub state_is : state ≡ after_all m m.opening (front_of lines steps)
    pub are_waiting : AreWaiting lines line (front_of lines steps) waiting
    pub are_marked : AreMarked lines (front_of lines steps) placed
    pub steps_are : AreSteps [] [] steps waiting
    pub rise : AreRising 0 steps line
    pub tried : HasTried line (front_of lines steps) waiting next

-- the host has the room to undo the steps
abbrev pub UndosFit : {U : Type 0} → (U → Type 0) → List (Step U) → Type 0
UndosFit fits steps = AllByRecursion (λ s. fits s.undo) steps
