-- A search between two steps: what holds of its state, and how a step changes it.
use Rattle.std.specs.Borrow.{Bor}
use Rattle.std.specs.Prelude.{◌≡◌, ◌+◌, ◌≤◌, ℕ, List, length}
use Rattle.execution_laws.specs.Legality.{SubmittedOnce}
use Rattle.fronts.specs.Fronts.{GoesOn}
use Rattle.nop_types.specs.Legality.{AcceptedOnce}
use Rattle.nop_types.specs.Lines.{Line}
use Rattle.nop_types.specs.declared.host.Host.{Ghosts}
use Rattle.nop_types.specs.declared.request.Request.{Request}
use Rattle.order_search.specs.Bounds.{steps_left, IsCounted}
use Rattle.order_search.specs.Failing.{AllFailed}
use Rattle.order_search.specs.Searching.{front_of, IsRefused, IsSearching, Settles, UndosFit}
use Rattle.order_search.specs.Turns.{IsPassed, IsStuck}
use Rattle.order_search.specs.declared.search.Search.{Search}
use Rattle.pairs.specs.Pairing.{ArePaired}
use Rattle.pairs.specs.Said.{said_by}
use Rattle.pairs.specs.declared.pairing.Pairs.{Pairs}
use Rattle.transcript_reader.specs.declared.claim.Claim.{Claim}

-- what a search is given: claims that have no client and id twice, with their pairs
pub record IsInput (claims : List (Bor Claim)) (pairs : Pairs) : Type 0 where
  pub submitted : SubmittedOnce (said_by claims)
  pub accepted : AcceptedOnce (said_by claims)
  pub paired : ArePaired (said_by claims) (length claims) pairs.accepts.items pairs.submits.items

module _ {H U : Type 0} (lines : List Line) where
  -- the requests that are placed, in their order
  abbrev pub front_in : Search H U → List Request
  front_in s = front_of lines s.steps.items

  -- the line here accepts what is placed, or nothing
  abbrev pub IsPassedHere : Search H U → Type 0
  IsPassedHere s = IsPassed lines s.line (front_in s)

  -- the line here accepts what is not placed
  abbrev pub IsStuckHere : Search H U → Type 0
  IsStuckHere s = IsStuck lines s.line (front_in s)

  -- the most steps that may follow
  abbrev pub most_left : Search H U → ℕ
  most_left s = steps_left lines s.steps.items s.line s.next

  -- there are fewer than before
  abbrev pub StepsFall : Search H U → Search H U → Type 0
  StepsFall old new = most_left new + 1 ≤ most_left old

  -- one that waited is placed, and none is tried behind it
  pub record Places (old new : Search H U) : Type 0 where
    pub less : length new.waiting.items + 1 ≡ length old.waiting.items
    pub begun : new.next ≡ 0
    pub falls : StepsFall old new

-- nothing is placed
pub record PlacesNone {H U : Type 0} (old new : Search H U) : Type 0 where
  pub waiting : new.waiting ≡ old.waiting
  pub next : new.next ≡ old.next
  pub steps : new.steps.items ≡ old.steps.items

module _ {H U : Type 0} (host : Ghosts H U) (lines : List Line) where
  -- between two steps: so many lines are passed, these steps are taken, these requests wait, so many of them were tried, and what is
  -- kept has failed; the host is in the state behind the steps, and has the room to undo them
  pub record IsSearch (s : Search H U) : Type 0 where
    pub searching : IsSearching host.meaning host.undo_of lines (host.state s.host) s.line s.next s.steps.items
        s.waiting.items s.placed.items
    pub fits : UndosFit (host.fits s.host) s.steps.items
    pub counted : IsCounted lines s.line s.next s.steps.items s.waiting.items
    pub failed : AllFailed host.meaning lines s.failed.kept.keys

  -- no legal history begins with what is placed
  abbrev pub GoesNowhere : Search H U → Type 0
  GoesNowhere s = GoesOn host.meaning lines (front_in lines s) → ⊥

  -- the one that waits at this place may not be placed next
  abbrev pub RefusesAt : Search H U → ℕ → Type 0
  RefusesAt s at = IsRefused host.meaning host.undo_of lines s.line (front_in lines s) s.waiting.items at

  -- where it may be and leads nowhere, none of the first n that wait leads to a legal history
  abbrev pub SettlesAt : Search H U → ℕ → ℕ → Type 0
  SettlesAt s at n = Settles host.meaning host.undo_of lines s.line (front_in lines s) s.waiting.items at n
