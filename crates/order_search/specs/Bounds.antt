-- How many steps a search takes at most.
use Rattle.std.specs.Prelude.{◌≡◌, ℕ, zero, suc, ◌+◌, ◌-◌, ◌*◌, ◌<◌, ⊤, List, [], ◌∷◌, ◌++◌, Some, length, take, slice_get}
use Rattle.nop_types.specs.Lines.{Line, Accept}
use Rattle.nop_types.specs.declared.request.Request.{Request}
use Rattle.order_search.specs.Searching.{told, requests_at, front_of}
use Rattle.order_search.specs.Turns.{IsStuck}
use Rattle.order_search.specs.declared.step.Step.{Step}

-- how many of the lines submit
abbrev pub submits_in : List Line → ℕ
submits_in [] = 0
submits_in (line ∷ lines) = length (told line) + submits_in lines

-- the most steps from a front on, until it is known to go nowhere: `n` lines there are and `line` are passed, so many requests may be
-- placed yet, and `next` of them were tried. Each line is passed once; each request is tried once, and then the search goes on from a
-- front with one request more; and one step ends it
abbrev pub steps_from : ℕ → ℕ → ℕ → ℕ → ℕ
steps_from n zero line next = n - line + 1
steps_from n (suc unplaced) line next = n - line + 1 + (suc unplaced - next) * (1 + steps_from n unplaced 0 0)

-- from the opening on
abbrev pub most_steps : List Line → ℕ
most_steps lines = steps_from (length lines) (submits_in lines) 0 0

-- behind the steps of a search, with those that are left where they are taken back
abbrev pub steps_behind : {U : Type 0} → ℕ → ℕ → List (Step U) → ℕ → ℕ → ℕ
steps_behind n unplaced [] line next = steps_from n unplaced line next
steps_behind n zero (s ∷ steps) line next = 0
steps_behind n (suc unplaced) (s ∷ steps) line next =
    steps_from n (suc unplaced) s.line s.tried + steps_behind n unplaced steps line next

abbrev pub steps_left : {U : Type 0} → List Line → List (Step U) → ℕ → ℕ → ℕ
steps_left lines steps line next = steps_behind (length lines) (submits_in lines) steps line next

-- the step placed a request at a line that is stuck for the front before it, of `depth` requests
pub record IsDue {U : Type 0} (lines : List Line) (before : List Request) (depth : ℕ) (s : Step U) : Type 0 where
  pub stuck : IsStuck lines s.line before
  pub count : suc (s.others + depth) ≡ submits_in (take s.line lines)

abbrev pub AreDue : {U : Type 0} → List Line → List Request → ℕ → List (Step U) → Type 0
AreDue lines before depth [] = ⊤
AreDue lines before depth (s ∷ steps) =
    IsDue lines before depth s × AreDue lines (before ++ requests_at lines s.submit) (suc depth) steps

-- all that the lines submit either waits or is placed, and requests are tried only where the line is stuck
pub record IsCounted {U : Type 0} (lines : List Line) (line next : ℕ) (steps : List (Step U)) (waiting : List ℕ) : Type 0 where
  pub due : AreDue lines [] 0 steps
  pub count : length waiting + length steps ≡ submits_in (take line lines)
  pub stuck : 0 < next → IsStuck lines line (front_of lines steps)

-- the line at this place accepts
pub record AcceptsAt (lines : List Line) (k : ℕ) : Type 0 where
  pub client : ℕ
  pub id : ℕ
  pub result : List ℕ
  pub accepts : slice_get lines k ≡ Some (Accept client id result)
