-- Orders of parts, one after another.
use Rattle.std.specs.Prelude.{◌≡◌, ℕ, ◌<◌, ◌≤◌, ◌==◌, Bool, true, List, Some, filter, length, slice_get, slice_index}
use Rattle.fronts.specs.Fronts.{HasOrder}
use Rattle.fronts.specs.Parts.{AreTimed}
use Rattle.joined_orders.specs.Owning.{is_own, passes}
use Rattle.order_search.specs.Bounds.{AcceptsAt}
use Rattle.order_search.specs.declared.outcome.Placed.{Placed}
use Rattle.order_search.specs.Outcomes.{submits_of, time_of}
use Rattle.order_search.specs.Turns.{AllSubmit, history_at}
use Rattle.nop_types.specs.Legality.{Legal}
use Rattle.nop_types.specs.Lines.{Line, Submit, Accept}
use Rattle.nop_types.specs.Lists.{Has}
use Rattle.nop_types.specs.Meaning.{Meaning}
use Rattle.nop_types.specs.declared.request.Request.{Request}

-- the lines of requests do not fall along the list
abbrev pub LinesRise : List Placed → Type 0
LinesRise xs = (i j : ℕ) (x y : Placed) → i ≤ j → slice_get xs i ≡ Some x → slice_get xs j ≡ Some y → x.line ≤ y.line

-- whether two requests were placed at one line
abbrev pub same_line : Placed → Placed → Bool
same_line x y = x.line == y.line

-- the same sorted by lines, where those at one line stay in their order
pub record IsSortedOf (xs sorted : List Placed) : Type 0 where
  pub rise : LinesRise sorted
  pub stable : (x : Placed) → filter (same_line x) sorted ≡ filter (same_line x) xs

-- a request was placed between the lines that submit and accept it
pub record IsTimely (lines : List Line) (x : Placed) : Type 0 where
  pub request : Request
  pub submits : slice_get lines x.submit ≡ Some (Submit request)
  pub begun : x.submit < x.line
  pub ended : (k : ℕ) (result : List ℕ) → slice_get lines k ≡ Some (Accept request.client request.id result) → x.line ≤ k

-- an order was found for the lines
pub record IsFoundOrder {S : Type 0} (m : Meaning S) (lines : List Line) (xs : List Placed) : Type 0 where
  pub legal : Legal m lines (history_at lines (submits_of xs))
  pub submit : AllSubmit lines (submits_of xs)
  pub timed : AreTimed lines (history_at lines (submits_of xs)) (time_of xs)
  pub within : (x : Placed) → Has xs x → (x.submit < length lines) × (x.line < length lines)

-- the lines have none, and the one at this place accepts
abbrev pub LacksAt : {S : Type 0} → Meaning S → List Line → ℕ → Type 0
LacksAt m lines k = (HasOrder m lines → ⊥) × (k < length lines) × AcceptsAt lines k

-- whether a request that was placed is of the part
abbrev pub is_placed_of : (List ℕ → List ℕ) → List Line → List ℕ → Placed → Bool
is_placed_of part lines p x = passes (is_own part lines p) (slice_get lines x.submit)

-- requests of a part, in the order of a legal history of its lines
pub record IsPartOrder {S : Type 0} (m : Meaning S) (part : List ℕ → List ℕ) (lines : List Line) (p : List ℕ)
    (xs : List Placed) : Type 0 where
  pub legal : Legal m (filter (is_own part lines p) lines) (history_at lines (submits_of xs))
  pub own : (x : Placed) → Has xs x → is_placed_of part lines p x ≡ true
  pub timely : (x : Placed) → Has xs x → IsTimely lines x
  pub rise : LinesRise xs

-- requests of these parts, those of each in such an order
pub record AreJoined {S : Type 0} (m : Meaning S) (part : List ℕ → List ℕ) (lines : List Line) (parts : List (List ℕ))
    (xs : List Placed) : Type 0 where
  pub known : (x : Placed) → Has xs x → (p : List ℕ) × Has parts p × (is_placed_of part lines p x ≡ true)
  pub orders : (p : List ℕ) → Has parts p → IsPartOrder m part lines p (filter (is_placed_of part lines p) xs)

-- what was placed among the claims at these places, by its places among all
abbrev pub moved : List ℕ → Placed → Placed
moved places x = record { submit = slice_index places x.submit; line = slice_index places x.line }
