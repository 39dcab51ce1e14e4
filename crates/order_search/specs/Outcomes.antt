-- What a search came to.
use Rattle.std.specs.Prelude.{⊤, ℕ, List, map, slice_index}
use Rattle.order_search.specs.declared.outcome.Outcome.{Outcome}
use Rattle.order_search.specs.declared.outcome.Outcome.TheVariants.{Found, Nothing}
use Rattle.order_search.specs.declared.outcome.Placed.{Placed}
use Rattle.order_search.specs.declared.step.Step.{Step}

-- an order was found, and this holds of it
abbrev pub IfFound : Outcome → (List Placed → Type 0) → Type 0
IfFound (Found placed) holds = holds placed.items
IfFound (Nothing k) holds = ⊤

-- there is none, and this holds of the place that no order passes
abbrev pub IfNothing : Outcome → (ℕ → Type 0) → Type 0
IfNothing (Found placed) holds = ⊤
IfNothing (Nothing k) holds = holds k

-- the places of the claims that submit what was placed
abbrev pub submits_of : List Placed → List ℕ
submits_of placed = map (λ p. p.submit) placed

-- the line before which the one at a place was placed; 0 behind the last
abbrev pub time_of : List Placed → ℕ → ℕ
time_of placed i = slice_index (map (λ p. p.line) placed) i

-- what a step placed
abbrev pub placed_by : {U : Type 0} → Step U → Placed
placed_by step = record { submit = step.submit; line = step.line }
