-- What is found of claims.
use Rattle.std.specs.Prelude.{◌≡◌, ◌⊎◌, ◌<◌, ⊤, ℕ, Bool, List, [], filter, length}
use Rattle.fronts.specs.Fronts.{HasOrder}
use Rattle.fronts.specs.Parts.{is_of, AreOwn}
use Rattle.joined_orders.specs.Splitting.{HasManyParts}
use Rattle.joined_orders.specs.declared.linearized.Linearized.{Linearized}
use Rattle.joined_orders.specs.declared.linearized.Linearized.TheVariants.{Order, Nothing, Groundless, Repeated}
use Rattle.nop_types.specs.Legality.{Legal}
use Rattle.nop_types.specs.Lines.{Line}
use Rattle.nop_types.specs.Meaning.{Meaning}
use Rattle.order_search.specs.Bounds.{AcceptsAt}
use Rattle.order_search.specs.Turns.{AllSubmit, history_at}
use Rattle.pairs.specs.Stops.{AreGood, IsGroundless, IsRepeat}

-- an order was found, and this holds of its places
abbrev pub IfOrder : Linearized → (List ℕ → Type 0) → Type 0
IfOrder (Order places) holds = holds places.items
IfOrder _ holds = ⊤

-- there is none, and this holds of the part and of the place that no order of it passes
abbrev pub IfNothing : Linearized → (List ℕ → ℕ → Type 0) → Type 0
IfNothing (Nothing part claim) holds = holds part.items claim
IfNothing _ holds = ⊤

abbrev pub IfGroundless : Linearized → (ℕ → Type 0) → Type 0
IfGroundless (Groundless claim) holds = holds claim
IfGroundless _ holds = ⊤

abbrev pub IfRepeated : Linearized → (ℕ → Type 0) → Type 0
IfRepeated (Repeated claim) holds = holds claim
IfRepeated _ holds = ⊤

-- the lines of a part alone have no order; or there are more parts than a service may have, and the name is empty
abbrev pub LacksOrder : {S : Type 0} → Meaning S → (List ℕ → List ℕ) → ℕ → List Line → List ℕ → Type 0
LacksOrder m part most lines p =
    ((own : Line → Bool) → AreOwn lines (is_of part p) own → HasOrder m (filter own lines) → ⊥)
    ⊎ (HasManyParts part most lines × (p ≡ []))

-- what an answer says of the lines
abbrev pub IsAnswer : {S : Type 0} → Meaning S → (List ℕ → List ℕ) → ℕ → List Line → Linearized → Type 0
IsAnswer m part most lines (Order places) = Legal m lines (history_at lines places.items) × AllSubmit lines places.items
IsAnswer m part most lines (Nothing p claim) =
    (HasOrder m lines → ⊥) × (claim < length lines) × LacksOrder m part most lines p.items × AcceptsAt lines claim
IsAnswer m part most lines (Groundless claim) = IsGroundless lines claim × AreGood lines claim
IsAnswer m part most lines (Repeated claim) = IsRepeat lines claim × AreGood lines claim
