-- What is found of lines whose results are not all known.
use Rattle.std.specs.Prelude.{◌<◌, ℕ, Bool, List, length}
use Rattle.fronts.specs.Fronts.{HasOrder}
use Rattle.joined_orders.specs.Answers.{IfGroundless, IfNothing, IfOrder, IfRepeated, LacksOrder}
use Rattle.joined_orders.specs.declared.linearized.Linearized.{Linearized}
use Rattle.joined_orders.specs.declared.linearized.Linearized.TheVariants.{Order, Nothing, Groundless, Repeated}
use Rattle.nop_types.specs.Legality.{Legal}
use Rattle.nop_types.specs.Lines.{Line}
use Rattle.nop_types.specs.Meaning.{Meaning}
use Rattle.order_search.specs.Bounds.{AcceptsAt}
use Rattle.order_search.specs.Turns.{AllSubmit, history_at}
use Rattle.pairs.specs.Stops.{AreGood, IsGroundless, IsRepeat}
use Rattle.unknown_results.specs.Filling.{Fills, HasNoOrder}

module _ {S : Type 0} (m : Meaning S) (part : List ℕ → List ℕ) (most : ℕ) (unknown : ℕ → ℕ → Bool) (lines : List Line) where
  -- whatever the unknown results are, the lines of the part alone have no order, or there are more parts than a service may have
  abbrev pub LacksOrders : List ℕ → Type 0
  LacksOrders p = (filled : List Line) → Fills unknown lines filled → LacksOrder m part most filled p

  -- an order of the lines with these results
  pub record IsFilledOrder (filled : List Line) (places : List ℕ) : Type 0 where
    pub fills : Fills unknown lines filled
    pub legal : Legal m filled (history_at filled places)
    pub submit : AllSubmit filled places

  -- there is none; the line at this place accepts
  pub record HasNone (p : List ℕ) (claim : ℕ) : Type 0 where
    pub none : HasNoOrder m unknown lines
    pub part_lacks : LacksOrders p
    pub within : claim < length lines
    pub accepts : AcceptsAt lines claim

  -- what an answer says of the lines; an order is one of the lines with these results
  abbrev pub IsFilledAnswer : List Line → Linearized → Type 0
  IsFilledAnswer filled (Order places) = IsFilledOrder filled places.items
  IsFilledAnswer filled (Nothing p claim) = HasNone p.items claim
  IsFilledAnswer filled (Groundless claim) = IsGroundless lines claim × AreGood lines claim
  IsFilledAnswer filled (Repeated claim) = IsRepeat lines claim × AreGood lines claim

-- what `order_of` says of lines
pub record IsSaid {S : Type 0} (m : Meaning S) (part : List ℕ → List ℕ) (most : ℕ) (lines : List Line) (found : Linearized)
    : Type 0 where
  pub legal : IfOrder found (λ places. Legal m lines (history_at lines places))
  pub submit : IfOrder found (AllSubmit lines)
  pub none : IfNothing found (λ p claim. HasOrder m lines → ⊥)
  pub part_lacks : IfNothing found (λ p claim. LacksOrder m part most lines p)
  pub within : IfNothing found (λ p claim. claim < length lines)
  pub accepts : IfNothing found (λ p claim. AcceptsAt lines claim)
  pub groundless : IfGroundless found (λ claim. IsGroundless lines claim × AreGood lines claim)
  pub repeated : IfRepeated found (λ claim. IsRepeat lines claim × AreGood lines claim)
