-- What an answer says of a part.
use Rattle.std.proofs.Common.{ℕ, List}
use Rattle.joined_orders.specs.Answers.{IfNothing, IsAnswer, LacksOrder}
use Rattle.joined_orders.specs.declared.linearized.Linearized.{Linearized}
use Rattle.joined_orders.specs.declared.linearized.Linearized.TheVariants.{Order, Nothing, Groundless, Repeated}
use Rattle.nop_types.specs.Lines.{Line}
use Rattle.nop_types.specs.Meaning.{Meaning}
use Rattle.order_search.specs.Bounds.{AcceptsAt}

pub answer_part : {S : Type 0} (m : Meaning S) (part : List ℕ → List ℕ) (most : ℕ) (lines : List Line) (a : Linearized)
    → IsAnswer m part most lines a → IfNothing a (λ p claim. LacksOrder m part most lines p)
answer_part m part most lines (Order places) h = tt
answer_part m part most lines (Nothing p claim) h = h.2
answer_part m part most lines (Groundless claim) h = tt
answer_part m part most lines (Repeated claim) h = tt

pub answer_accepts : {S : Type 0} (m : Meaning S) (part : List ℕ → List ℕ) (most : ℕ) (lines : List Line) (a : Linearized)
    → IsAnswer m part most lines a → IfNothing a (λ p claim. AcceptsAt lines claim)
answer_accepts m part most lines (Order places) h = tt
answer_accepts m part most lines (Nothing p claim) h = h.3
answer_accepts m part most lines (Groundless claim) h = tt
answer_accepts m part most lines (Repeated claim) h = tt
