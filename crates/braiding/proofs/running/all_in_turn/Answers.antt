use Rattle.std.proofs.Common.{◌∙◌, ◌++◌, ◌∷◌, [], ℕ, List, sym, ap, arith}
use Rattle.braiding.proofs.Orders.{range_more}
use Rattle.braiding.proofs.running.all_in_turn.Goals as goal

pub loop-number-preserved : goal.loop-number-preserved
loop-number-preserved c =
    c.in_ok-push.ensures.items ∙ ap (λ (t : List ℕ). t ++ c.loop-number.number ∷ []) c.loop-number.invariant
    ∙ sym (range_more 0 c.loop-number.number c.loop-number.number (omega arith))
