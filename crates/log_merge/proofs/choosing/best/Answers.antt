use Rattle.std.proofs.Common.{◌≡◌, Bool, Some, cond, ◌∙◌, arith}
use Rattle.std.specs.Option.{option_copied}
use Rattle.nop_types.specs.declared.peer.Change.{Change}
use Rattle.nop_types.specs.Views.{is_view}
use Rattle.log_merge.specs.Given.{better_of}
use Rattle.log_merge.proofs.Best.{best_step}
use Rattle.log_merge.proofs.choosing.best.Goals.{then-is, else-is}
use Rattle.log_merge.proofs.choosing.best.Goals as goal

pub loop-change-preserved : goal.loop-change-preserved
loop-change-preserved c =
    let counts : Change → Bool = λ d. is_view d.last_normal c.args.view in
    let item = c.change-item.result in
    let is_of_view = c.is.ensures in
    let so_far = option_copied c.loop-change.best in
    let next : option_copied c.if-is.best ≡ cond (counts item) (Some (better_of so_far item)) so_far =
    elim c.if-is.branch [
      | then-is w ↦ let most = w.better.ensures in let now = w.best-is in let yes = w.if-is.true in grind (arith, most, now, yes, is_of_view)
      | else-is w ↦ let now = w.best-is in let no = w.if-is.false in grind (arith, now, no, is_of_view)
    ] in
    best_step counts c.args.changes.now c.loop-change.change-index item so_far (option_copied c.if-is.best)
    (omega arith) c.change-item.is next ∙ c.loop-change.invariant
