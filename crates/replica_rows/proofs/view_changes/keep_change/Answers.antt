use Rattle.std.proofs.Common.{sym, ap, ◌∙◌}
use Rattle.replica_rows.specs.Gathering.{step_by}
use Rattle.replica_rows.proofs.Gathered.{keeps_none, keeps_more}
use Rattle.replica_rows.proofs.view_changes.keep_change.Goals as goal

pub returns-in_default-clause-kept : goal.returns-in_default-clause-kept
returns-in_default-clause-kept c =
    keeps_none c.args.state.now c.take.new.self c.args.change c.take.ensures.after (sym c.take.ensures.value ∙ c.in_default.is)

pub returns-in_default-clause-step : goal.returns-in_default-clause-step
returns-in_default-clause-step c = ap (λ o. step_by o c.args.change) (sym (sym c.take.ensures.value ∙ c.in_default.is))

pub returns-then-is_enough_with-clause-kept : goal.returns-then-is_enough_with-clause-kept
returns-then-is_enough_with-clause-kept c = ap (λ o. record c.args.state.now { changes = o }) c.take.ensures.after

pub returns-clause-kept : goal.returns-clause-kept
returns-clause-kept c =
    keeps_more c.args.state.now c.in-Some.changes c.on_change.new.self c.args.change (sym c.take.ensures.value ∙ c.in-Some.is)
    c.in_ok-on_change.ensures.after
