use Rattle.std.proofs.Common.{sym, ap, ◌∙◌}
use Rattle.nop_types.specs.Logs.{Trimmed}
use Rattle.replica_state.specs.State.{executed_to}
use Rattle.replica_rows.proofs.Ready.{opens_running, opens_executed}
use Rattle.replica_rows.proofs.member.Member.new.Goals as goal

pub returns-clause-runs : goal.returns-clause-runs
returns-clause-runs g c =
    opens_running g.H.Host c.args.config c.args.number _ _ c.in_ok-state.ensures.state c.requires c.opening.ensures.limits
    c.in_ok-executor.ensures.run

pub returns-clause-executed : goal.returns-clause-executed
returns-clause-executed g c =
    c.in_ok-executor.ensures.reached
    ∙ sym (ap (executed_to Trimmed) c.in_ok-state.ensures.state ∙ opens_executed c.args.config c.args.number)
