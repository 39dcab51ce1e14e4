use Rattle.std.proofs.Common.{rules}
use Rattle.nop_types.specs.Checkpoints.{KeepsTo}
use Rattle.executor.proofs.ResultLemmas.{executed_raised}
use Rattle.executor.proofs.executor.Executor.rebase.Goals as goal

pub returns-clause-run : goal.returns-clause-run
returns-clause-run g c log h =
    let keeps : KeepsTo g.H.Host.meaning g.H.Host.is_sound = search (g.met.H.Host) in
    executed_raised g.H.Host.state g.H.Host.meaning g.H.Host.undo_of log c.args.self.now h g.H.Host.is_sound keeps _
    (search rules) (search rules) (search rules) (search rules)
