use Rattle.std.proofs.Common.{◌≡◌, rules}
use Rattle.std.specs.Option.{option_copied}
use Rattle.nop_types.specs.Checkpoints.{KeepsTo}
use Rattle.nop_types.specs.Tables.{kept_for, result_kept}
use Rattle.executor.proofs.ResultLemmas.{result_of_executed, short_of_executed}
use Rattle.executor.proofs.executor.Executor.result.Goals as goal

pub returns-clause-slot : goal.returns-clause-slot
returns-clause-slot g c log h =
    let kept : option_copied c.kept_result.result ≡ result_kept (kept_for c.args.self.now.table c.args.client) c.args.id = search rules in
    result_of_executed g.H.Host.state g.H.Host.meaning g.H.Host.undo_of log c.args.self.now h c.args.client c.args.id
    (option_copied c.kept_result.result) kept

pub returns-clause-short : goal.returns-clause-short
returns-clause-short g c log fits h =
    let keeps : KeepsTo g.H.Host.meaning g.H.Host.is_sound = search (g.met.H.Host) in
    let kept : option_copied c.kept_result.result ≡ result_kept (kept_for c.args.self.now.table c.args.client) c.args.id = search rules in
    short_of_executed g.H.Host.state g.H.Host.meaning g.H.Host.undo_of log c.args.self.now h g.H.Host.is_sound keeps fits c.args.client
    c.args.id (option_copied c.kept_result.result) kept
