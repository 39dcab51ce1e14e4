use Rattle.std.proofs.Common.{◌≡◌, Option, Some, sym, ap, subst, ◌∙◌, rules}
use Rattle.nop_types.specs.Checkpoints.{Checkpoint}
use Rattle.nop_types.specs.CheckpointedLogs.{beginning}
use Rattle.client_table.specs.Table.{AllKept}
use Rattle.executor.proofs.ExecutedLemmas.{executed_nothing}
use Rattle.executor.proofs.executor.Executor.restart.Goals as goal

pub returns-in-Ok-clause-run : goal.returns-in-Ok-clause-run
returns-in-Ok-clause-run g c =
    let m = g.H.Host.meaning in
    let log = c.args.log.now in
    let checkpoint : Some c.unwrap.result.now ≡ log.checkpoint = search rules in
    rw c.clear.ensures.items
    (record {
      base = search rules;
      run =
          executed_nothing m g.H.Host.undo_of (beginning m log.checkpoint) log.entries _
          (subst (λ (o : Option Checkpoint). AllKept (beginning m o).table) checkpoint c.in-Ok.ensures.kept)
          (sym c.in-Ok.ensures.execution ∙ ap (beginning m) checkpoint);
    })
