use Rattle.std.proofs.Common.{Option, sym, ap, subst, ◌∙◌}
use Rattle.nop_types.specs.Checkpoints.{Checkpoint}
use Rattle.nop_types.specs.CheckpointedLogs.{beginning}
use Rattle.client_table.specs.Table.{AllKept}
use Rattle.client_table.specs.Laws.{none_kept}
use Rattle.executor.proofs.UndoLemmas.{opens}
use Rattle.executor.proofs.ExecutedLemmas.{executed_nothing}
use Rattle.executor.proofs.executor.Executor.new.Goals as goal

pub returns-clause-run : goal.returns-clause-run
returns-clause-run g c log point checkpoint =
    let m = g.H.Host.meaning in
    rw c.new-2.ensures.items
    (record {
      base = sym point;
      run =
          executed_nothing m g.H.Host.undo_of (beginning m log.checkpoint) log.entries _
          (subst (λ (o : Option Checkpoint). AllKept (beginning m o).table) (sym checkpoint) none_kept)
          (opens m (g.H.Host.state c.in_ok-fresh.field-0) c.new.result c.in_ok-fresh.ensures c.new.ensures
          ∙ sym (ap (beginning m) checkpoint));
    })
