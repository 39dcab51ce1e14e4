use Rattle.std.proofs.Common.{◌≤◌, length}
use Rattle.nop_types.specs.CheckpointedLogs.{beginning}
use Rattle.executor.specs.Running.{execution}
use Rattle.executor.specs.Undoing.{IsExecuted, UndosFit}
use Rattle.executor.proofs.moves.go_back.Given as goal

abbrev pub invariant-loop-undos : goal.invariant-loop-undos
invariant-loop-undos g l = record {
  back : l.count ≤ length l.undos.items;
  run : IsExecuted g.H.Host.meaning g.H.Host.undo_of (beginning g.H.Host.meaning l.log.checkpoint) l.log.entries
      (execution (g.H.Host.state l.host) l.table) l.undos.items;
  fits : UndosFit (g.H.Host.fits l.host) l.undos.items;
}

abbrev pub decreases-loop-undos : goal.decreases-loop-undos
decreases-loop-undos g l = length l.undos.items
