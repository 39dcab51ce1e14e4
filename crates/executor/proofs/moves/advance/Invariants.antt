use Rattle.std.proofs.Common.{◌≤◌, ◌-◌, length}
use Rattle.nop_types.specs.CheckpointedLogs.{beginning}
use Rattle.executor.specs.Running.{execution}
use Rattle.executor.specs.Undoing.{IsExecuted, UndosFit}
use Rattle.executor.proofs.moves.advance.Given as goal

abbrev pub invariant-loop-entries : goal.invariant-loop-entries
invariant-loop-entries g l = record {
  stays : length l.initial.undos.items ≤ length l.undos.items;
  within : length l.undos.items ≤ l.count;
  run : IsExecuted g.H.Host.meaning g.H.Host.undo_of (beginning g.H.Host.meaning l.log.checkpoint) l.log.entries
      (execution (g.H.Host.state l.host) l.table) l.undos.items;
  fits : UndosFit (g.H.Host.fits l.host) l.undos.items;
}

abbrev pub decreases-loop-entries : goal.decreases-loop-entries
decreases-loop-entries g l = l.count - length l.undos.items
