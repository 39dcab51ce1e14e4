use Rattle.std.proofs.Common.{rules}
use Rattle.nop_types.specs.CheckpointedLogs.{beginning}
use Rattle.executor.specs.Running.{execution}
use Rattle.executor.proofs.ExecutedLemmas.{last_may_unkeep, executed_before, fit_prefix, fit_still}
use Rattle.executor.proofs.moves.go_back.Goals as goal

pub leave-requires-clause-kept : goal.leave-requires-clause-kept
leave-requires-clause-kept g c =
    let log = c.args.log.now in
    let x = execution (g.H.Host.state c.loop-undos.host) c.loop-undos.table in
    last_may_unkeep g.H.Host.meaning g.H.Host.undo_of (beginning g.H.Host.meaning log.checkpoint) log.entries x c.pop.new.self.items
    c.in-Some.slot_undo (rw c.in-Some.ensures.items at c.loop-undos.invariant.run)

pub loop-undos-preserved-in-Some : goal.loop-undos-preserved-in-Some
loop-undos-preserved-in-Some g c =
    let log = c.args.log.now in
    let x = execution (g.H.Host.state c.loop-undos.host) c.loop-undos.table in
    let y = execution (g.H.Host.state c.leave.new.host) c.leave.new.table in
    record {
      back = search rules;
      run =
          executed_before g.H.Host.meaning g.H.Host.undo_of (beginning g.H.Host.meaning log.checkpoint) log.entries g.H.Host.undone
          g.met.H.Host.undoes x y c.pop.new.self.items c.in-Some.slot_undo
          (rw c.in-Some.ensures.items at c.loop-undos.invariant.run) c.leave.ensures.execution;
      fits =
          fit_still (g.H.Host.fits c.loop-undos.host) (g.H.Host.fits c.leave.new.host) c.leave.ensures.still_fits c.pop.new.self.items
          (fit_prefix (g.H.Host.fits c.loop-undos.host) c.pop.new.self.items c.in-Some.slot_undo
          (rw c.in-Some.ensures.items at c.loop-undos.invariant.fits)).0;
    }
