use Rattle.std.proofs.Common.{◌≡◌, drop}
use Rattle.nop_types.specs.Execution.{exec_kept}
use Rattle.executor.specs.Running.{execution}
use Rattle.observer.proofs.entering.follow.Given as goal

-- what is left leads to the same
abbrev pub invariant-loop-entry : goal.invariant-loop-entry
invariant-loop-entry g l = record {
  rest : exec_kept g.H.Host.meaning (execution (g.H.Host.state l.host) l.table) (drop l.entry-index l.entries)
      ≡ exec_kept g.H.Host.meaning (execution (g.H.Host.state l.initial.host) l.initial.table) l.entries;
  sound : g.H.Host.is_sound (g.H.Host.state l.host);
}
