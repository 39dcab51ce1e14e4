use Rattle.std.proofs.Common.{◌≡◌, ◌-◌}
use Rattle.audit.specs.Steps.{ReadsOn}
use Rattle.audit.proofs.reading.read_trace.Given as goal

abbrev pub invariant-loop-progress : goal.invariant-loop-progress
invariant-loop-progress g l =
    record {
      reads : ReadsOn g.H.Host.meaning (g.S.Source.left l.fn.source) (g.S.Source.left l.source) l.lines l.progress;
      count : g.S.Source.fault_count l.source ≡ g.S.Source.fault_count l.fn.source;
    }

abbrev pub decreases-loop-progress : goal.decreases-loop-progress
decreases-loop-progress g l = 4000001 - l.lines.line
