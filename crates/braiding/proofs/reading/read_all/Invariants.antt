use Rattle.std.proofs.Common.{◌≡◌, ◌-◌}
use Rattle.braiding.specs.Orders.{texts_of}
use Rattle.braiding.specs.Reading.{Reads}
use Rattle.braiding.proofs.reading.read_all.Given as goal

abbrev pub invariant-loop-traces : goal.invariant-loop-traces
invariant-loop-traces g l = record {
  reads : Reads (g.S.Source.left l.fn.source) (g.S.Source.left l.source) l.lines (texts_of l.traces.lines.items);
  count : g.S.Source.fault_count l.source ≡ g.S.Source.fault_count l.fn.source;
}

abbrev pub decreases-loop-traces : goal.decreases-loop-traces
decreases-loop-traces g l = 4000001 - l.lines.line
