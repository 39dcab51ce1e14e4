use Rattle.std.proofs.Common.{◌≡◌, ◌-◌}
use Rattle.transcript_reader.specs.AsRead.{Reads}
use Rattle.transcript_reader.proofs.read.read_rows.Given as goal

abbrev pub invariant-loop-scratch : goal.invariant-loop-scratch
invariant-loop-scratch g l =
    record {
      reads : Reads g.T.RowTaker.as_read g.T.RowTaker.read g.T.RowTaker.keeps (g.S.Source.left l.fn.source) (g.S.Source.left l.source)
          l.lines l.taker;
      count : g.S.Source.fault_count l.source ≡ g.S.Source.fault_count l.fn.source;
    }

abbrev pub decreases-loop-scratch : goal.decreases-loop-scratch
decreases-loop-scratch g l = 4294967295 - l.lines.line
