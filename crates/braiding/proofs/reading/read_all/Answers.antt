use Rattle.std.proofs.Common.{◌∙◌, [], refl}
use Rattle.std.proofs.lemmas.Result.{err_from_is_err_and}
use Rattle.braiding.specs.Orders.{texts_of}
use Rattle.braiding.proofs.Readings.{line_taken, no_line, reads_nothing, reads_on, refused}
use Rattle.braiding.proofs.reading.read_all.Goals as goal

pub loop-traces-init : goal.loop-traces-init
loop-traces-init g c = record {
  reads = rw (c.new-lines.ensures, c.new-traces.ensures)
      (reads_nothing (g.S.Source.left c.args.source.now) [] refl);
  count = refl {a = g.S.Source.fault_count c.args.source.now};
}

pub returns-in_default-clause-read : goal.returns-in_default-clause-read
returns-in_default-clause-read g c =
    let left = g.S.Source.left in
    let l = c.loop-traces in record {
      reader = c.next.new.lines;
      reads = reads_on (left c.args.source.now) (left l.source) (left c.next.new.source) l.lines c.next.new.lines (texts_of l.traces.lines.items)
          l.invariant.reads c.in_ok-first.ensures.takes;
      end = rw c.in_default.is at c.in_ok-first.ensures.first;
    }

pub loop-traces-preserved : goal.loop-traces-preserved
loop-traces-preserved g c =
    let left = g.S.Source.left in
    let l = c.loop-traces in
    let now = c.next.new.lines in
    let lines = texts_of l.traces.lines.items in
    record {
      reads = line_taken (left c.args.source.now) (left c.next.new.source) now lines
          (reads_on (left c.args.source.now) (left l.source) (left c.next.new.source) l.lines now lines l.invariant.reads c.in_ok-first.ensures.takes)
          c.in-Some.first (rw c.in-Some.is at c.in_ok-first.ensures.first) c.take_line.new.lines (texts_of c.take_line.new.traces.lines.items)
          c.in_ok-take_line.ensures.advances c.in_ok-take_line.ensures.taken;
      count = c.in_ok-first.ensures.count.others (λ is. cc) ∙ l.invariant.count;
    }

pub returns-in_err-take_line-clause-read : goal.returns-in_err-take_line-clause-read
returns-in_err-take_line-clause-read g c =
    let left = g.S.Source.left in
    let l = c.loop-traces in
    let now = c.next.new.lines in
    let lines = texts_of l.traces.lines.items in
    let p = err_from_is_err_and c.from_residual-in_err-take_line.result c.from_residual-in_err-take_line.ensures.1 in
    rw (p.1, p.2) (refused (left c.args.source.now) (left c.next.new.source) now lines
    (reads_on (left c.args.source.now) (left l.source) (left c.next.new.source) l.lines now lines l.invariant.reads c.in_ok-first.ensures.takes)
    c.in-Some.first (rw c.in-Some.is at c.in_ok-first.ensures.first) c.in_err-take_line.field-0.0 c.in_err-take_line.ensures.err)

pub returns-in_err-first-clause-read : goal.returns-in_err-first-clause-read
returns-in_err-first-clause-read g c =
    let left = g.S.Source.left in
    let l = c.loop-traces in
    let now = c.next.new.lines in
    let lines = texts_of l.traces.lines.items in
    let p = err_from_is_err_and c.from_residual.result c.from_residual.ensures.1 in
    rw (p.1, p.2) (no_line (left c.args.source.now) (left c.next.new.source) now lines c.in_err-first.field-0.0
    (reads_on (left c.args.source.now) (left l.source) (left c.next.new.source) l.lines now lines l.invariant.reads c.in_err-first.ensures.takes)
    c.in_err-first.ensures.err)
