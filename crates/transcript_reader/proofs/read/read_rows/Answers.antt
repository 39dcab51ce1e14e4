use Rattle.std.proofs.Common.{◌∙◌, arith}
use Rattle.std.proofs.lemmas.Result.{err_from_is_err_and}
use Rattle.transcript_reader.proofs.Readings.{reads_behind, reads_on, refused_after, row_taken, finish_read, no_later_line}
use Rattle.transcript_reader.proofs.read.read_rows.Goals as goal

pub returns-in_default-clause-read : goal.returns-in_default-clause-read
returns-in_default-clause-read g c =
    let left = g.S.Source.left in
    let f = g.T.RowTaker.as_read in
    let read = g.T.RowTaker.read in
    let keeps = g.T.RowTaker.keeps in
    let now = c.next.new.lines in
    let x = c.loop-scratch.taker in
    let reads = reads_on f read keeps (left c.args.source.now) (left c.loop-scratch.source) (left c.next.new.source) c.loop-scratch.lines now x
    c.loop-scratch.invariant.reads c.in_ok-first.ensures.takes in
    let most = reads.behind.most in
    finish_read f read keeps (left c.args.source.now) (left c.next.new.source) now x reads c.finish.result c.line.result
    (rw c.in_default.is at c.in_ok-first.ensures.first) c.line.ensures.value
    (omega (arith, c.line.ensures.value, c.line.ensures.most, most)) (rw c.part.ensures at c.finish.ensures)

pub loop-scratch-preserved : goal.loop-scratch-preserved
loop-scratch-preserved g c =
    let left = g.S.Source.left in
    let f = g.T.RowTaker.as_read in
    let read = g.T.RowTaker.read in
    let keeps = g.T.RowTaker.keeps in
    let now = c.next.new.lines in
    let x = c.loop-scratch.taker in
    let reads = reads_on f read keeps (left c.args.source.now) (left c.loop-scratch.source) (left c.next.new.source) c.loop-scratch.lines now x
    c.loop-scratch.invariant.reads c.in_ok-first.ensures.takes in
    record {
      reads = row_taken f read keeps (left c.args.source.now) (left c.next.new.source) now x reads c.take_line.new.lines c.take_line.new.taker
          c.in-Some.first (rw c.in-Some.is at c.in_ok-first.ensures.first) c.in_ok-take_line.ensures.advances
          c.in_ok-take_line.ensures.row;
      count = c.in_ok-first.ensures.count.others (λ is. cc) ∙ c.loop-scratch.invariant.count;
    }

pub returns-in_err-take_line-clause-read : goal.returns-in_err-take_line-clause-read
returns-in_err-take_line-clause-read g c =
    let left = g.S.Source.left in
    let f = g.T.RowTaker.as_read in
    let read = g.T.RowTaker.read in
    let keeps = g.T.RowTaker.keeps in
    let now = c.next.new.lines in
    let x = c.loop-scratch.taker in
    let reads = reads_on f read keeps (left c.args.source.now) (left c.loop-scratch.source) (left c.next.new.source) c.loop-scratch.lines now x
    c.loop-scratch.invariant.reads c.in_ok-first.ensures.takes in
    let p = err_from_is_err_and c.from_residual-in_err-take_line.result c.from_residual-in_err-take_line.ensures.1 in
    rw (p.1, p.2) (refused_after f read keeps (left c.args.source.now) (left c.next.new.source) now x reads c.in-Some.first
    c.in_err-take_line.field-0.0 (rw c.in-Some.is at c.in_ok-first.ensures.first) c.in_err-take_line.ensures.err)

pub returns-in_err-first-clause-read : goal.returns-in_err-first-clause-read
returns-in_err-first-clause-read g c =
    let left = g.S.Source.left in
    let f = g.T.RowTaker.as_read in
    let read = g.T.RowTaker.read in
    let keeps = g.T.RowTaker.keeps in
    let now = c.next.new.lines in
    let x = c.loop-scratch.taker in
    let reads = reads_on f read keeps (left c.args.source.now) (left c.loop-scratch.source) (left c.next.new.source) c.loop-scratch.lines now x
    c.loop-scratch.invariant.reads c.in_err-first.ensures.takes in
    let p = err_from_is_err_and c.from_residual-in_err-first.result c.from_residual-in_err-first.ensures.1 in
    rw (p.1, p.2) (no_later_line f read keeps (left c.args.source.now) (left c.next.new.source) now x reads c.in_err-first.field-0.0
    c.in_err-first.ensures.err)

pub returns-in_err-read_first-clause-read : goal.returns-in_err-read_first-clause-read
returns-in_err-read_first-clause-read g c =
    let p = err_from_is_err_and c.from_residual.result c.from_residual.ensures.1 in
    rw (p.1, p.2) (c.in_err-read_first.ensures.err g.T.RowTaker.as_read)

pub loop-scratch-init : goal.loop-scratch-init
loop-scratch-init g c =
    let left = g.S.Source.left in
    record {
      reads = reads_behind g.T.RowTaker.as_read g.T.RowTaker.read g.T.RowTaker.keeps (left c.args.source.now) (left c.read_first.new.source)
          c.read_first.new.lines c.args.taker.now c.in_ok-read_first.ensures.ok c.requires.nothing c.requires.none;
      count = c.in_ok-read_first.ensures.count.others (λ is. cc);
    }
