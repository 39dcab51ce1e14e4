use Rattle.std.proofs.lemmas.Result.{err_from_is_err_and}
use Rattle.transcript_reader.specs.Reading.{First}
use Rattle.transcript_reader.proofs.Readings.{reads_first, header_ok, header_err, missing_first, no_fault, no_first_line}
use Rattle.transcript_reader.proofs.read.read_first.Goals as goal

pub returns-in-Some-clause-ok : goal.returns-in-Some-clause-ok
returns-in-Some-clause-ok g c =
    let left = g.S.Source.left in
    let now = c.next.new.lines in
    header_ok (left c.args.source.now) (left c.next.new.source) now c.take_header.new.lines c.in-Some.first
    (rw c.in-Some.is at c.in_ok-first.ensures.first) c.take_header.result
    (reads_first (left c.args.source.now) (left c.next.new.source) c.args.lines.now now c.requires c.in_ok-first.ensures.takes)
    c.take_header.ensures.advances c.take_header.ensures.header

pub returns-in-Some-clause-err : goal.returns-in-Some-clause-err
returns-in-Some-clause-err g c =
    let left = g.S.Source.left in
    let now = c.next.new.lines in
    λ f. header_err f (left c.args.source.now) (left c.next.new.source) now c.in-Some.first c.take_header.result
    (rw c.in-Some.is at c.in_ok-first.ensures.first)
    (reads_first (left c.args.source.now) (left c.next.new.source) c.args.lines.now now c.requires c.in_ok-first.ensures.takes)
    c.take_header.ensures.err

pub returns-in-Some-clause-count : goal.returns-in-Some-clause-count
returns-in-Some-clause-count g c =
    no_fault (g.S.Source.fault_count c.args.source.now) (g.S.Source.fault_count c.next.new.source) (λ text. text) c.next.new.lines c.in-Some.first First
    c.take_header.result (c.in_ok-first.ensures.count.others (λ is. cc)) c.take_header.ensures.err

pub returns-in-None-clause-err : goal.returns-in-None-clause-err
returns-in-None-clause-err g c =
    let left = g.S.Source.left in
    λ f. missing_first f (left c.args.source.now) (left c.next.new.source) c.next.new.lines
    (reads_first (left c.args.source.now) (left c.next.new.source) c.args.lines.now c.next.new.lines c.requires c.in_ok-first.ensures.takes)
    (rw c.in-None.is at c.in_ok-first.ensures.first)

pub returns-in_err-first-clause-err : goal.returns-in_err-first-clause-err
returns-in_err-first-clause-err g c =
    let left = g.S.Source.left in
    let p = err_from_is_err_and c.from_residual.result c.from_residual.ensures.1 in
    rw (p.1, p.2) (λ f. no_first_line f (left c.args.source.now) (left c.next.new.source) c.next.new.lines c.in_err-first.field-0.0
    (reads_first (left c.args.source.now) (left c.next.new.source) c.args.lines.now c.next.new.lines c.requires c.in_err-first.ensures.takes)
    c.in_err-first.ensures.err)
