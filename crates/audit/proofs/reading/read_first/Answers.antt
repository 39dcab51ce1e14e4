use Rattle.std.proofs.Common.{◌∙◌, refl}
use Rattle.std.proofs.lemmas.Result.{err_from_is_err_and}
use Rattle.audit.specs.Auditing.{First}
use Rattle.audit.proofs.Lines.{first_err, first_ok, missing_first, no_fault, no_line, reads_first}
use Rattle.audit.proofs.reading.read_first.Goals as goal

pub returns-in-Some-clause-ok : goal.returns-in-Some-clause-ok
returns-in-Some-clause-ok g c =
    let left = g.S.Source.left in
    let m = g.H.Host.meaning in
    let now = c.next.new.lines in
    first_ok m (left c.args.source.now) (left c.next.new.source) now c.take_first.new.lines c.in-Some.first
    (rw c.in-Some.is at c.in_ok-first.ensures.first) c.take_first.result
    (reads_first m (left c.args.source.now) (left c.next.new.source) c.args.lines.now now c.requires c.in_ok-first.ensures.takes)
    c.take_first.ensures.advances c.take_first.ensures.takes

pub returns-in-Some-clause-err : goal.returns-in-Some-clause-err
returns-in-Some-clause-err g c =
    let left = g.S.Source.left in
    let m = g.H.Host.meaning in
    let now = c.next.new.lines in
    first_err m (left c.args.source.now) (left c.next.new.source) now c.take_first.new.lines c.in-Some.first
    (rw c.in-Some.is at c.in_ok-first.ensures.first) c.take_first.result
    (reads_first m (left c.args.source.now) (left c.next.new.source) c.args.lines.now now c.requires c.in_ok-first.ensures.takes)
    c.take_first.ensures.err

pub returns-in-Some-clause-count : goal.returns-in-Some-clause-count
returns-in-Some-clause-count g c =
    no_fault g.H.Host.meaning (g.S.Source.fault_count c.args.source.now) (g.S.Source.fault_count c.next.new.source) c.next.new.lines
    c.in-Some.first First c.take_first.result (c.in_ok-first.ensures.count.others (λ is. cc)) c.take_first.ensures.err

pub returns-in_err-first-clause-err : goal.returns-in_err-first-clause-err
returns-in_err-first-clause-err g c =
    let left = g.S.Source.left in
    let m = g.H.Host.meaning in
    let now = c.next.new.lines in
    let p = err_from_is_err_and c.from_residual.result c.from_residual.ensures.1 in
    rw (p.1, p.2) (no_line m (left c.args.source.now) (left c.next.new.source) now First c.in_err-first.field-0.0
    (reads_first m (left c.args.source.now) (left c.next.new.source) c.args.lines.now now c.requires c.in_err-first.ensures.takes)
    c.in_err-first.ensures.err)

pub returns-in-None-clause-err : goal.returns-in-None-clause-err
returns-in-None-clause-err g c =
    let left = g.S.Source.left in
    let m = g.H.Host.meaning in
    let now = c.next.new.lines in
    rw c.refused.ensures (missing_first m (left c.args.source.now) (left c.next.new.source) now
    (reads_first m (left c.args.source.now) (left c.next.new.source) c.args.lines.now now c.requires c.in_ok-first.ensures.takes)
    (rw c.in-None.is at c.in_ok-first.ensures.first) (c.in_ok-first.ensures.takes.grows.line ∙ rw c.requires refl))
