use Rattle.std.proofs.Common.{◌∙◌, Err, arith, sym}
use Rattle.std.proofs.lemmas.Result.{err_from_is_err_and}
use Rattle.audit.specs.Auditing.{After}
use Rattle.audit.specs.declared.error.AuditError.TheVariants as errors
use Rattle.audit.proofs.Endings.{counts_as, finish_reads_nothing}
use Rattle.audit.proofs.Lines.{finished, next_taken, no_fault, no_line, on_grows, refused}
use Rattle.audit.proofs.reading.read_trace.Goals as goal

pub finish-requires : goal.finish-requires
finish-requires g c =
    let left = g.S.Source.left in
    let on = on_grows g.H.Host.meaning (left c.args.source.now) (left c.loop-progress.source) (left c.next.new.source) c.loop-progress.lines
    c.next.new.lines c.loop-progress.progress c.loop-progress.invariant.reads c.in_ok-first.ensures.takes in
    let most = on.reads.most in
    omega (arith, c.line.ensures.most, most)

pub returns-in_default-clause-read : goal.returns-in_default-clause-read
returns-in_default-clause-read g c =
    let left = g.S.Source.left in
    let now = c.next.new.lines in
    let on = on_grows g.H.Host.meaning (left c.args.source.now) (left c.loop-progress.source) (left c.next.new.source) c.loop-progress.lines now
    c.loop-progress.progress c.loop-progress.invariant.reads c.in_ok-first.ensures.takes in
    finished g.H.Host.meaning (left c.args.source.now) (left c.next.new.source) now c.loop-progress.progress c.line.result c.finish.result on
    (rw c.in_default.is at c.in_ok-first.ensures.first) c.line.ensures.value c.finish.ensures

pub loop-progress-preserved : goal.loop-progress-preserved
loop-progress-preserved g c =
    let left = g.S.Source.left in
    let now = c.next.new.lines in
    let on = on_grows g.H.Host.meaning (left c.args.source.now) (left c.loop-progress.source) (left c.next.new.source) c.loop-progress.lines now
    c.loop-progress.progress c.loop-progress.invariant.reads c.in_ok-first.ensures.takes in
    record {
      reads = next_taken g.H.Host.meaning (left c.args.source.now) (left c.next.new.source) now c.take_line.new.lines c.in-Some.first
          c.loop-progress.progress c.take_line.new.progress on (rw c.in-Some.is at c.in_ok-first.ensures.first)
          c.in_ok-take_line.ensures.advances (c.in_ok-take_line.ensures.takes on.header on.so_far on.shows);
      count = c.in_ok-first.ensures.count.others (λ is. cc) ∙ c.loop-progress.invariant.count;
    }

pub returns-in_err-take_line-clause-read : goal.returns-in_err-take_line-clause-read
returns-in_err-take_line-clause-read g c =
    let left = g.S.Source.left in
    let now = c.next.new.lines in
    let on = on_grows g.H.Host.meaning (left c.args.source.now) (left c.loop-progress.source) (left c.next.new.source) c.loop-progress.lines now
    c.loop-progress.progress c.loop-progress.invariant.reads c.in_ok-first.ensures.takes in
    let p = err_from_is_err_and c.from_residual-in_err-take_line.result c.from_residual-in_err-take_line.ensures.1 in
    rw (p.1, p.2) (refused g.H.Host.meaning (left c.args.source.now) (left c.next.new.source) now (After on.header on.so_far) c.in-Some.first
    c.in_err-take_line.field-0.0 on.reads (rw c.in-Some.is at c.in_ok-first.ensures.first)
    (c.in_err-take_line.ensures.err on.header on.so_far on.shows))

pub returns-in_err-first-clause-read : goal.returns-in_err-first-clause-read
returns-in_err-first-clause-read g c =
    let left = g.S.Source.left in
    let now = c.next.new.lines in
    let on = on_grows g.H.Host.meaning (left c.args.source.now) (left c.loop-progress.source) (left c.next.new.source) c.loop-progress.lines now
    c.loop-progress.progress c.loop-progress.invariant.reads c.in_err-first.ensures.takes in
    let p = err_from_is_err_and c.from_residual-in_err-first.result c.from_residual-in_err-first.ensures.1 in
    rw (p.1, p.2) (no_line g.H.Host.meaning (left c.args.source.now) (left c.next.new.source) now (After on.header on.so_far)
    c.in_err-first.field-0.0 on.reads c.in_err-first.ensures.err)

pub loop-progress-init : goal.loop-progress-init
loop-progress-init g c = record { reads = c.in_ok-progress.ensures.ok; count = c.in_ok-progress.ensures.count.others (λ is. cc) }

pub returns-in_err-first-clause-count : goal.returns-in_err-first-clause-count
returns-in_err-first-clause-count g c =
    let p = err_from_is_err_and c.from_residual-in_err-first.result c.from_residual-in_err-first.ensures.1 in
    rw (p.1, p.2, sym c.loop-progress.invariant.count) (counts_as (g.S.Source.fault_count c.loop-progress.source)
    (g.S.Source.fault_count c.next.new.source) c.in_err-first.field-0.0 errors.ReadFault c.in_err-first.ensures.count)

pub returns-in_default-clause-count : goal.returns-in_default-clause-count
returns-in_default-clause-count g c =
    let count = g.S.Source.fault_count in
    finish_reads_nothing c.loop-progress.progress c.line.result c.finish.result (count c.args.source.now) (count c.next.new.source)
    (c.in_ok-first.ensures.count.others (λ is. cc) ∙ c.loop-progress.invariant.count) c.finish.ensures

pub returns-in_err-take_line-clause-count : goal.returns-in_err-take_line-clause-count
returns-in_err-take_line-clause-count g c =
    let left = g.S.Source.left in
    let count = g.S.Source.fault_count in
    let now = c.next.new.lines in
    let on = on_grows g.H.Host.meaning (left c.args.source.now) (left c.loop-progress.source) (left c.next.new.source) c.loop-progress.lines now
    c.loop-progress.progress c.loop-progress.invariant.reads c.in_ok-first.ensures.takes in
    let p = err_from_is_err_and c.from_residual-in_err-take_line.result c.from_residual-in_err-take_line.ensures.1 in
    rw (p.1, p.2) (no_fault g.H.Host.meaning (count c.args.source.now) (count c.next.new.source) now c.in-Some.first
    (After on.header on.so_far) (Err c.in_err-take_line.field-0.0)
    (c.in_ok-first.ensures.count.others (λ is. cc) ∙ c.loop-progress.invariant.count)
    (c.in_err-take_line.ensures.err on.header on.so_far on.shows))
