use Rattle.std.proofs.Common.{refl}
use Rattle.std.proofs.lemmas.Result.{err_from_is_err_and}
use Rattle.audit.specs.declared.error.AuditError.TheVariants as errors
use Rattle.audit.proofs.Endings.{counts_as, counts_ok, stays_where, unwritten}
use Rattle.audit.proofs.writing.write_passed.Goals as goal

pub returns-in_err-put_audited-clause-writes : goal.returns-in_err-put_audited-clause-writes
returns-in_err-put_audited-clause-writes g c =
    let p = err_from_is_err_and c.from_residual.result c.from_residual.ensures.1 in
    rw (p.1, p.2) (unwritten (g.K.Sink.held c.args.sink.now) c.args.progress.text.items c.args.progress.steps)

pub returns-in_err-put_audited-clause-count : goal.returns-in_err-put_audited-clause-count
returns-in_err-put_audited-clause-count g c =
    let p = err_from_is_err_and c.from_residual.result c.from_residual.ensures.1 in
    let count = g.K.Sink.fault_count c.args.sink.now in
    rw (p.1, p.2) (stays_where count count _ refl (λ is. cc))

pub returns-in_err-write-clause-count : goal.returns-in_err-write-clause-count
returns-in_err-write-clause-count g c =
    let p = err_from_is_err_and c.from_residual-in_err-write.result c.from_residual-in_err-write.ensures.1 in
    rw (p.1, p.2) (counts_as (g.K.Sink.fault_count c.args.sink.now) (g.K.Sink.fault_count c.write.new.sink) c.in_err-write.field-0.0
    errors.WriteFault c.in_err-write.ensures.count)

pub returns-clause-count : goal.returns-clause-count
returns-clause-count g c =
    counts_ok (g.K.Sink.fault_count c.args.sink.now) (g.K.Sink.fault_count c.write.new.sink) c.in_ok-write.field-0 c.args.progress.steps
    errors.WriteFault c.in_ok-write.ensures.count
