use Rattle.std.proofs.Common.{◌∙◌, arith, sym}
use Rattle.audit.specs.Auditing.{First}
use Rattle.audit_laws.specs.declared.fault.Fault.TheVariants.{Misspelled}
use Rattle.audit.specs.declared.row_error.RowError.TheVariants as rows
use Rattle.audit.proofs.Endings.{within}
use Rattle.audit.proofs.Headers.{first_has_no_end}
use Rattle.audit.proofs.Nexts.{first_fails, refuses, step_past, takes_first}
use Rattle.audit.proofs.reading.take_first.Goals as goal

pub begin-requires-clause-one : goal.begin-requires-clause-one
begin-requires-clause-one g c =
    let in_limits = within c.line-before.result c.args.first.len (sym c.is_too_much.ensures ∙ c.if-is_too_much.false) in
    let before = c.line-before.ensures.value in
    let less = in_limits.0 in
    let most = c.requires.most in
    rw c.text.ensures (first_has_no_end c.args.lines.now c.args.first c.requires.first (omega (arith, less, before, most)))

pub returns-in-Ok-clause-advances : goal.returns-in-Ok-clause-advances
returns-in-Ok-clause-advances g c =
    let in_limits = within c.line-before.result c.args.first.len (sym c.is_too_much.ensures ∙ c.if-is_too_much.false) in
    let before = c.line-before.ensures.value in
    let less = in_limits.0 in
    record {
      fits = omega (arith, less, before);
      short = in_limits.1;
      most = c.take.ensures.most;
      line = c.take.ensures.line;
      pending = c.take.ensures.pending;
      ended = c.take.ensures.ended;
    }

pub returns-in-Ok-clause-takes : goal.returns-in-Ok-clause-takes
returns-in-Ok-clause-takes g c =
    takes_first g.H.Host.meaning c.args.lines.now c.args.first c.requires.first c.line-before.result c.line-before.ensures.value
    (sym c.is_too_much.ensures ∙ c.if-is_too_much.false) c.in-Ok.progress (rw c.text.ensures at c.in-Ok.ensures)

pub returns-then-is_too_much-clause-err : goal.returns-then-is_too_much-clause-err
returns-then-is_too_much-clause-err g c =
    let before = c.line-before.ensures.value in
    let most = c.line-before.ensures.most in
    let at = c.saturating_add-line.ensures in
    let limit = c.requires.most in
    refuses g.H.Host.meaning c.args.lines.now c.args.first c.requires.first c.saturating_add-line.result First (rows.Faulty Misspelled) c.refused.result
    (omega (arith, before, most, at, limit)) c.refused.ensures
    (step_past g.H.Host.meaning c.args.lines.now c.args.first c.requires.first c.line-before.result First before
    (sym c.is_too_much.ensures ∙ c.if-is_too_much.true))

pub returns-in-Err-clause-err : goal.returns-in-Err-clause-err
returns-in-Err-clause-err g c =
    let before = c.line-before.ensures.value in
    let most = c.line-before.ensures.most in
    let at = c.saturating_add-line.ensures in
    let limit = c.requires.most in
    refuses g.H.Host.meaning c.args.lines.now c.args.first c.requires.first c.saturating_add-line.result First c.in-Err.e c.refused-in-Err.result
    (omega (arith, before, most, at, limit)) c.refused-in-Err.ensures
    (first_fails g.H.Host.meaning c.args.lines.now c.args.first c.requires.first c.line-before.result before
    (sym c.is_too_much.ensures ∙ c.if-is_too_much.false) c.text.result.now c.in-Err.e c.text.ensures c.in-Err.ensures)
