use Rattle.transcript_text.proofs.LineLemmas.{second_form, third_form}
use Rattle.transcript_text.proofs.lines.counted_line.Goals as goal

pub returns-else-form-eq2-clause-ok : goal.returns-else-form-eq2-clause-ok
returns-else-form-eq2-clause-ok c =
    let text = rw (
      c.from.ensures,
      c.from-2.ensures,
      c.from-3.ensures,
      c.from-4.ensures,
      c.from-5.ensures,
      c.from-6.ensures,
      c.replicas.ensures.count,
      c.sequencers.ensures,
      c.clients.ensures,
      c.controllers.ensures.count,
      c.observers.ensures.count,
    ) at c.write_line-else-form-eq2.ensures.ok in
    rw (← third_form c.args.word.now c.args.form c.args.config c.requires c.if-form-eq2.false) text

pub returns-then-form-eq2-clause-ok : goal.returns-then-form-eq2-clause-ok
returns-then-form-eq2-clause-ok c =
    let text = rw (
      c.from.ensures,
      c.from-2.ensures,
      c.from-3.ensures,
      c.from-4.ensures,
      c.from-5.ensures,
      c.replicas.ensures.count,
      c.sequencers.ensures,
      c.clients.ensures,
      c.controllers.ensures.count,
      c.if-form-eq2.true,
    ) at c.write_line.ensures.ok in
    rw (c.if-form-eq2.true) (rw (← second_form c.args.word.now c.args.config) text)
