use Rattle.std.proofs.lemmas.Result.{err_from_is_err_and}
use Rattle.std.proofs.Common.{◌≡◌, ◌+◌, ◌∙◌, None, Err}
use Rattle.schedule_text.specs.declared.next_error.NextError.TheVariants.{BadLine}
use Rattle.schedule_text.specs.declared.rule.Rule.TheVariants.{WrongWord}
use Rattle.schedule_text.specs.Rules.{rule_number}
use Rattle.schedule_text.specs.Stepping.{after_step}
use Rattle.schedule_text.proofs.Takings.{then_answers}
use Rattle.schedule_text.proofs.Turns.{no_header}
use Rattle.schedule_text.proofs.reader.Reader.read_header.Goals as goal

pub returns-in_err-reach_line-clause-takes : goal.returns-in_err-reach_line-clause-takes
returns-in_err-reach_line-clause-takes g c =
    let p = err_from_is_err_and c.from_residual.result c.from_residual.ensures.1 in
    rw (p.1, p.2) c.in_err-reach_line.ensures.takes

pub returns-in-None-clause-takes : goal.returns-in-None-clause-takes
returns-in-None-clause-takes g c =
    let left = g.S.Source.left in
    let now = c.reach_line.new.self in
    let at_end = rw c.in-None.is at c.in_ok-reach_line.ensures.first in
    let closed : now.header ≡ None = c.in_ok-reach_line.ensures.header ∙ c.requires in
    rw c.bad_line.ensures
    (then_answers c.args.self.now now now (Err (BadLine (now.line + 1) (rule_number WrongWord))) (left c.args.source.now)
    (left c.reach_line.new.source) c.in_ok-reach_line.ensures.takes (no_header now closed at_end.0 at_end.1))

pub returns-in-Some-clause-takes : goal.returns-in-Some-clause-takes
returns-in-Some-clause-takes g c =
    let left = g.S.Source.left in
    then_answers c.args.self.now c.reach_line.new.self c.take_header.new.self (after_step c.take_header.result) (left c.args.source.now)
    (left c.reach_line.new.source) c.in_ok-reach_line.ensures.takes c.take_header.ensures.answers
