use Rattle.std.proofs.Common.{◌∙◌, List, ap, subst}
use Rattle.joined_orders.proofs.AnswerLemmas.{answer_accepts, answer_part}
use Rattle.joined_orders.proofs.order.order_of.Goals as goal
use Rattle.joined_orders.specs.Answers.{IsAnswer}
use Rattle.nop_types.specs.Lines.{Line}
use Rattle.pairs.specs.Said.{said_by}
use Rattle.transcript_reader.specs.Claims.{lines_of}

pub returns-clause-part : goal.returns-clause-part
returns-clause-part g c =
    let m = g.P.Service.Host.meaning in
    let part = g.P.Parted.part in
    let most = g.P.Parted.MAX_PARTS in
    let a = c.in_ok-answer.answer in
    let e = ap said_by c.as_slice.ensures.value ∙ c.in_ok-all.ensures in
    answer_part m part most (lines_of c.args.claims.now) a (subst (λ (t : List Line). IsAnswer m part most t a) e c.in_ok-answer.ensures.answer)

pub returns-clause-accepts : goal.returns-clause-accepts
returns-clause-accepts g c =
    let m = g.P.Service.Host.meaning in
    let part = g.P.Parted.part in
    let most = g.P.Parted.MAX_PARTS in
    let a = c.in_ok-answer.answer in
    let e = ap said_by c.as_slice.ensures.value ∙ c.in_ok-all.ensures in
    answer_accepts m part most (lines_of c.args.claims.now) a (subst (λ (t : List Line). IsAnswer m part most t a) e c.in_ok-answer.ensures.answer)
