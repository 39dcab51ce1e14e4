use Rattle.std.proofs.Common.{◌∙◌, ℕ, Bool, List, ap, length, subst, sym}
use Rattle.linearize.proofs.Answered.{answered, input}
use Rattle.linearize.proofs.answering.answer.Goals as goal
use Rattle.linearize.specs.Answering.{IsInput}
use Rattle.linearize.specs.Answers.{IsRight}
use Rattle.transcript_reader.specs.Claims.{lines_of}
use Rattle.transcript_reader.specs.Steps.{so_far}
use Rattle.unknown_results.specs.Asking.{unknown_in}

pub answer_of-requires-clause-input : goal.answer_of-requires-clause-input
answer_of-requires-clause-input g c =
    let read = c.in_ok-read.read in
    subst (IsInput (lines_of read.taken.claims.items)) (sym c.deref-2.ensures.value)
    (input (g.S.Source.left c.args.source.now) (g.S.Source.left c.read_unnoted.new.source) (so_far read.taken) read.marks.items
    c.in_ok-read.ensures.read)

pub answer_of-requires-clause-marks : goal.answer_of-requires-clause-marks
answer_of-requires-clause-marks g c = ap length c.deref.ensures.value ∙ c.in_ok-read.ensures.marks

pub returns-clause-answered : goal.returns-clause-answered
returns-clause-answered g c =
    let read = c.in_ok-read.read in
    let ls = lines_of read.taken.claims.items in
    let m = g.P.Service.Host.meaning in
    let part = g.P.Parted.part in
    let most = g.P.Parted.MAX_PARTS in
    answered (g.S.Source.left c.args.source.now) (g.S.Source.left c.read_unnoted.new.source) (so_far read.taken) read.marks.items
    c.in_ok-read.ensures.read m part most c.args.most c.answer_of.result
    (subst (λ (ns : List ℕ). IsRight m part most (unknown_in read.marks.items ls) ls ns c.args.most c.answer_of.result)
    c.deref-2.ensures.value
    (subst (λ (ms : List Bool). IsRight m part most (unknown_in ms ls) ls c.deref-2.result.now c.args.most c.answer_of.result)
    c.deref.ensures.value c.answer_of.ensures.right))
