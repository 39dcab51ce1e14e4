use Rattle.linearize.proofs.Ended.{wrote_answer}
use Rattle.linearize.proofs.running.linearize.Goals as goal

pub returns-in-Ok-clause-ends : goal.returns-in-Ok-clause-ends
returns-in-Ok-clause-ends g c =
    let answer = c.answer-answer in
    wrote_answer g.P.Service.Host.meaning g.P.Parted.part g.P.Parted.MAX_PARTS c.args.most (g.S.Source.left c.args.source.now) (g.S.Source.left answer.new.source)
    (g.K.Sink.held c.args.sink.now) (g.K.Sink.held c.write_answer.new.sink) answer.result c.status_of.result c.status_of.ensures
    answer.ensures.answered c.in-Ok.ensures.writes
