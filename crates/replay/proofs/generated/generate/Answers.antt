use Rattle.std.proofs.lemmas.Result.{err_from_is_err_and}
use Rattle.replay.proofs.Summaries.{starved}
use Rattle.replay.proofs.generated.generate.Goals as goal

pub returns-in_err-summarise-clause-writes : goal.returns-in_err-summarise-clause-writes
returns-in_err-summarise-clause-writes g c =
    let p = err_from_is_err_and c.from_residual.result c.from_residual.ensures.1 in
    starved g.H.Host.meaning c.args.number c.args.count (g.K.Sink.held c.args.sink.now) c.from_residual.result p.0 p.1 p.2
