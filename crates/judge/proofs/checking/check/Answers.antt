use Rattle.std.proofs.lemmas.Result.{err_from_is_err_and}
use Rattle.judge.proofs.Checked.{numbered, checked}
use Rattle.judge.proofs.Exact.{passes, error_passes}
use Rattle.transcript_reader.specs.Steps.{so_far}
use Rattle.judge.proofs.checking.check.Goals as goal

pub returns-in_err-taken-clause-passes : goal.returns-in_err-taken-clause-passes
returns-in_err-taken-clause-passes g c =
    let p = err_from_is_err_and c.from_residual.result c.from_residual.ensures.1 in
    rw (p.1, p.2)
    (error_passes g.H.Host.meaning (g.S.Source.left c.args.source.now) (g.S.Source.left c.read_transcript.new.source) c.in_err-taken.field-0.0
    c.in_err-taken.ensures.read)

pub judge-requires : goal.judge-requires
judge-requires g c =
    numbered (g.S.Source.left c.args.source.now) (g.S.Source.left c.read_transcript.new.source) (so_far c.in_ok-taken.taken) c.in_ok-taken.lines
    c.in_ok-taken.ensures.read

pub returns-clause-checked : goal.returns-clause-checked
returns-clause-checked g c =
    checked (g.S.Source.left c.args.source.now) (g.S.Source.left c.read_transcript.new.source) (so_far c.in_ok-taken.taken) c.in_ok-taken.lines
    c.in_ok-taken.ensures.read g.H.Host.meaning c.judge.result c.judge.ensures

pub returns-clause-passes : goal.returns-clause-passes
returns-clause-passes g c =
    passes g.H.Host.meaning (g.S.Source.left c.args.source.now) (g.S.Source.left c.read_transcript.new.source) c.judge.result
    (checked (g.S.Source.left c.args.source.now) (g.S.Source.left c.read_transcript.new.source) (so_far c.in_ok-taken.taken) c.in_ok-taken.lines
    c.in_ok-taken.ensures.read g.H.Host.meaning c.judge.result c.judge.ensures)
