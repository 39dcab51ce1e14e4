use Rattle.std.proofs.lemmas.Result.{err_from_is_err_and}
use Rattle.transcript_reader.proofs.AsItIs.{error, transcript}
use Rattle.transcript_reader.proofs.read.read_transcript.Goals as goal

pub returns-clause-read : goal.returns-clause-read
returns-clause-read g c =
    let left = g.S.Source.left in
    transcript (left c.args.source.now) (left c.read_rows.new.source) c.read_rows.new.taker c.in_ok-lines.lines c.in_ok-lines.ensures.read

pub returns-in_err-lines-clause-read : goal.returns-in_err-lines-clause-read
returns-in_err-lines-clause-read g c =
    let left = g.S.Source.left in
    let p = err_from_is_err_and c.from_residual.result c.from_residual.ensures.1 in
    rw (p.1, p.2) (error (left c.args.source.now) (left c.read_rows.new.source) c.in_err-lines.field-0.0 c.in_err-lines.ensures.read)
