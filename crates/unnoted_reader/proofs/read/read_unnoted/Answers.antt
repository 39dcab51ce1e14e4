use Rattle.std.proofs.lemmas.Result.{err_from_is_err_and}
use Rattle.unnoted_reader.proofs.Steps.{marks_count, transcript}
use Rattle.unnoted_reader.proofs.read.read_unnoted.Goals as goal

pub returns-clause-read : goal.returns-clause-read
returns-clause-read g c =
    let left = g.S.Source.left in
    let read = c.in_ok-read_rows.ensures.read in
    transcript (left c.args.source.now) (left c.read_rows.new.source) c.read_rows.new.taker c.in_ok-read_rows.field-0 read

pub returns-clause-marks : goal.returns-clause-marks
returns-clause-marks g c =
    let left = g.S.Source.left in
    marks_count (left c.args.source.now) (left c.read_rows.new.source) c.read_rows.new.taker c.in_ok-read_rows.field-0
    c.in_ok-read_rows.ensures.read

pub returns-in_err-read_rows-clause-read : goal.returns-in_err-read_rows-clause-read
returns-in_err-read_rows-clause-read g c =
    let p = err_from_is_err_and c.from_residual.result c.from_residual.ensures.1 in
    rw (p.1, p.2) c.in_err-read_rows.ensures.read
