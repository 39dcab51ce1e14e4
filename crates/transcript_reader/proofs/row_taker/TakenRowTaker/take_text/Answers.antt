use Rattle.transcript_reader.proofs.RowLemmas.{taken_as}
use Rattle.transcript_reader.specs.Steps.{so_far}
use Rattle.transcript_reader.proofs.row_taker.TakenRowTaker.take_text.Goals as goal

pub returns-in-Some : goal.returns-in-Some
returns-in-Some c =
    let is = rw c.in-Some.is at c.in_ok-row.ensures in
    taken_as so_far c.args.line c.args.text.now c.in-Some.row c.args.self.now c.take_row.new.self is.0 is.1 c.take_row.result
    c.take_row.ensures
