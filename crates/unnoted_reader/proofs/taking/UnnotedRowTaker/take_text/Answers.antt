use Rattle.unnoted_reader.proofs.Steps.{row_is_taken}
use Rattle.unnoted_reader.proofs.taking.UnnotedRowTaker.take_text.Goals as goal

pub returns-in-Some : goal.returns-in-Some
returns-in-Some c =
    let is = rw c.in-Some.is at c.in_ok-row.ensures in
    row_is_taken c.args.line c.args.text.now c.in-Some.row c.is_unnoted-unnoted.result c.args.self.now c.take_row.new.to is.0 is.1
    c.is_unnoted-unnoted.ensures c.take_row.result c.take_row.ensures
