use Rattle.std.proofs.Common.{sym, ◌∙◌}
use Rattle.std.proofs.lemmas.Bool.{false≢true}
use Rattle.transcript_rows.proofs.RowTexts.{nothing_read, another_read}
use Rattle.transcript_rows.proofs.reading.read_row.Goals as goal

pub returns-in_default : goal.returns-in_default
returns-in_default c = nothing_read c.args.line.now c.in_ok-row.field-0 c.in_ok-row.ensures c.in_default.is

pub returns-then-not-row_fits : goal.returns-then-not-row_fits
returns-then-not-row_fits c =
    another_read c.args.line.now c.in-Some.row c.in_ok-row.field-0 c.in_ok-row.ensures c.in-Some.is
    (λ h same. false≢true (sym c.if-not-row_fits.true ∙ (c.row_fits.ensures ∙ h.ranges)))

pub returns-else-branch : goal.returns-else-branch
returns-else-branch c =
    another_read c.args.line.now c.in-Some.row c.in_ok-row.field-0 c.in_ok-row.ensures c.in-Some.is
    (λ h. rw c.if-branch.false at c.in_ok-is_text_of.ensures)
