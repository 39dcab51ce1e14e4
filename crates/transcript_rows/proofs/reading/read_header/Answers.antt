use Rattle.std.proofs.Common.{sym, ◌∙◌}
use Rattle.std.proofs.lemmas.Bool.{and_parts}
use Rattle.nop_types.specs.Configuration.{is_configuration}
use Rattle.nop_types.specs.Headers.{gives}
use Rattle.line_fields.specs.Fields.{fields}
use Rattle.transcript_rows.proofs.RowTexts.{no_header_read, another_header, read_fits}
use Rattle.transcript_rows.proofs.reading.read_header.Goals as goal

pub returns-in_default : goal.returns-in_default
returns-in_default c = no_header_read c.args.line.now c.header_of_line.result c.header_of_line.ensures c.in_default.is

pub is_header_of-requires : goal.is_header_of-requires
is_header_of-requires c =
    let h = c.in-Some.header in
    let fits = read_fits (fields c.args.line.now) h (sym c.header_of_line.ensures ∙ c.in-Some.is) in
    (and_parts (gives h.form h.config) (is_configuration h.config) fits).0

pub returns-then-branch : goal.returns-then-branch
returns-then-branch c =
    let fits = read_fits (fields c.args.line.now) c.in-Some.header (sym c.header_of_line.ensures ∙ c.in-Some.is) in
    (fits, rw c.if-branch.true at c.in_ok-is_header_of.ensures)

pub returns-else-branch : goal.returns-else-branch
returns-else-branch c =
    another_header c.args.line.now c.in-Some.header c.header_of_line.result c.header_of_line.ensures c.in-Some.is
    (rw c.if-branch.false at c.in_ok-is_header_of.ensures)
