use Rattle.std.proofs.Common.{sym, ap, ◌∙◌}
use Rattle.std.proofs.lemmas.List.{take_rest}
use Rattle.line_fields.proofs.SplitLemmas.{fields_by, fields_cut}
use Rattle.line_fields.proofs.split.cut.Goals as goal

pub returns-in-Some : goal.returns-in-Some
returns-in-Some c = rw take_rest (fields_cut c.args.line.now ∙ ap (fields_by c.args.line.now) (sym c.in-Some.ensures))
