use Rattle.std.proofs.Common.{sym, ap, ◌∙◌}
use Rattle.std.proofs.lemmas.List.{take_rest}
use Rattle.host_list.specs.Words.{is_line_end}
use Rattle.host_list.proofs.Pieces.{parts_by, split_at_place}
use Rattle.host_list.proofs.words.cut_line.Goals as goal

pub returns-in-Some-clause-lines : goal.returns-in-Some-clause-lines
returns-in-Some-clause-lines c =
    rw take_rest (split_at_place is_line_end c.args.text.now ∙ ap (parts_by is_line_end c.args.text.now) (sym c.in-Some.ensures))

pub returns-in-None-clause-lines : goal.returns-in-None-clause-lines
returns-in-None-clause-lines c =
    split_at_place is_line_end c.args.text.now ∙ ap (parts_by is_line_end c.args.text.now) (sym c.in-None.ensures)
