use Rattle.std.proofs.Common.{sym, ap, ◌∙◌}
use Rattle.std.proofs.lemmas.List.{take_rest}
use Rattle.host_list.specs.Words.{is_blank}
use Rattle.host_list.proofs.Pieces.{parts_by, split_at_place}
use Rattle.host_list.proofs.words.cut_piece.Goals as goal

pub returns-in-Some-clause-pieces : goal.returns-in-Some-clause-pieces
returns-in-Some-clause-pieces c =
    rw take_rest (split_at_place is_blank c.args.line.now ∙ ap (parts_by is_blank c.args.line.now) (sym c.in-Some.ensures))

pub returns-in-None-clause-pieces : goal.returns-in-None-clause-pieces
returns-in-None-clause-pieces c =
    split_at_place is_blank c.args.line.now ∙ ap (parts_by is_blank c.args.line.now) (sym c.in-None.ensures)
