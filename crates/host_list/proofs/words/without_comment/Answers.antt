use Rattle.std.proofs.Common.{sym, ap, ◌∙◌}
use Rattle.host_list.specs.Words.{is_comment}
use Rattle.host_list.proofs.Pieces.{before_by, before_place}
use Rattle.host_list.proofs.words.without_comment.Goals as goal

pub returns-in-Some : goal.returns-in-Some
returns-in-Some c = sym (before_place is_comment c.args.line.now ∙ ap (before_by c.args.line.now) (sym c.in-Some.ensures))

pub returns-in-None : goal.returns-in-None
returns-in-None c = sym (before_place is_comment c.args.line.now ∙ ap (before_by c.args.line.now) (sym c.in-None.ensures))
