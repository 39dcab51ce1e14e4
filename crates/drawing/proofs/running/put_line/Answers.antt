use Rattle.std.proofs.Common.{◌++◌, codes, decimal, sym, subst, append_assoc}
use Rattle.picture.specs.Texts.{Grows}
use Rattle.picture.proofs.TextLemmas.{grows_twice}
use Rattle.drawing.proofs.running.put_line.Goals as goal

pub returns : goal.returns
returns c =
    subst (Grows c.args.to.now c.numbered-2.new.self)
    (sym (append_assoc (codes "error line " ++ decimal c.args.line) (codes " rule ") (decimal c.args.rule)))
    (grows_twice c.args.to.now c.numbered.new.self c.numbered-2.new.self (codes "error line " ++ decimal c.args.line)
    (codes " rule " ++ decimal c.args.rule) c.numbered.ensures c.numbered-2.ensures)
