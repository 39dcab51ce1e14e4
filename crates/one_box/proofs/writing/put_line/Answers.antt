use Rattle.std.proofs.Common.{◌∷◌, []}
use Rattle.std.specs.Prelude.{decimal}
use Rattle.one_box.proofs.TextLemmas.{labelled}
use Rattle.one_box.proofs.writing.put_line.Goals as goal

pub returns : goal.returns
returns c =
    labelled c.args.to.now.items c.args.first.now (decimal c.args.a) c.args.second.now (decimal c.args.b) c.args.third.now
    (decimal c.args.c) (10 ∷ []) c.put_labelled.new.to.items c.put_labelled-2.new.to.items c.put_labelled-3.new.to.items
    c.push.new.self.items
    c.in_ok-put_labelled.ensures c.in_ok-put_labelled-2.ensures c.in_ok-put_labelled-3.ensures c.in_ok-push.ensures.items
