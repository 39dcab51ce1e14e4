use Rattle.nop_types.specs.declared.output.Actor.TheVariants.{Controller}
use Rattle.one_box.proofs.AttachingLemmas.{numbered_more}
use Rattle.one_box.proofs.attaching.add_controllers.Goals as goal

pub loop-i-preserved : goal.loop-i-preserved
loop-i-preserved c =
    numbered_more Controller c.args.actors.now.items c.loop-i.actors.items c.push.new.self.items c.loop-i.i c.loop-i.invariant
    c.in_ok-push.ensures.items
