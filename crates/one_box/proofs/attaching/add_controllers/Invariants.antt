use Rattle.std.proofs.Common.{◌≡◌, ◌++◌}
use Rattle.nop_types.specs.declared.output.Actor.TheVariants.{Controller}
use Rattle.one_box.specs.Actors.{numbered}
use Rattle.one_box.proofs.attaching.add_controllers.Given as goal

abbrev pub invariant-loop-i : goal.invariant-loop-i
invariant-loop-i l = l.actors.items ≡ l.initial.actors.items ++ numbered Controller l.i
