use Rattle.std.proofs.Common.{◌≡◌, ◌++◌}
use Rattle.nop_types.specs.declared.output.Actor.TheVariants.{Replica}
use Rattle.one_box.specs.Actors.{numbered}
use Rattle.one_box.proofs.attaching.add_replicas.Given as goal

abbrev pub invariant-loop-i : goal.invariant-loop-i
invariant-loop-i l = l.actors.items ≡ l.initial.actors.items ++ numbered Replica l.i
