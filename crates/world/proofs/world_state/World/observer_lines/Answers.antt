use Rattle.std.proofs.Common.{length, ap, arith}
use Rattle.world.proofs.StateLines.{few_observers}
use Rattle.world.proofs.world_state.World.observer_lines.Goals as goal

pub put_observers-requires : goal.put_observers-requires
put_observers-requires g c = omega (
  arith,
  few_observers c.self.inside.actors.config c.observers-count.ensures.limits,
  c.self.invariant.1,
  ap length
      c.deref.ensures.value,
)
