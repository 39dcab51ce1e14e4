use Rattle.std.proofs.Common.{length, ap, arith}
use Rattle.lemmas.proofs.Limits.{is_configuration-few_replicas}
use Rattle.world.proofs.world_state.World.replica_lines.Goals as goal

pub put_replicas-requires : goal.put_replicas-requires
put_replicas-requires g c = omega (
  arith,
  is_configuration-few_replicas c.self.inside.actors.config c.replicas-count.ensures.limits,
  c.self.invariant.0,
  ap length
      c.deref.ensures.value,
)
