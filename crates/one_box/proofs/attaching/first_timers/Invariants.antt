use Rattle.std.proofs.Common.{◌≡◌, ◌≤◌, ◌-◌, take, map, length}
use Rattle.udp_node.specs.Timing.{armed}
use Rattle.world.specs.Lookups.{timers_of}
use Rattle.one_box.proofs.attaching.first_timers.Given as goal

abbrev pub invariant-loop-tick : goal.invariant-loop-tick
invariant-loop-tick g l = record {
  within : l.i ≤ length (timers_of l.world.state l.actor);
  first : l.timers.items ≡ map (armed l.now) (take l.i (timers_of l.world.state l.actor));
}

abbrev pub decreases-loop-tick : goal.decreases-loop-tick
decreases-loop-tick g l = length (timers_of l.world.state l.actor) - l.i
