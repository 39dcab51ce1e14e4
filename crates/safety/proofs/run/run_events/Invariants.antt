use Rattle.std.proofs.Common.{◌≡◌, false}
use Rattle.safety.specs.Safe.{Running}
use Rattle.safety.proofs.run.run_events.Given as goal

abbrev pub invariant-loop-event : goal.invariant-loop-event
invariant-loop-event g l = record {
  runs : Running g.H.Host.meaning l.fn.config l.events l.world.state l.event-index;
  well : l.world.failed ≡ false;
}
