use Rattle.std.proofs.Common.{◌≡◌, ◌++◌}
use Rattle.nop_types.specs.declared.output.Actor.TheVariants.{Replica, Sequencer, Client, Controller, Observer}
use Rattle.host_places.specs.Tables.{places_below}
use Rattle.host_places.proofs.tables.places_of.Given as goal

abbrev pub invariant-loop-replica : goal.invariant-loop-replica
invariant-loop-replica l = l.places.items ≡ l.initial.places.items ++ places_below l.fn.at.base l.fn.list Replica l.replica

abbrev pub invariant-loop-sequencer : goal.invariant-loop-sequencer
invariant-loop-sequencer l = l.places.items ≡ l.initial.places.items ++ places_below l.fn.at.base l.fn.list Sequencer l.sequencer

abbrev pub invariant-loop-controller : goal.invariant-loop-controller
invariant-loop-controller l = l.places.items ≡ l.initial.places.items ++ places_below l.fn.at.base l.fn.list Controller l.controller

abbrev pub invariant-loop-client : goal.invariant-loop-client
invariant-loop-client l = l.places.items ≡ l.initial.places.items ++ places_below l.fn.at.base l.fn.list Client l.client

abbrev pub invariant-loop-observer : goal.invariant-loop-observer
invariant-loop-observer l = l.places.items ≡ l.initial.places.items ++ places_below l.fn.at.base l.fn.list Observer l.observer
