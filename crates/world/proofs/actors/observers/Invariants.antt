use Rattle.std.proofs.Common.{◌≡◌, length}
use Rattle.std.specs.Prelude.{map}
use Rattle.observer.specs.ObserverSteps as observer
use Rattle.world.specs.SeatOutcomes.{seated_of}
use Rattle.world.specs.WorldSteps.{numbered_seats}
use Rattle.world.proofs.actors.observers.Given as goal

abbrev pub invariant-loop-number : goal.invariant-loop-number
invariant-loop-number g l =
    record {
      seats : map (seated_of (λ o. o.state)) l.seats.items ≡ numbered_seats (observer.opening l.config) l.number;
      count : length l.seats.items ≡ l.number;
    }
