use Rattle.std.proofs.Common.{◌≡◌, ◌∙◌, ap, arith}
use Rattle.observer.specs.ObserverSteps as observer
use Rattle.observer.specs.ObserverSteps.{Observer}
use Rattle.world.specs.SeatOutcomes.{seated_of}
use Rattle.world.specs.WorldSteps.{numbered_seats}
use Rattle.world.proofs.Opening.{counted_more}
use Rattle.world.proofs.actors.observers.Goals as goal

pub loop-number-preserved : goal.loop-number-preserved
loop-number-preserved g c =
    let i = c.loop-number.invariant in
    let pushed = c.in_ok-push.ensures.items in
    let opens = c.new-in-loop-number.ensures ∙ ap (λ o. record { core = o; crashed = _ }) c.in_ok-new.ensures in
    record {
      seats = counted_more (λ o. o.state) (observer.opening c.args.config) c.loop-number.number c.loop-number.seats.items
          c.push.new.self.items c.new-in-loop-number.result i.seats pushed (ap (seated_of (λ o. o.state)) opens);
      count = omega (arith, i.count, c.in_ok-push.ensures.len);
    }

pub returns-clause-seats : goal.returns-clause-seats
returns-clause-seats g c =
    let end : c.loop-number.number ≡ c.args.config.observers =
    omega (arith, c.loop-number-test.false, c.loop-number.auto.number-end, c.observers-number-end.ensures.count) in
    c.loop-number.invariant.seats ∙ ap (numbered_seats (observer.opening c.args.config)) end
