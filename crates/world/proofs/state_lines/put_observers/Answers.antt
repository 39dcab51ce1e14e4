use Rattle.world.specs.SeatOutcomes.{seated_of}
use Rattle.world.proofs.StateLines.{observers_next, observers_end}
use Rattle.world.proofs.state_lines.put_observers.Goals as goal

pub loop-i-preserved : goal.loop-i-preserved
loop-i-preserved g c =
    observers_next (seated_of (λ o. o.state)) c.loop-i.i c.args.seats.now c.index-seats-i.result c.loop-i.to.items
    c.put_observer.new.to.items _ c.loop-i-test.true c.index-seats-i.is c.in_ok-put_observer.ensures c.loop-i.invariant

pub returns : goal.returns
returns g c =
    observers_end (seated_of (λ o. o.state)) c.loop-i.i c.args.seats.now c.loop-i.to.items _ c.loop-i-test.false c.loop-i.invariant
