use Rattle.world.specs.SeatOutcomes.{seated_of}
use Rattle.world.proofs.StateLines.{replicas_next, replicas_end}
use Rattle.world.proofs.state_lines.put_replicas.Goals as goal

pub loop-i-preserved : goal.loop-i-preserved
loop-i-preserved g c =
    replicas_next c.args.archive.now (seated_of (λ r. r.state)) c.loop-i.i c.args.seats.now c.index-seats-i.result c.loop-i.to.items
    c.put_replica.new.to.items _ c.loop-i-test.true c.index-seats-i.is c.in_ok-put_replica.ensures c.loop-i.invariant

pub returns : goal.returns
returns g c =
    replicas_end c.args.archive.now (seated_of (λ r. r.state)) c.loop-i.i c.args.seats.now c.loop-i.to.items _ c.loop-i-test.false
    c.loop-i.invariant
