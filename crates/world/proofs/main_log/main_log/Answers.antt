use Rattle.std.proofs.Common.{ap, ◌∙◌}
use Rattle.std.specs.Prelude.{map, slice_get}
use Rattle.world.specs.SeatOutcomes.{seated_of}
use Rattle.world.specs.WorldSteps.{greatest_of, log_of}
use Rattle.world.proofs.MainLog.{some_replica, main_log_is}
use Rattle.world.proofs.main_log.main_log.Goals as goal

pub leader_of-leader-requires : goal.leader_of-leader-requires
leader_of-leader-requires g c = some_replica c.args.actors.now.config c.replicas.result c.replicas.ensures.count c.replicas.ensures.limits

pub returns : goal.returns
returns g c =
    main_log_is c.args.actors.now c.greatest_last_normal-view.result c.replicas.result c.leader_of-leader.result c.entries.result.now _
    (c.greatest_last_normal-view.ensures
    ∙ ap (λ seats. greatest_of (map (λ p. p.core.state.state.last_normal) seats)) c.deref.ensures.value)
    c.replicas.ensures.count
    c.leader_of-leader.ensures.leader
    c.entries.ensures
    (c.log_at.ensures ∙ ap (λ seats. log_of c.entries.result.now (slice_get (map (seated_of (λ r. r.state)) seats) c.leader_of-leader.result))
    c.deref-2.ensures.value)
