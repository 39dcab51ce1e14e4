use Rattle.world.proofs.Opening.{world_opens}
use Rattle.world.proofs.actors.Actors.new.Goals as goal

pub returns-clause-opening : goal.returns-clause-opening
returns-clause-opening g c =
    world_opens _ _ _ _ _ _ _ _ c.in_ok-replicas.ensures.seats c.in_ok-sequencers.ensures c.in_ok-clients.ensures
    c.in_ok-controllers.ensures c.in_ok-observers.ensures.seats c.requires c.new.ensures

pub returns-clause-count : goal.returns-clause-count
returns-clause-count g c = c.in_ok-replicas.ensures.count

pub returns-clause-observers : goal.returns-clause-observers
returns-clause-observers g c = c.in_ok-observers.ensures.count
