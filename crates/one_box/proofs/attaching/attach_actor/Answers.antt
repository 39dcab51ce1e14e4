use Rattle.one_box.proofs.AttachingLemmas.{few_timers}
use Rattle.one_box.proofs.attaching.attach_actor.Goals as goal

pub first_timers-requires : goal.first_timers-requires
first_timers-requires g c = few_timers c.args.world.now.state c.args.at.own
