use Rattle.nop_types.specs.Checkpoints.{KeepsTo}
use Rattle.replay.proofs.Drawn.{draws_taken}
use Rattle.replay.proofs.generated.next_drawn.Goals as goal

pub happen-requires : goal.happen-requires
happen-requires g c =
    let m = g.H.Host.meaning in
    let keeps : KeepsTo m g.H.Host.is_sound = search (g.met.H.Host) in
    (draws_taken m g.H.Host.is_sound keeps c.args.world.now.state c.args.words.now c.in_ok-event.event c.event.new.words c.requires
    c.in_ok-event.ensures).taken
