use Rattle.nop_types.specs.Checkpoints.{KeepsTo}
use Rattle.replay.proofs.Reaching as lemmas
use Rattle.replay.proofs.laws.datagrams_go_to_actors.Goals as goal

pub returns : goal.returns
returns g c =
    let keeps : KeepsTo g.H.Host.meaning g.H.Host.is_sound = search (g.met.H.Host) in
    lemmas.datagrams_go_to_actors g.H.Host.meaning g.H.Host.is_sound keeps
