use Rattle.protocol_sync.proofs.Concluding.{accepted_stand}
use Rattle.protocol_sync.proofs.laws.accepted_stand_from_their_slots.Goals as goal

pub returns : goal.returns
returns g c = accepted_stand
