use Rattle.protocol_sync.proofs.Concluding.{lines_are_legal}
use Rattle.protocol_sync.proofs.laws.lines_are_legal.Goals as goal

pub returns : goal.returns
returns g c = lines_are_legal
