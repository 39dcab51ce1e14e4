use Rattle.sequencer.proofs.Stamping.{stamps_once}
use Rattle.sequencer.proofs.laws.stamps_once.Goals as goal

pub returns : goal.returns
returns c = stamps_once
