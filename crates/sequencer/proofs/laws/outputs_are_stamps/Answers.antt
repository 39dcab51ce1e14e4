use Rattle.sequencer.proofs.Outputs.{outputs_are_stamps}
use Rattle.sequencer.proofs.laws.outputs_are_stamps.Goals as goal

pub returns : goal.returns
returns c = outputs_are_stamps
