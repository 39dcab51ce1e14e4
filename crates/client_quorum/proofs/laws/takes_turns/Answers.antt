use Rattle.client_quorum.proofs.Turns.{takes_turns}
use Rattle.client_quorum.proofs.laws.takes_turns.Goals as goal

pub returns : goal.returns
returns c = takes_turns
