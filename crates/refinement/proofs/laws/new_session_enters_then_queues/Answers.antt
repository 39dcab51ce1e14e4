use Rattle.refinement.proofs.NewSessions.{enters_then_queues}
use Rattle.refinement.proofs.laws.new_session_enters_then_queues.Goals as goal

pub returns : goal.returns
returns c = enters_then_queues
