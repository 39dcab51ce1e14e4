use Rattle.client_quorum.proofs.Alone.{state_alone, outs_alone, is_done_alone}
use Rattle.client_quorum.proofs.laws.acts_as_its_requests.Goals as goal

pub returns-clause-state : goal.returns-clause-state
returns-clause-state c = state_alone

pub returns-clause-outs : goal.returns-clause-outs
returns-clause-outs c = outs_alone

pub returns-clause-done : goal.returns-clause-done
returns-clause-done c = is_done_alone
