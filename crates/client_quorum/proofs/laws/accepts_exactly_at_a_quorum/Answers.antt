use Rattle.client_quorum.proofs.Quorums.{accepted_by, accepts_by}
use Rattle.client_quorum.proofs.laws.accepts_exactly_at_a_quorum.Goals as goal

pub returns : goal.returns
returns c = λ s p result one e. (accepted_by s p result e, accepts_by s p result e one)
