use Rattle.client_quorum.proofs.OpenRequests.{words_agree}
use Rattle.client_quorum.proofs.laws.words_agree.Goals as goal

pub returns : goal.returns
returns c = words_agree
