use Rattle.kv_resp.specs.Laws.{asked_spelled}
use Rattle.kv_resp.proofs.laws.asked_ops_are_spelled.Goals as goal

pub returns : goal.returns
returns c = asked_spelled
