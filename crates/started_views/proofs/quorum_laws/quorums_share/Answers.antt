use Rattle.nop_types.specs.Lists.{Has}
use Rattle.started_views.proofs.Quorums.{quorums_share}
use Rattle.started_views.proofs.quorum_laws.quorums_share.Goals as goal

pub returns : goal.returns
returns c f a b = quorums_share f (Has a) (Has b)
