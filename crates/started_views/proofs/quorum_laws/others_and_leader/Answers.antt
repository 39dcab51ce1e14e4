use Rattle.nop_types.specs.Lists.{Has}
use Rattle.started_views.proofs.Quorums.{others_and_leader}
use Rattle.started_views.proofs.quorum_laws.others_and_leader.Goals as goal

pub returns : goal.returns
returns c f w a = others_and_leader f w (Has a)
