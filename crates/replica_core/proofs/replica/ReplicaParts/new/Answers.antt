use Rattle.replica_core.proofs.Ready.{opens_ready}
use Rattle.replica_core.proofs.replica.ReplicaParts.new.Goals as goal

pub returns-clause-ready : goal.returns-clause-ready
returns-clause-ready g c =
    opens_ready g.H.Host c.args.config c.args.number _ _ c.in_ok-member.ensures.state c.in_ok-member.ensures.runs
    c.in_ok-member.ensures.executed c.in_ok-member.ensures.nothing c.in_ok-reassembly.ensures c.replicas.ensures.count
