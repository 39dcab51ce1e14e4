use Rattle.replica_rows.proofs.Running.{begun_runs}
use Rattle.replica_rows.proofs.member.Member.new_session.Goals as goal

pub enter_and_drain-requires-clause-runs : goal.enter_and_drain-requires-clause-runs
enter_and_drain-requires-clause-runs g c =
    begun_runs g.H.Host c.args.self.now.state _ _ c.args.packet.now c.in_ok-begin_session.ensures.ok c.requires.runs
