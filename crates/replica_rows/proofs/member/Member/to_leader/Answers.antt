use Rattle.std.proofs.Common.{ap, ◌∙◌, ◌++◌}
use Rattle.replica_state.specs.Sends.{to_replica}
use Rattle.replica_rows.proofs.Running.{on_ok}
use Rattle.replica_rows.proofs.member.Member.to_leader.Goals as goal

pub returns-clause-does : goal.returns-clause-does
returns-clause-does g c =
    on_ok c.to_replica.result _ _
    (λ does. record {
      runs = does.runs;
      state = does.state;
      sends = does.sends ∙ ap (λ q. c.args.self.now.sends ++ to_replica c.args.self.now.state q c.args.body) c.leader-leader.ensures.leader;
    })
    c.to_replica.ensures.does
