use Rattle.replica_state.specs.Moves.{count_sync_vote}
use Rattle.replica_rows.specs.Rows.{sync_reply}
use Rattle.replica_rows.proofs.Running.{on_ok}
use Rattle.replica_rows.proofs.Voting.{sends_trimmed}
use Rattle.replica_rows.proofs.member.Member.sync_reply.Goals as goal

pub returns : goal.returns
unfolding sync_reply
returns g c =
    on_ok c.send_trimmed.result _ _
    (sends_trimmed g.H.Host c.args.self.now c.count_sync_vote.new.self _ (λ s. count_sync_vote s c.args.sender c.args.len) c.in_ok-trimmed.trimmed
    c.in_ok-trimmed.ensures.does c.in_ok-trimmed.ensures.trimmed)
    c.send_trimmed.ensures
