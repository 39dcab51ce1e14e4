use Rattle.std.proofs.Common.{◌≡◌, ap, ◌∙◌, ◌++◌}
use Rattle.std.specs.Option.{option_copied}
use Rattle.nop_types.specs.CheckpointedLogs.{slot_result}
use Rattle.nop_types.specs.Logs.{Trimmed, entry_at}
use Rattle.replica_state.specs.Replies.{leader_reply}
use Rattle.replica_rows.proofs.Running.{on_ok, always_ok}
use Rattle.replica_rows.proofs.member.Member.reply_with_result.Goals as goal

pub returns-clause-sends : goal.returns-clause-sends
returns-clause-sends g c = λ request of there.
    let log = c.args.self.now.state.log in
    let reached = c.in_ok-run_to.ensures.reached in
    let answers = c.result-answer.ensures.slot log c.in_ok-run_to.ensures.run in
    let same : option_copied c.result-answer.result ≡ slot_result g.H.Host.meaning Trimmed log c.args.slot =
    answers request (ap (entry_at Trimmed log) reached ∙ there) of ∙ ap (slot_result g.H.Host.meaning Trimmed log) reached in
    on_ok c.send_result.result _ _
    (λ sent. sent ∙ ap (λ o. c.args.self.now.sends ++ leader_reply c.args.self.now.state c.args.slot request o) same)
    (c.send_result.ensures.ok request of)

pub send_result-requires-clause-short : goal.send_result-requires-clause-short
send_result-requires-clause-short g c =
    c.result-answer.ensures.short c.args.self.now.state.log c.requires.runs.within.log c.in_ok-run_to.ensures.run

pub returns-clause-runs : goal.returns-clause-runs
returns-clause-runs g c =
    let runs = c.requires.runs in
    always_ok c.send_result.result _ (record { within = runs.within; loads = runs.loads; run = c.run_to.ensures.run })

pub returns-clause-behind : goal.returns-clause-behind
returns-clause-behind g c = always_ok c.send_result.result _ c.run_to.ensures.within
