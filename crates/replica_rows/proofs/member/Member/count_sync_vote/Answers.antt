use Rattle.std.proofs.Common.{ap, ◌∙◌}
use Rattle.nop_types.specs.Logs.{Trimmed}
use Rattle.replica_rows.specs.Trimming.{trimmed_by}
use Rattle.replica_rows.proofs.Running.{vote_moves, moved_executes, moved_there, trimmed_runs}
use Rattle.replica_rows.proofs.Voting.{vote_settled, vote_waits}
use Rattle.replica_rows.proofs.member.Member.count_sync_vote.Goals as goal

pub trim_log-requires-clause-executes : goal.trim_log-requires-clause-executes
trim_log-requires-clause-executes g c =
    let s = c.args.self.now.state in
    let is = ap (λ x. record s { sync = x }) c.on_rep-vote.ensures.after in
    moved_executes g.H.Host s (record s { sync = c.on_rep-vote.new.self }) _ c.requires.runs
    (vote_moves Trimmed c.args.sender c.args.len s _ is c.requires.runs.within)

pub trim_log-requires-clause-there : goal.trim_log-requires-clause-there
trim_log-requires-clause-there g c =
    let s = c.args.self.now.state in
    let is = ap (λ x. record s { sync = x }) c.on_rep-vote.ensures.after in
    moved_there g.H.Host s (record s { sync = c.on_rep-vote.new.self })
    (vote_moves Trimmed c.args.sender c.args.len s _ is c.requires.runs.within)

pub to_all-requires-clause-runs : goal.to_all-requires-clause-runs
to_all-requires-clause-runs g c =
    let s = c.args.self.now.state in
    let is = ap (λ x. record s { sync = x }) c.on_rep-vote.ensures.after in
    trimmed_runs g.H.Host s (record s { sync = c.on_rep-vote.new.self }) _ _ _ c.requires.runs
    (vote_moves Trimmed c.args.sender c.args.len s _ is c.requires.runs.within) c.in_ok-trimmed.ensures.state c.in_ok-trimmed.ensures.executes

pub returns-in_ok-to_all-in-Settled-clause-does : goal.returns-in_ok-to_all-in-Settled-clause-does
returns-in_ok-to_all-in-Settled-clause-does g c =
    vote_settled g.H.Host c.args.self.now c.trim_log.new.self _ c.args.sender c.args.len c.on_rep-vote.new.self c.on_rep-vote.result
    c.on_rep-vote.ensures.after c.on_rep-vote.ensures.vote c.in-Settled.is c.in_ok-trimmed.ensures.state c.trim_log.ensures.sends
    c.in_ok-to_all-in-Settled.ensures.does

pub returns-in_ok-to_all-in-Settled-clause-trimmed : goal.returns-in_ok-to_all-in-Settled-clause-trimmed
returns-in_ok-to_all-in-Settled-clause-trimmed g c =
    c.in_ok-trimmed.ensures.trimmed ∙ ap (λ x. trimmed_by (record c.args.self.now.state { sync = x })) c.on_rep-vote.ensures.after

pub returns-in-Waiting-clause-does : goal.returns-in-Waiting-clause-does
returns-in-Waiting-clause-does g c =
    let s = c.args.self.now.state in
    let is = ap (λ x. record s { sync = x }) c.on_rep-vote.ensures.after in
    vote_waits g.H.Host c.args.self.now c.trim_log.new.self c.args.sender c.args.len c.on_rep-vote.new.self c.on_rep-vote.result
    c.on_rep-vote.ensures.after c.on_rep-vote.ensures.vote c.in-Waiting.is c.in_ok-trimmed.ensures.state c.trim_log.ensures.sends
    (trimmed_runs g.H.Host s (record s { sync = c.on_rep-vote.new.self }) _ _ _ c.requires.runs
    (vote_moves Trimmed c.args.sender c.args.len s _ is c.requires.runs.within) c.in_ok-trimmed.ensures.state c.in_ok-trimmed.ensures.executes)

pub returns-in-Waiting-clause-trimmed : goal.returns-in-Waiting-clause-trimmed
returns-in-Waiting-clause-trimmed g c =
    c.in_ok-trimmed.ensures.trimmed ∙ ap (λ x. trimmed_by (record c.args.self.now.state { sync = x })) c.on_rep-vote.ensures.after
