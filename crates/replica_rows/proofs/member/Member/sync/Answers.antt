use Rattle.std.proofs.Common.{ap, ◌∙◌}
use Rattle.nop_types.specs.Logs.{Trimmed}
use Rattle.replica_state.specs.Repeating.{sync}
use Rattle.replica_rows.specs.Trimming.{trim_log, trimmed_by}
use Rattle.replica_rows.specs.Rows as rows
use Rattle.replica_rows.proofs.Running.{on_ok, sync_moves, moved_executes, moved_there, trimmed_runs}
use Rattle.replica_rows.proofs.Voting.{sends_trimmed}
use Rattle.replica_rows.proofs.member.Member.sync.Goals as goal

pub trim_log-requires-clause-executes : goal.trim_log-requires-clause-executes
trim_log-requires-clause-executes g c =
    let s = c.args.self.now.state in
    moved_executes g.H.Host s c.sync.new.self _ c.requires.runs (sync_moves Trimmed s _ c.in_ok-sync.ensures.state c.requires.runs.within)

pub trim_log-requires-clause-there : goal.trim_log-requires-clause-there
trim_log-requires-clause-there g c =
    let s = c.args.self.now.state in
    moved_there g.H.Host s c.sync.new.self (sync_moves Trimmed s _ c.in_ok-sync.ensures.state c.requires.runs.within)

pub send_trimmed-requires : goal.send_trimmed-requires
send_trimmed-requires g c =
    let s = c.args.self.now.state in
    record {
      runs =
          trimmed_runs g.H.Host s c.sync.new.self _ _ _ c.requires.runs
          (sync_moves Trimmed s _ c.in_ok-sync.ensures.state c.requires.runs.within) c.in_ok-trimmed.ensures.state
          c.in_ok-trimmed.ensures.executes;
    }

pub returns : goal.returns
unfolding rows.sync
returns g c =
    let m = g.H.Host.meaning in
    let old = c.args.self.now in
    let is = c.in_ok-sync.ensures.state in
    on_ok c.send_trimmed.result _ _
    (sends_trimmed g.H.Host old c.trim_log.new.self _ (sync Trimmed) c.in_ok-trimmed.trimmed
    (record {
      runs =
          trimmed_runs g.H.Host old.state c.sync.new.self _ _ _ c.requires.runs
          (sync_moves Trimmed old.state _ is c.requires.runs.within) c.in_ok-trimmed.ensures.state c.in_ok-trimmed.ensures.executes;
      state = c.in_ok-trimmed.ensures.state ∙ ap (trim_log m) is;
      sends = c.trim_log.ensures.sends ∙ c.in_ok-sync.ensures.sends;
    })
    (c.in_ok-trimmed.ensures.trimmed ∙ ap trimmed_by is))
    c.send_trimmed.ensures
