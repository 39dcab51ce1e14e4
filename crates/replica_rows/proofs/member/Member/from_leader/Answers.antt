use Rattle.std.proofs.Common.{sym, ap}
use Rattle.nop_types.specs.Logs.{Trimmed}
use Rattle.replica_rows.specs.Messages.{from_leader}
use Rattle.replica_rows.specs.Rows.{gap_commit, found, sync_prepare, sync_commit}
use Rattle.replica_rows.proofs.Running.{on_ok, does_as}
use Rattle.replica_rows.proofs.member.Member.from_leader.Goals as goal

pub returns-in-GapCommit : goal.returns-in-GapCommit
returns-in-GapCommit g c =
    let m = g.H.Host.meaning in
    on_ok c.gap_commit.result _ _
    (does_as g.H.Host c.args.self.now _ (gap_commit m Trimmed c.in-GapCommit.slot) (from_leader m Trimmed c.args.body)
    (ap (λ b. from_leader m Trimmed b c.args.self.now.state) (sym c.in-GapCommit.is)))
    c.gap_commit.ensures

pub returns-in-Found : goal.returns-in-Found
returns-in-Found g c =
    let m = g.H.Host.meaning in
    on_ok c.found.result _ _
    (does_as g.H.Host c.args.self.now _ (found m Trimmed c.in-Found.slot c.in-Found.request) (from_leader m Trimmed c.args.body)
    (ap (λ b. from_leader m Trimmed b c.args.self.now.state) (sym c.in-Found.is)))
    c.found.ensures

pub returns-in-SyncPrepare : goal.returns-in-SyncPrepare
returns-in-SyncPrepare g c =
    let m = g.H.Host.meaning in
    on_ok c.sync_prepare.result _ _
    (does_as g.H.Host c.args.self.now _ (sync_prepare m Trimmed c.in-SyncPrepare.log) (from_leader m Trimmed c.args.body)
    (ap (λ b. from_leader m Trimmed b c.args.self.now.state) (sym c.in-SyncPrepare.is)))
    c.sync_prepare.ensures

pub returns-in-SyncCommit : goal.returns-in-SyncCommit
returns-in-SyncCommit g c =
    let m = g.H.Host.meaning in
    on_ok c.sync_commit.result _ _
    (does_as g.H.Host c.args.self.now _ (sync_commit m Trimmed c.in-SyncCommit.slot) (from_leader m Trimmed c.args.body)
    (ap (λ b. from_leader m Trimmed b c.args.self.now.state) (sym c.in-SyncCommit.is)))
    c.sync_commit.ensures
