use Rattle.std.proofs.Common.{sym, ap}
use Rattle.nop_types.specs.Logs.{Trimmed}
use Rattle.replica_rows.specs.Messages.{ticked}
use Rattle.replica_rows.specs.Rows.{suspect, watch, sync}
use Rattle.replica_rows.proofs.Running.{on_ok, does_as}
use Rattle.replica_rows.proofs.member.Member.ticked.Goals as goal

pub returns-in-Suspect : goal.returns-in-Suspect
returns-in-Suspect g c =
    let m = g.H.Host.meaning in
    on_ok c.suspect.result _ _
    (does_as g.H.Host c.args.self.now _ (suspect m Trimmed) (ticked m Trimmed c.args.tick)
    (ap (λ b. ticked m Trimmed b c.args.self.now.state) (sym c.in-Suspect.is)))
    c.suspect.ensures

pub returns-in-Watch : goal.returns-in-Watch
returns-in-Watch g c =
    let m = g.H.Host.meaning in
    on_ok c.watch.result _ _
    (does_as g.H.Host c.args.self.now _ (watch m Trimmed) (ticked m Trimmed c.args.tick)
    (ap (λ b. ticked m Trimmed b c.args.self.now.state) (sym c.in-Watch.is)))
    c.watch.ensures

pub returns-in-Sync : goal.returns-in-Sync
returns-in-Sync g c =
    let m = g.H.Host.meaning in
    on_ok c.sync.result _ _
    (does_as g.H.Host c.args.self.now _ (sync m Trimmed) (ticked m Trimmed c.args.tick)
    (ap (λ b. ticked m Trimmed b c.args.self.now.state) (sym c.in-Sync.is)))
    c.sync.ensures
