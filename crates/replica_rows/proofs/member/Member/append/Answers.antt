use Rattle.replica_rows.proofs.Running.{on_ok, append_runs}
use Rattle.replica_rows.proofs.member.Member.append.Goals as goal

pub returns-clause-runs : goal.returns-clause-runs
returns-clause-runs g c =
    on_ok c.append.result _ _
    (λ is. append_runs g.H.Host c.args.self.now.state _ _ c.args.entry is c.requires.runs c.requires.fits c.requires.room)
    c.append.ensures.ok
