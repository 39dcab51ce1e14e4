use Rattle.commands.proofs.CheckLemmas.{wrote_verdict, may_have_risen, verdict_reads}
use Rattle.commands.proofs.check.run_check.Goals as goal

pub returns-in-Ok-clause-ends : goal.returns-in-Ok-clause-ends
returns-in-Ok-clause-ends g c =
    let verdict = c.check-verdict in
    wrote_verdict g.H.Host.meaning (g.S.Source.left c.args.source.now) (g.S.Source.left verdict.new.source) (g.K.Sink.held c.args.sink.now)
    (g.K.Sink.held c.write_verdict.new.sink) verdict.result c.verdict_status.result c.verdict_status.ensures
    (record { checked = verdict.ensures.checked; passes = verdict.ensures.passes }) c.in-Ok.ensures.writes

pub returns-in-Ok-clause-reads : goal.returns-in-Ok-clause-reads
returns-in-Ok-clause-reads g c =
    let verdict = c.check-verdict in
    verdict_reads _ _ verdict.result c.verdict_status.result c.verdict_status.ensures verdict.ensures.count

pub returns-in-Err-Failed-clause-reads : goal.returns-in-Err-Failed-clause-reads
returns-in-Err-Failed-clause-reads g c = may_have_risen _ _ c.check-verdict.result c.check-verdict.ensures.count

pub returns-in-Err-NoMemory-clause-reads : goal.returns-in-Err-NoMemory-clause-reads
returns-in-Err-NoMemory-clause-reads g c = may_have_risen _ _ c.check-verdict.result c.check-verdict.ensures.count
