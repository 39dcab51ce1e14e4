use Rattle.protocol.proofs.Worked.{sync_run_ends, log_sent_run_ends}
use Rattle.protocol.proofs.examples.sync_run.Goals as goal

pub returns-clause-synced : goal.returns-clause-synced
returns-clause-synced g c = sync_run_ends

pub returns-clause-sent : goal.returns-clause-sent
returns-clause-sent g c = log_sent_run_ends
