use Rattle.started_views.proofs.Logs.{toward_laid}
use Rattle.started_views.proofs.log_laws.logs_go_toward.Goals as goal

pub returns-clause-overlay : goal.returns-clause-overlay
returns-clause-overlay c = toward_laid
