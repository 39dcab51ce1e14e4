use Rattle.started_views.proofs.Logs.{prefixes_agree}
use Rattle.started_views.proofs.log_laws.prefixes_agree.Goals as goal

pub returns : goal.returns
returns c = prefixes_agree
