use Rattle.started_views.proofs.Keeping.{main_log_exists, main_log_is_one, main_leads}
use Rattle.started_views.proofs.theorems.main_log_is_one.Goals as goal

pub returns-clause-some : goal.returns-clause-some
returns-clause-some c = main_log_exists

pub returns-clause-one : goal.returns-clause-one
returns-clause-one c = main_log_is_one

pub returns-clause-leads : goal.returns-clause-leads
returns-clause-leads c f stamps last_normal past h = main_leads f stamps last_normal past h
