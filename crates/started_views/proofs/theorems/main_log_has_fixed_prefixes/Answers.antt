use Rattle.started_views.proofs.Keeping.{main_log_has_fixed, synchronised_agree}
use Rattle.started_views.proofs.theorems.main_log_has_fixed_prefixes.Goals as goal

pub returns-clause-fixed : goal.returns-clause-fixed
returns-clause-fixed c = main_log_has_fixed

pub returns-clause-synchronised : goal.returns-clause-synchronised
returns-clause-synchronised c = synchronised_agree
