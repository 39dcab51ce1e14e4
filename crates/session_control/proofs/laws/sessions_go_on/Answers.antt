use Rattle.session_control.proofs.Epochs.{opens_at_home, goes_home, rises, fits}
use Rattle.session_control.proofs.laws.sessions_go_on.Goals as goal

pub returns-clause-opens : goal.returns-clause-opens
returns-clause-opens c = opens_at_home

pub returns-clause-own : goal.returns-clause-own
returns-clause-own c = goes_home

pub returns-clause-rises : goal.returns-clause-rises
returns-clause-rises c = rises

pub returns-clause-fits : goal.returns-clause-fits
returns-clause-fits c = fits
