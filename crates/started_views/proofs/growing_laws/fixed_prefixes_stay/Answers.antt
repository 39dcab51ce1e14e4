use Rattle.started_views.proofs.Growing.{fixed_stays, anchored_stays, fixed_less}
use Rattle.started_views.proofs.growing_laws.fixed_prefixes_stay.Goals as goal

pub returns-clause-fixed : goal.returns-clause-fixed
returns-clause-fixed c = fixed_stays

pub returns-clause-anchored : goal.returns-clause-anchored
returns-clause-anchored c = anchored_stays

pub returns-clause-fewer : goal.returns-clause-fewer
returns-clause-fewer c = fixed_less
