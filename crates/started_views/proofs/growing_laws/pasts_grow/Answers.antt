use Rattle.started_views.proofs.Growing.{grows_refl, grows_trans, note_grows}
use Rattle.started_views.proofs.growing_laws.pasts_grow.Goals as goal

pub returns-clause-nothing : goal.returns-clause-nothing
returns-clause-nothing c = grows_refl

pub returns-clause-ways : goal.returns-clause-ways
returns-clause-ways c = grows_trans

pub returns-clause-step : goal.returns-clause-step
returns-clause-step c f r past old new h = note_grows f past r old new h
