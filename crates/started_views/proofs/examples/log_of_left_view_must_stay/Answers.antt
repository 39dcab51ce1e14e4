use Rattle.started_views.proofs.Pasts.{overrun_entry, overrun_fixed, third_lost}
use Rattle.started_views.proofs.examples.log_of_left_view_must_stay.Goals as goal

pub returns-clause-broken : goal.returns-clause-broken
returns-clause-broken c = overrun_entry

pub returns-clause-fixed : goal.returns-clause-fixed
returns-clause-fixed c = overrun_fixed

pub returns-clause-lost : goal.returns-clause-lost
returns-clause-lost c = third_lost
