use Rattle.std.proofs.Common.{refl, inr}
use Rattle.nop_types.specs.declared.request.Entry.TheVariants.{Req}
use Rattle.started_views.specs.Worked.{request_of}
use Rattle.started_views.proofs.Worked.{worked_grounds}
use Rattle.started_views.proofs.Pasts.{unsettled_reached, noop_alone, noop_lost}
use Rattle.started_views.proofs.examples.unsettled_gap_is_lost.Goals as goal

pub returns-clause-grounds : goal.returns-clause-grounds
returns-clause-grounds c = worked_grounds (Req (request_of 2)) (inr refl)

pub returns-clause-reached : goal.returns-clause-reached
returns-clause-reached c = unsettled_reached

pub returns-clause-noop : goal.returns-clause-noop
returns-clause-noop c = noop_alone

pub returns-clause-lost : goal.returns-clause-lost
returns-clause-lost c = noop_lost
