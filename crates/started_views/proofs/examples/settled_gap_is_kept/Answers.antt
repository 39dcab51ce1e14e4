use Rattle.std.proofs.Common.{refl, inl}
use Rattle.nop_types.specs.declared.request.Entry.TheVariants.{NoOp}
use Rattle.started_views.proofs.Worked.{worked_grounds, first_below_second}
use Rattle.started_views.proofs.Pasts.{settled_fixed, settled_main, third_alone, third_lost}
use Rattle.started_views.proofs.examples.settled_gap_is_kept.Goals as goal

pub returns-clause-grounds : goal.returns-clause-grounds
returns-clause-grounds c = worked_grounds NoOp (inl refl)

pub returns-clause-fixed : goal.returns-clause-fixed
returns-clause-fixed c = settled_fixed

pub returns-clause-later : goal.returns-clause-later
returns-clause-later c = (first_below_second, refl)

pub returns-clause-main : goal.returns-clause-main
returns-clause-main c = settled_main

pub returns-clause-third : goal.returns-clause-third
returns-clause-third c = third_alone

pub returns-clause-lost : goal.returns-clause-lost
returns-clause-lost c = third_lost
