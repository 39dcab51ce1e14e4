use Rattle.started_views.proofs.Merges.{merge_agrees}
use Rattle.started_views.proofs.theorems.merge_agrees.Goals as goal

pub returns : goal.returns
returns c log cs h = merge_agrees log cs h
