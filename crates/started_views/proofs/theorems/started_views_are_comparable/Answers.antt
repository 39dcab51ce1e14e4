use Rattle.started_views.proofs.Certificates.{started_are_comparable}
use Rattle.started_views.proofs.theorems.started_views_are_comparable.Goals as goal

pub returns : goal.returns
returns c = started_are_comparable
