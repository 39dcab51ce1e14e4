use Rattle.refinement.proofs.Openings.{openings_match}
use Rattle.refinement.proofs.laws.openings_match.Goals as goal

pub returns : goal.returns
returns g c = openings_match
