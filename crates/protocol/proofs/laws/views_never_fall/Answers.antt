use Rattle.protocol.proofs.Runs.{views_never_fall}
use Rattle.protocol.proofs.laws.views_never_fall.Goals as goal

pub returns : goal.returns
returns g c = views_never_fall
