use Rattle.read_laws.proofs.Runs.{runs_receive}
use Rattle.read_laws.proofs.laws.observers_received.Goals as goal

pub returns : goal.returns
returns g c = runs_receive g.H.Host.meaning
