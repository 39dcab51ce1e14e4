use Rattle.printed_runs.proofs.Printing.{prints_again}
use Rattle.printed_runs.proofs.laws.printed_is_read.Goals as goal

pub returns : goal.returns
returns g c = prints_again g.H.Host.meaning
