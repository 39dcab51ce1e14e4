use Rattle.unnoted_reader.proofs.Noted.{read_as_ever, unmarked}
use Rattle.unnoted_reader.proofs.laws.noted_is_read_as_ever.Goals as goal

pub returns-clause-read : goal.returns-clause-read
returns-clause-read c = read_as_ever

pub returns-clause-marks : goal.returns-clause-marks
returns-clause-marks c = unmarked
