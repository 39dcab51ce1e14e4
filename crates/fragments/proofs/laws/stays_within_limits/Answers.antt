use Rattle.fragments.proofs.Limits.{taken_fits}
use Rattle.fragments.proofs.laws.stays_within_limits.Goals as goal

pub returns-clause-taken : goal.returns-clause-taken
returns-clause-taken c = taken_fits
