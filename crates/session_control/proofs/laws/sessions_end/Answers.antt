use Rattle.session_control.proofs.Ignoring.{ends_above_seen, ends_after_last}
use Rattle.session_control.proofs.laws.sessions_end.Goals as goal

pub returns-clause-seen : goal.returns-clause-seen
returns-clause-seen c = ends_above_seen

pub returns-clause-own : goal.returns-clause-own
returns-clause-own c = ends_after_last
