use Rattle.replica_log.proofs.InRanges.{append_fits, noop_fits, raise_fits, adopt_fits, overlay_fits, first_fits}
use Rattle.replica_log.proofs.laws.log_stays_in_ranges.Goals as goal

pub returns-clause-append : goal.returns-clause-append
returns-clause-append c = append_fits

pub returns-clause-noop : goal.returns-clause-noop
returns-clause-noop c = noop_fits

pub returns-clause-raise : goal.returns-clause-raise
returns-clause-raise c = raise_fits

pub returns-clause-adopt : goal.returns-clause-adopt
returns-clause-adopt c = adopt_fits

pub returns-clause-overlay : goal.returns-clause-overlay
returns-clause-overlay c = overlay_fits

pub returns-clause-first : goal.returns-clause-first
returns-clause-first c = first_fits
