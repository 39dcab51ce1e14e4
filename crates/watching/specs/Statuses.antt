-- The status for each end of a watch.
use Rattle.std.specs.Prelude.{Bool, true, false, Result, Ok, Err}
use Rattle.watching.specs.declared.running.WatchError.{WatchError}
use Rattle.watching.specs.declared.running.WatchError.TheVariants as errors
use Rattle.watching.specs.declared.status.Status.{Status}
use Rattle.watching.specs.declared.status.Status.TheVariants as statuses

-- Done where a state was shown
abbrev pub status_of : Result Bool WatchError → Status
status_of (Ok true) = statuses.Done
status_of (Ok false) = statuses.Unanswered
status_of (Err errors.PortFault) = statuses.LinkFault
status_of (Err errors.LinkFault) = statuses.LinkFault
status_of (Err errors.WriteFault) = statuses.WriteFault
status_of (Err errors.NoMemory) = statuses.NoMemory
