-- What holds of each replica's state, beside what its parts hold.
use Rattle.std.specs.Prelude.{◌≡◌, ◌≤◌, ◌++◌, ℕ, List, length, true, Some, IfSome, ⊤}
use Rattle.std.specs.List.{AllByRecursion}
use Rattle.nop_types.specs.declared.host.Host.{Ghosts}
use Rattle.nop_types.specs.declared.limits.TheConstants.{MAX_RESULT_BYTES}
use Rattle.nop_types.specs.declared.peer.Change.{Change}
use Rattle.nop_types.specs.declared.request.Entry.{Entry}
use Rattle.nop_types.specs.Execution.{result_at}
use Rattle.nop_types.specs.CheckpointedLogs.{loads}
use Rattle.nop_types.specs.Meaning.{Meaning}
use Rattle.nop_types.specs.Logs.{Log, Keeping, Trimmed}
use Rattle.nop_types.specs.Ranges.{LogFits, StampedFits, PeerIsIn}
use Rattle.executor.specs.Running.{Running}
use Rattle.executor.specs.Undoing.{HasExecuted}
use Rattle.replica_rows.specs.declared.member.Member.{Member}
use Rattle.replica_state.specs.declared.state.ReplicaState.{ReplicaState}
use Rattle.replica_state.specs.Within.{IsWithin}
use Rattle.replica_state.specs.Sends.{Effect}
use Rattle.replica_rows.specs.Messages.{Arrival, Packet, PeerMessage, Ticked}

-- the log of a change has no checkpoint, or one that loads
abbrev pub ChangeLoads : {S : Type 0} → Meaning S → Change → Type 0
ChangeLoads m c = loads m c.log ≡ true

-- so has the log of a replica, and that of each change that it gathered
pub record LogsLoad {S : Type 0} (m : Meaning S) (s : ReplicaState) : Type 0 where
  pub own : loads m s.log ≡ true
  pub gathered : IfSome s.changes (λ g. AllByRecursion (ChangeLoads m) g.changes)

-- a log is in its ranges and loads, and the executor has executed it up to some slot
pub record Executes {H U : Type 0} (host : Ghosts H U) (log : Log) (e : Running H U) : Type 0 where
  pub fits : LogFits log
  pub loads : loads host.meaning log ≡ true
  pub run : HasExecuted host.state host.meaning host.undo_of log e

-- a state is in its ranges, its logs load, and the executor has executed its log up to some slot
pub record Runs {H U : Type 0} (host : Ghosts H U) (s : ReplicaState) (e : Running H U) : Type 0 where
  pub within : IsWithin s
  pub loads : LogsLoad host.meaning s
  pub run : HasExecuted host.state host.meaning host.undo_of s.log e

-- so it is with a member
abbrev pub IsRunning : {H U : Type 0} → Ghosts H U → Member H U → Type 0
IsRunning host x = Runs host x.state x.executor

-- a row was taken: the member runs on, its state is what the row makes of it, and what the row sends stands behind what was sent
-- before
pub record Does {H U : Type 0} (host : Ghosts H U) (old new : Member H U) (row : ReplicaState → Effect) : Type 0 where
  pub runs : IsRunning host new
  pub state : new.state ≡ (row old.state).0
  pub sends : new.sends ≡ old.sends ++ (row old.state).1

-- what arrives is in its ranges; the log of a message is whole or trimmed
abbrev pub ArrivalIsIn : Keeping → Arrival → Type 0
ArrivalIsIn k (Packet p) = StampedFits p
ArrivalIsIn k (PeerMessage p) = PeerIsIn k p
ArrivalIsIn k (Ticked tick) = ⊤

abbrev pub ArrivalFits : Arrival → Type 0
ArrivalFits a = ArrivalIsIn Trimmed a

-- each result of the service fits a reply
abbrev pub ResultsShort : {S : Type 0} → Meaning S → Type 0
ResultsShort m = (log : List Entry) (slot : ℕ) (result : List ℕ) → result_at m log slot ≡ Some result → length result ≤ MAX_RESULT_BYTES
