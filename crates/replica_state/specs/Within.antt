-- What holds of each replica's state, beside what its parts hold.
use Rattle.std.specs.Prelude.{◌≡◌, ◌≤◌, ◌<◌, ◌+◌, IfSome}
use Rattle.std.specs.List.{AllByRecursion}
use Rattle.nop_types.specs.declared.limits.TheConstants.{MAX_REPLICAS}
use Rattle.nop_types.specs.declared.replica_state.Phase.TheVariants.{Normal}
use Rattle.nop_types.specs.Logs.{Keeping, Trimmed, length_of}
use Rattle.nop_types.specs.Ranges.{ViewFits, LogIsIn, NextFits, SlotFits, ChangeIsIn}
use Rattle.replica_state.specs.State.{PointsMeet}
use Rattle.replica_state.specs.declared.state.ReplicaState.{ReplicaState}

-- each field is in its range, and what is sent of it too; the logs are kept whole or trimmed
pub record IsIn (k : Keeping) (s : ReplicaState) : Type 0 where
  pub number : s.number < s.config.replicas
  pub few : s.config.replicas ≤ MAX_REPLICAS
  pub view : ViewFits s.view
  pub last_normal : ViewFits s.last_normal
  pub log : LogIsIn k s.log
  pub next : NextFits s.next
  -- the view started with base entries, at a number from 1
  pub base : s.base ≤ length_of k s.log
  pub start : length_of k s.log < s.next + s.base
  -- in Normal the receiver hands up the next number
  pub receiver : s.status ≡ Normal → s.receiver.next ≡ s.next
  pub gap : IfSome s.gap (λ g. SlotFits g.slot)
  -- what is synchronised, under way or prepared is in the log, which is sent with its sync point
  pub points : PointsMeet s
  pub sync_point : s.sync.sync_point ≤ length_of k s.log
  pub syncing : IfSome s.sync.syncing (λ x. x.len ≤ length_of k s.log)
  pub prepared : s.sync.prepared ≤ length_of k s.log
  pub changes : IfSome s.changes (λ g. AllByRecursion (ChangeIsIn k) g.changes)

-- of a replica as it runs
abbrev pub IsWithin : ReplicaState → Type 0
IsWithin s = IsIn Trimmed s
