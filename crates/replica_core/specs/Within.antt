-- What holds of each replica between two steps, and its limits.
use Rattle.std.specs.Prelude.{◌≡◌, ◌≤◌, [], length, All}
use Rattle.nop_types.specs.declared.host.Host.{Ghosts}
use Rattle.nop_types.specs.declared.limits.TheConstants.{MAX_SLOTS, MAX_LENGTH, NUMBER_END}
use Rattle.nop_types.specs.Logs.{Trimmed, length_of}
use Rattle.executor.specs.Running.{reached}
use Rattle.fragments.specs.Runs.{WaitingFits}
use Rattle.oum_receiver.specs.Receiving.{IsSound}
use Rattle.replica_state.specs.State.{executed_to}
use Rattle.replica_rows.specs.Within.{IsRunning}
use Rattle.replica_core.specs.declared.replica.ReplicaParts.{ReplicaParts}
use Rattle.replica_core.specs.ReplicaSteps.{Replica}

-- between two steps: the host stands where it is to stand, nothing is left to send, and each other replica has its reassembly
pub record IsReady {H U : Type 0} (host : Ghosts H U) (n : ReplicaParts H U) : Type 0 where
  pub runs : IsRunning host n.member
  pub executed : reached n.member.executor ≡ executed_to Trimmed n.member.state
  pub nothing : n.member.sends ≡ []
  pub senders : length n.reassembly ≡ n.member.state.config.replicas

-- the limits of a replica's parts, which hold whatever came, and also where memory ran out in the middle of a step
pub record KeepsLimits (r : Replica) : Type 0 where
  -- the entries above the sync point, and all slots
  pub log : length r.state.log.entries ≤ MAX_SLOTS
  pub length : length_of Trimmed r.state.log ≤ MAX_LENGTH
  pub next : r.state.next ≤ NUMBER_END
  -- a queue of at most MAX_QUEUED requests, each below NUMBER_END, and a next number that is at most that
  pub receiver : IsSound r.state.receiver
  pub reassembly : All WaitingFits r.reassembly
