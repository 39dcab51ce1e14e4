-- What a leader has after it took a change.
use Rattle.std.specs.Prelude.{Option, Some, None}
use Rattle.nop_types.specs.declared.peer.Change.{Change}
use Rattle.view_change.specs.declared.starting.Step.{Step}
use Rattle.view_change.specs.declared.starting.Step.TheVariants.{Started, Waiting}
use Rattle.view_change.specs.Gathering.{Gathering, change_added, step_of, change_sender}
use Rattle.replica_state.specs.declared.state.ReplicaState.{ReplicaState}
use Rattle.replica_state.specs.Moves.{keep_change}

-- what keeping a change leaves, and whether the view starts then
abbrev pub kept_by : ReplicaState → Option (Gathering Change) → Change → ReplicaState
kept_by s None c = s
kept_by s (Some g) c = (keep_change s g c).0

abbrev pub step_by : Option (Gathering Change) → Change → Step
step_by None c = Waiting
step_by (Some g) c = step_of (change_added change_sender g c)

-- the change is kept; where the view starts with it, none are left
abbrev pub kept_after : Step → ReplicaState → Change → ReplicaState
kept_after (Started start) s c = record s { changes = None }
kept_after Waiting s c = kept_by s s.changes c
