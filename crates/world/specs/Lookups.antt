-- What is asked of a world.
use Rattle.std.specs.Prelude.{ℕ, List, [], Bool, false, ◌&&◌, not, Option, Some, None, slice_get}
use Rattle.nop_types.specs.declared.input.Tick.{Tick}
use Rattle.nop_types.specs.declared.output.Actor.{Actor}
use Rattle.replica_core.specs.ReplicaSteps as replica
use Rattle.client_quorum.specs.ClientSteps as requests
use Rattle.client_quorum.specs.Core.{Client}
use Rattle.world.specs.Others.{seats, timers, Who, AReplica, Another, who}
use Rattle.world.specs.Seats.{Seated}
use Rattle.world.specs.WorldSteps.{WorldState}

-- the timers of an actor that is there
abbrev pub timers_if : {S : Type 0} → Option (Seated S) → List (Tick × ℕ) → List (Tick × ℕ)
timers_if None timers = []
timers_if (Some p) timers = timers

abbrev pub timers_by : WorldState → Who → List (Tick × ℕ)
timers_by w (AReplica i) = timers_if (slice_get w.replicas i) replica.timers
timers_by w (Another k i) = timers_if (slice_get (seats k w.others) i) (timers k)
timers_by w _ = []

-- the timers of an actor in order, with their periods in milliseconds; an observer has none
abbrev pub timers_of : WorldState → Actor → List (Tick × ℕ)
timers_of w actor = timers_by w (who actor)

abbrev pub takes_if : Option (Seated Client) → Bool
takes_if None = false
takes_if (Some p) = not p.crashed && requests.can_submit p.state.requests

-- whether an op that is submitted to a client becomes its request: it is there, has not crashed, and answers no Busy
abbrev pub takes_op : WorldState → ℕ → Bool
takes_op w client = takes_if (slice_get w.others.clients client)
