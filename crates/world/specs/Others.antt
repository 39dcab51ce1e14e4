-- Sequencers, clients and controllers, the actors that are neither replicas nor observers: what is the same of them is said once, over
-- their kinds.
use Rattle.std.specs.Prelude.{ℕ, List, [], slice_set}
use Rattle.nop_types.specs.Configuration.{Configuration}
use Rattle.nop_types.specs.Given.{Given}
use Rattle.nop_types.specs.declared.input.Tick.{Tick}
use Rattle.nop_types.specs.declared.output.Actor.{Actor}
use Rattle.nop_types.specs.declared.output.Actor.TheVariants as actors
use Rattle.nop_types.specs.declared.output.Out.{Out}
use Rattle.sequencer.specs.declared.state.SequencerState.{SequencerState}
use Rattle.sequencer.specs.SequencerSteps as sequencer
use Rattle.client_quorum.specs.Core as client
use Rattle.session_control.specs.declared.state.ControllerState.{ControllerState}
use Rattle.session_control.specs.ControllerSteps as controller
use Rattle.world.specs.Seats.{Seated}

pub data Kind : Type 0 where
  Sequencers : Kind
  Clients : Kind
  Controllers : Kind

-- ---- an actor of a kind

-- its state
abbrev pub State : Kind → Type 0
State Sequencers = SequencerState
State Clients = client.Client
State Controllers = ControllerState

-- its step table
abbrev pub next : (k : Kind) → State k → Given → State k × List Out
next Sequencers = sequencer.next
next Clients = client.next
next Controllers = controller.next

-- its timers, with their periods in milliseconds
abbrev pub timers : Kind → List (Tick × ℕ)
timers Sequencers = []
timers Clients = client.timers
timers Controllers = controller.timers

-- ---- all of them

-- how many there are of a kind
abbrev pub count : Kind → Configuration → ℕ
count Sequencers c = c.sequencers
count Clients c = c.clients
count Controllers c = c.controllers

pub record Others : Type 0 where
  pub sequencers : List (Seated SequencerState)
  pub clients : List (Seated client.Client)
  pub controllers : List (Seated ControllerState)

abbrev pub seats : (k : Kind) → Others → List (Seated (State k))
seats Sequencers o = o.sequencers
seats Clients o = o.clients
seats Controllers o = o.controllers

abbrev pub with_seats : (k : Kind) → Others → List (Seated (State k)) → Others
with_seats Sequencers o ps = record o { sequencers = ps }
with_seats Clients o ps = record o { clients = ps }
with_seats Controllers o ps = record o { controllers = ps }

-- with another seat at a place
abbrev pub with_seat : (k : Kind) → Others → ℕ → Seated (State k) → Others
with_seat k o i p = with_seats k o (slice_set (seats k o) i p)

-- ---- who an actor is

pub data Who : Type 0 where
  AReplica : ℕ → Who
  Another : Kind → ℕ → Who
  AnObserver : ℕ → Who

abbrev pub who : Actor → Who
who (actors.Replica i) = AReplica i
who (actors.Sequencer i) = Another Sequencers i
who (actors.Client i) = Another Clients i
who (actors.Controller i) = Another Controllers i
who (actors.Observer i) = AnObserver i

abbrev pub actor_at : Who → Actor
actor_at (AReplica i) = actors.Replica i
actor_at (Another Sequencers i) = actors.Sequencer i
actor_at (Another Clients i) = actors.Client i
actor_at (Another Controllers i) = actors.Controller i
actor_at (AnObserver i) = actors.Observer i
