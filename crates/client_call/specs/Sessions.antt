-- A session: what its client does, and what it answers to each op.
use Rattle.std.specs.Prelude.{◌≡◌, ℕ, ◌+◌, List, [], ◌∷◌, length, Bool, true, false, cond, is_some, Option, Some, None, Result, Ok, Err, ⊤}
use Rattle.std.specs.Prelude.{option_and_then}
use Rattle.nop_types.specs.Configuration.{Configuration}
use Rattle.nop_types.specs.Given.{Given, Submit}
use Rattle.nop_types.specs.Lists.{Has}
use Rattle.nop_types.specs.declared.input.Tick.{Tick}
use Rattle.nop_types.specs.declared.output.Accept.{Accept}
use Rattle.nop_types.specs.declared.output.Actor.TheVariants.{Client}
use Rattle.nop_types.specs.declared.output.Out.{Out}
use Rattle.nop_types.specs.declared.output.Out.TheVariants.{Submitted, Accepted}
use Rattle.nop_types.specs.declared.request.Request.{Request}
use Rattle.outside.specs.Ports.{GivesNext}
use Rattle.outside.specs.declared.link.Link as links
use Rattle.outside.specs.declared.link.PollAnswer.{PollAnswer}
use Rattle.client_quorum.specs.ClientSteps as requests
use Rattle.client_quorum.specs.Core as client
use Rattle.client_quorum.specs.OpenRequests.{open_requests}
use Rattle.client_quorum.specs.Opens.{accepted_in}
use Rattle.client_quorum.specs.Runs.{after, gave, ops_of, replies_of, IsAgreed}
use Rattle.client_quorum.specs.declared.state.ClientState.{ClientState}
use Rattle.udp_node.specs.Effects.{calls, effects_by, step_effects}
use Rattle.udp_node.specs.NodeRun.{NodeRun, first_inputs, run_after}
use Rattle.udp_node.specs.Sends.{LinkSide, Sends}
use Rattle.udp_node.specs.declared.address.Address.{Address}
use Rattle.client_call.specs.Calls.{CallsMade, PollFailed, SomeCallsMade, TurnsEnded}
use Rattle.client_call.specs.declared.errors.CallError.{CallError}
use Rattle.client_call.specs.declared.errors.CallError.TheVariants.{PortFault, LinkFault, Unanswered, NoMemory}

-- ---- the core of a session

-- a client, and the id of the request that is awaited
pub record SessionState : Type 0 where
  pub config : Configuration
  pub number : ℕ
  pub client : client.Client
  pub awaited : Option ℕ

abbrev pub opening : Configuration → ℕ → SessionState
opening config number =
    record { config = config; number = number; client = client.opening config number []; awaited = None }

abbrev pub stepped : SessionState → client.Client × List Out → SessionState × List Out
stepped s y = (record s { client = y.0 }, y.1)

-- its client takes the step
abbrev pub next : SessionState → Given → SessionState × List Out
next s x = stepped s (client.next s.client x)

-- with their periods in milliseconds
abbrev pub timers : List (Tick × ℕ)
timers = client.timers

-- the acceptance of the request that is awaited
abbrev pub acceptance : SessionState → Option Accept
acceptance s = option_and_then (accepted_in s.client.requests.recent) s.awaited

abbrev pub is_done : SessionState → Bool
is_done s = is_some (acceptance s)

-- ---- an op is submitted

abbrev pub last_id : SessionState → ℕ
last_id s = s.client.requests.last_id

-- there is room for one more request
abbrev pub can_submit : SessionState → Bool
can_submit s = requests.can_submit s.client.requests

-- the request of the next id is awaited, where there is room for it
abbrev pub awaiting : SessionState → SessionState
awaiting s = record s { awaited = cond (can_submit s) (Some (last_id s + 1)) None }

-- the op comes, where its request is awaited
abbrev pub first_of : Option ℕ → List ℕ → Option Given
first_of None op = None
first_of (Some id) op = Some (Submit op)

-- ---- the result, over any devices

-- a client of this number, which began without ops, comes to this state
pub record IsRun (config : Configuration) (number : ℕ) (s : ClientState) : Type 0 where
  pub inputs : List Given
  pub is : s ≡ after (requests.opening config number []) inputs

-- In a run of the client it submitted the op as the request of this id, and accepted this result, which it keeps with its slot. With it
-- replied the leader of a view, and with that f + 1 replicas at the slot.
pub record IsAnswered (config : Configuration) (number id : ℕ) (op : List ℕ) (accept : Accept) : Type 0 where
  pub of_id : accept.id ≡ id
  pub inputs : List Given
  pub submitted : Has (gave (requests.opening config number []) inputs) (Submitted (record { client = number; id = id; op = op }))
  pub accepted : Has (gave (requests.opening config number []) inputs) (Accepted number id accept.result)
  pub kept : accepted_in (after (requests.opening config number []) inputs).recent id ≡ Some accept
  pub agreed : IsAgreed config.replicas (replies_of inputs) number id accept.result
  pub at_slot : agreed.slot ≡ accept.slot

-- an op is answered as the request of the next id
abbrev pub AnswersOp : SessionState → List ℕ → Result Accept CallError → Type 0
AnswersOp s op (Ok accept) = IsAnswered s.config s.number (last_id s + 1) op accept
AnswersOp s op _ = ⊤

-- It is the same client, which took these inputs from one state to the other, and the ops that it submitted then are these, in order: each as
-- the request of the next id (`takes_turns` of `client_quorum`).
pub record Submits (s t : SessionState) (ops : List (List ℕ)) : Type 0 where
  pub config : t.config ≡ s.config
  pub number : t.number ≡ s.number
  pub inputs : List Given
  pub requests : t.client.requests ≡ after s.client.requests inputs
  pub submitted : ops_of (gave s.client.requests inputs) ≡ ops
  pub last_id : last_id t ≡ last_id s + length ops

-- the request of the next id is not accepted, where there was room for it
abbrev pub IsLeftOpen : SessionState → SessionState → Type 0
IsLeftOpen s t = can_submit s ≡ true → accepted_in t.client.requests.recent (last_id s + 1) ≡ None

-- An op that is answered was submitted, and one that is not was where there was room for its request, which is not accepted; no other op was.
abbrev pub GoesOn : SessionState → SessionState → List ℕ → Result Accept CallError → Type 0
GoesOn s t op (Ok accept) = Submits s t (op ∷ [])
GoesOn s t op (Err Unanswered) = Submits s t (cond (can_submit s) (op ∷ []) []) × IsLeftOpen s t
GoesOn s t op _ = ⊤

-- none of its requests is open
abbrev pub HasNoneOpen : SessionState → Type 0
HasNoneOpen s = open_requests s.client.requests ≡ []

-- ---- how a session ends

abbrev pub ended_by : Result Accept CallError → Option CallError
ended_by (Ok accept) = None
ended_by (Err Unanswered) = None
ended_by (Err e) = Some e

-- one that has ended stays so
abbrev pub ended_after : Option CallError → Result Accept CallError → Option CallError
ended_after None result = ended_by result
ended_after (Some e) result = Some e

-- ---- the run, over an observable link and clock

abbrev pub address_in : ℕ → SessionState → Address
address_in base s = record { base = base; own = Client s.number; config = s.config }

abbrev pub run_of : SessionState → List ℕ → ℕ → List PollAnswer → List ℕ → NodeRun
run_of s op turns answers values =
    run_after next is_done (first_inputs (first_of (awaiting s).awaited op)) timers turns (awaiting s) answers values

-- the request was accepted
pub record Answered (at : Address) (r : NodeRun) (a b : LinkSide) : Type 0 where
  pub done : r.done ≡ true
  pub works : r.broken ≡ false
  pub calls : CallsMade (calls (effects_by (step_effects false at) r.acts)) a b

abbrev pub EndsTurns : Address → ℕ → NodeRun → Result Accept CallError → LinkSide → LinkSide → Type 0
EndsTurns at turns r (Ok accept) a b = Answered at r a b
EndsTurns at turns r (Err PortFault) a b = ⊥
EndsTurns at turns r (Err LinkFault) a b = PollFailed at r a b
EndsTurns at turns r (Err Unanswered) a b = TurnsEnded at turns r a b
EndsTurns at turns r (Err NoMemory) a b = SomeCallsMade (calls (effects_by (step_effects false at) r.acts)) a b

abbrev pub TakesTurns : Address → SessionState → List ℕ → ℕ → Option (List PollAnswer) → Option (List ℕ) → Result Accept CallError
    → LinkSide → LinkSide → Type 0
TakesTurns at s op turns None values result a b = ⊤
TakesTurns at s op turns (Some answers) None result a b = ⊤
TakesTurns at s op turns (Some answers) (Some values) result a b = EndsTurns at turns (run_of s op turns answers values) result a b

-- one that has ended answers why, and makes no call
abbrev pub TakesOp : Option CallError → Address → SessionState → List ℕ → ℕ → Option (List PollAnswer) → Option (List ℕ)
    → Result Accept CallError → LinkSide → LinkSide → Type 0
TakesOp None at s op turns answers values result a b = TakesTurns at s op turns answers values result a b
TakesOp (Some e) at s op turns answers values result a b = (result ≡ Err e) × (b ≡ a)

-- ---- the link

-- the next link of ports, at this port, on which no call was made
pub record IsGiven {L : Type 0} (link : links.Ghosts L) (to_come later : Option (List (List PollAnswer))) (port : ℕ) (l : L) : Type 0 where
  pub at : link.own_port l ≡ port
  pub faults : link.fault_count l ≡ 0
  pub losses : link.loss_count l ≡ 0
  pub content : GivesNext to_come later (link.answers l) (link.trace l)
