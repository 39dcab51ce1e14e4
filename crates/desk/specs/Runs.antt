-- Runs of a desk over any events, and what they tell.
use Rattle.std.specs.Prelude.{◌≡◌, ◌⊎◌, ℕ, ◌<◌, ⊤, Bool, true, false, ◌==◌, List, [], ◌∷◌, ◌++◌, Option, Some, None, slice_get}
use Rattle.nop_types.specs.declared.output.Out.{Out}
use Rattle.nop_types.specs.declared.output.Out.TheVariants.{Submitted, Accepted}
use Rattle.nop_types.specs.declared.request.Request.{Request}
use Rattle.nop_types.specs.Given.{Given}
use Rattle.client_quorum.specs.Core as client
use Rattle.client_quorum.specs.ClientSteps.{can_submit}
use Rattle.desk.specs.Desks.{Event, Take, next}
use Rattle.desk.specs.declared.desk_state.DeskState.{DeskState}
use Rattle.desk.specs.declared.submitter.Labelled.{Labelled}
use Rattle.desk.specs.declared.submitter.Submitter.{Submitter}

-- the state after some events
abbrev pub after : DeskState → List Event → DeskState
after d [] = d
after d (e ∷ es) = after (next d e).0 es

-- what they tell, in order
abbrev pub gave : DeskState → List Event → List Labelled
gave d [] = []
gave d (e ∷ es) = (next d e).1 ++ gave (next d e).0 es

-- what the core at a place gave, of what was told
abbrev pub gave_if : Bool → Out → List Out → List Out
gave_if true out outs = out ∷ outs
gave_if false out outs = outs

abbrev pub gave_by : (core : ℕ) → List Labelled → List Out
gave_by core [] = []
gave_by core (g ∷ told) = gave_if (g.core == core) g.out (gave_by core told)

-- a client that took some inputs gave these outputs, and is in this state
pub record RanAs (start : client.Client) (given : List Out) (state : client.Client) : Type 0 where
  pub inputs : List Given
  pub ends : client.after start inputs ≡ state
  pub outs : client.gave start inputs ≡ given

-- the op of an event, where a user asks for one
abbrev pub op_in : Event → List (List ℕ)
op_in (Take op) = op ∷ []
op_in _ = []

-- the ops that were taken, in order: that of ticket t stands at place t
abbrev pub ops_of : List Event → List (List ℕ)
ops_of [] = []
ops_of (e ∷ es) = op_in e ++ ops_of es

-- ---- what is told for a ticket

-- at an earlier place the same core submitted the request with this id for the same ticket
pub record WasSubmitted (told : List Labelled) (place core ticket id : ℕ) : Type 0 where
  pub request : Request
  pub earlier : ℕ
  pub before : earlier < place
  pub submitted : slice_get told earlier ≡ Some (record { core = core; ticket = Some ticket; out = Submitted request })
  pub of_id : request.id ≡ id

-- of the ops and what was told: a submission for a ticket is of the ticket's op, which was taken; an acceptance for a ticket is of a request
-- that was submitted for it
abbrev pub IsTrue : List (List ℕ) → List Labelled → (place core : ℕ) → Option ℕ → Out → Type 0
IsTrue ops told place core (Some ticket) (Submitted r) = slice_get ops ticket ≡ Some r.op
IsTrue ops told place core (Some ticket) (Accepted client id result) = WasSubmitted told place core ticket id
IsTrue ops told place core (Some ticket) _ = ⊤
IsTrue ops told place core None _ = ⊤

-- what stands at each place is
abbrev pub IsTold : List (List ℕ) → List Labelled → Type 0
IsTold ops told = (place : ℕ) (g : Labelled) → slice_get told place ≡ Some g → IsTrue ops told place g.core g.ticket g.out

-- it answers a ticket
abbrev pub IsAnswer : Option ℕ → Out → ℕ → Type 0
IsAnswer (Some n) (Accepted client id result) ticket = n ≡ ticket
IsAnswer (Some n) _ ticket = ⊥
IsAnswer None _ ticket = ⊥

-- no core takes an op
abbrev pub NoneTakes : List Submitter → Type 0
NoneTakes cores = (i : ℕ) (s : Submitter) → slice_get cores i ≡ Some s → can_submit s.client.state.requests ≡ false

-- no op waits, or no core takes one
abbrev pub IsBusy : DeskState → Type 0
IsBusy d = (d.queue ≡ []) ⊎ NoneTakes d.cores
