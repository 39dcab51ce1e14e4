-- What a call gives.
use Rattle.std.specs.Prelude.{◌≡◌, ℕ, List, true, false, Option, Some, None, Result, Ok, Err, ⊤}
use Rattle.nop_types.specs.declared.output.Accept.{Accept}
use Rattle.outside.specs.declared.link.LinkCall.{LinkCall}
use Rattle.udp_node.specs.Effects.{calls, effects_by, step_effects}
use Rattle.udp_node.specs.NodeRun.{NodeRun}
use Rattle.udp_node.specs.Sends.{LinkSide, Sends, SendsPrefix}
use Rattle.udp_node.specs.declared.address.Address.{Address}
use Rattle.udp_node.specs.declared.errors.ServeError.{ServeError}
use Rattle.udp_node.specs.declared.errors.ServeError.TheVariants as serves
use Rattle.client_call.specs.declared.errors.CallError.{CallError}
use Rattle.client_call.specs.declared.errors.CallError.TheVariants.{PortFault, LinkFault, Unanswered, NoMemory}

-- ---- the result

-- what a client had accepted, if something
abbrev pub GivesAccepted : Option Accept → Result Accept CallError → Type 0
GivesAccepted None (Ok accept) = ⊥
GivesAccepted (Some a) (Ok accept) = accept ≡ a
GivesAccepted accepted (Err PortFault) = ⊥
GivesAccepted accepted (Err LinkFault) = ⊥
GivesAccepted None (Err Unanswered) = ⊤
GivesAccepted (Some a) (Err Unanswered) = ⊥
GivesAccepted accepted (Err NoMemory) = ⊤

-- ---- errors

-- the client's lines are kept in memory, so that a write fails only where memory runs out
abbrev pub error_of : ServeError → CallError
error_of serves.LinkFault = LinkFault
error_of serves.WriteFault = NoMemory
error_of serves.NoMemory = NoMemory

-- ---- the run, over an observable link and clock

-- these calls were made on a link and no others; any number of datagrams was counted as lost
abbrev pub CallsMade : List LinkCall → LinkSide → LinkSide → Type 0
CallsMade cs a b = (lost : ℕ) × Sends cs a (record b { lost = lost })

-- or only the first of them
abbrev pub SomeCallsMade : List LinkCall → LinkSide → LinkSide → Type 0
SomeCallsMade cs a b = (lost : ℕ) × SendsPrefix cs a (record b { lost = lost })

-- all turns were taken, and the client was not done
pub record TurnsEnded (at : Address) (turns : ℕ) (r : NodeRun) (a b : LinkSide) : Type 0 where
  pub all : r.turns ≡ turns
  pub done : r.done ≡ false
  pub works : r.broken ≡ false
  pub calls : CallsMade (calls (effects_by (step_effects false at) r.acts)) a b

-- a poll failed
pub record PollFailed (at : Address) (r : NodeRun) (a b : LinkSide) : Type 0 where
  pub broken : r.broken ≡ true
  pub calls : CallsMade (calls (effects_by (step_effects false at) r.acts)) a b
