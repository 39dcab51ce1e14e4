-- What a call leaves of its session, and writes.
use Rattle.std.proofs.Common.{◌≡◌, ◌∙◌, ℕ, List, Option, None, sym, ap, subst}
use Rattle.std.specs.Prelude.{Result, Ok, Err}
use Rattle.nop_types.specs.declared.output.Accept.{Accept}
use Rattle.client_call.specs.Sessions as sessions
use Rattle.client_call.specs.Sessions.{SessionState, ended_after, ended_by}
use Rattle.client_call.specs.declared.errors.CallError.{CallError}
use Rattle.client_call.specs.declared.errors.CallError.TheVariants as errors
use Rattle.service_tool.specs.Calls.{Concludes, GoesOnBy}
use Rattle.service_tool.specs.Outputs.{Outputs}
use Rattle.service_tool.specs.Statuses.{IsOfCall}
use Rattle.service_tool.specs.declared.status.Status.{Status}
use Rattle.service_tool.specs.Repl.{worse}
use Rattle.service_tool.specs.declared.status.Status.TheVariants.{Done, Usage, ReadFault, WriteFault}
use Rattle.service_tool.specs.declared.status.Status.TheVariants.{LinkFault, NoMemory, Unanswered, Refuted}

none_after : (was : Option CallError) (r : Result Accept CallError) → was ≡ None → ended_after was r ≡ ended_by r
none_after was r none = ap (λ (w : Option CallError). ended_after w r) none

-- after the answer to an op, or where there is none yet
pub goes_on : (s t : SessionState) (op : List ℕ) (was ended : Option CallError) (r : Result Accept CallError)
    → (was ≡ None → sessions.GoesOn s t op r) → ended ≡ ended_after was r → was ≡ None → GoesOnBy s t op ended r
goes_on s t op was ended (Ok accept) later ends none =
    record { submits = later none; has_not_ended = ends ∙ none_after was (Ok accept) none }
goes_on s t op was ended (Err errors.Unanswered) later ends none =
    record { submits = (later none).0; has_not_ended = ends ∙ none_after was (Err errors.Unanswered) none }
goes_on s t op was ended (Err errors.PortFault) later ends none = tt
goes_on s t op was ended (Err errors.LinkFault) later ends none = tt
goes_on s t op was ended (Err errors.NoMemory) later ends none = tt

pub of_call : (program : List ℕ) (r : Result (List ℕ) CallError) (o : Outputs) (status : Status)
    → Concludes program r o status → IsOfCall status
of_call program (Ok lines) o status c = subst IsOfCall (sym c.0) tt
of_call program (Err errors.Unanswered) o status c = subst IsOfCall (sym c.0) tt
of_call program (Err errors.PortFault) o status c = subst IsOfCall (sym c.0) tt
of_call program (Err errors.LinkFault) o status c = subst IsOfCall (sym c.0) tt
of_call program (Err errors.NoMemory) o status c = subst IsOfCall (sym c.0) tt

-- ---- one call after another

pub of_call_worse : (before now : Status) → IsOfCall before → IsOfCall now → IsOfCall (worse before now)
of_call_worse Done now b n = n
of_call_worse Usage now b n = b
of_call_worse LinkFault now b n = b
of_call_worse NoMemory now b n = b
of_call_worse Unanswered now b n = b
of_call_worse ReadFault now b n = b
of_call_worse WriteFault now b n = b
of_call_worse Refuted now b n = b
