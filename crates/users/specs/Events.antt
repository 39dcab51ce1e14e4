-- What the calls of `next` answer, and which calls stand in a trace.
use Rattle.std.specs.Prelude.{◌≡◌, ℕ, ◌≤◌, List, [], ◌∷◌, drop, length, Option, Some, None, Result, Ok, Err, ⊤}
use Rattle.outside.specs.declared.errors.DeviceError.{DeviceError}
use Rattle.outside.specs.declared.errors.DeviceError.TheVariants.{Failed, NoMemory}
use Rattle.outside.specs.Observed.{Adds, Stays}
use Rattle.users.specs.declared.event.UserEvent.{UserEvent}
use Rattle.users.specs.declared.event.UserEvent.TheVariants.{Sent}
use Rattle.users.specs.declared.event.UserAnswer.{UserAnswer}
use Rattle.users.specs.declared.event.UserAnswer.TheVariants as answers
use Rattle.users.specs.declared.event.UserCall.{UserCall}
use Rattle.users.specs.declared.event.UserCall.TheVariants as calls
use Rattle.users.specs.declared.limits.TheConstants.{MAX_EVENT_BYTES}

-- it has no more bytes than an event may have
abbrev pub IsShort : UserEvent → Type 0
IsShort (Sent user bytes) = length bytes ≤ MAX_EVENT_BYTES
IsShort _ = ⊤

-- what a call with this answer gives its caller
abbrev pub result_of : UserAnswer → Result (Option UserEvent) DeviceError
result_of (answers.Came event) = Ok (Some event)
result_of answers.Nothing = Ok None
result_of answers.Failure = Err Failed

-- what the next call answers: after the last answer there is no event
abbrev pub next_answer : List UserAnswer → UserAnswer
next_answer [] = answers.Nothing
next_answer (a ∷ answers) = a

-- the call takes its answer; where memory runs out the answers stay
abbrev pub TakesAnswer : List UserAnswer → Option (List UserAnswer) → Result (Option UserEvent) DeviceError → Type 0
TakesAnswer answers new (Err NoMemory) = new ≡ Some answers
TakesAnswer answers new result = (result ≡ result_of (next_answer answers)) × (new ≡ Some (drop 1 answers))

-- a call gives and takes the next answer, where they are observable
abbrev pub Gives : Option (List UserAnswer) → Option (List UserAnswer) → Result (Option UserEvent) DeviceError → Type 0
Gives None new result = ⊤
Gives (Some answers) new result = TakesAnswer answers new result

-- an event that was given is in the trace
abbrev pub Traces : Option (List UserCall) → Option (List UserCall) → Result (Option UserEvent) DeviceError → Type 0
Traces old new (Ok (Some event)) = Adds old new (calls.Came event)
Traces old new (Ok None) = Stays old new
Traces old new (Err e) = Stays old new
