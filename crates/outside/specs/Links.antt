-- What the polls of a link answer, and which calls on it stand in its trace.
use Rattle.std.specs.Prelude.{◌≡◌, ℕ, List, [], ◌∷◌, drop, Option, Some, None, Result, Ok, Err, ⊤}
use Rattle.outside.specs.declared.errors.DeviceError.{DeviceError}
use Rattle.outside.specs.declared.errors.DeviceError.TheVariants.{Failed, NoMemory}
use Rattle.outside.specs.declared.link.PollAnswer.{PollAnswer}
use Rattle.outside.specs.declared.link.PollAnswer.TheVariants.{Received, Nothing, Failure}
use Rattle.outside.specs.declared.link.LinkCall.{LinkCall}
use Rattle.outside.specs.declared.link.LinkCall.TheVariants.{Polled}
use Rattle.outside.specs.Observed.{Adds, Stays}

-- what a poll with this answer gives its caller
abbrev pub poll_result : PollAnswer → Result (Option (List ℕ)) DeviceError
poll_result (Received datagram) = Ok (Some datagram)
poll_result Nothing = Ok None
poll_result Failure = Err Failed

-- what the next poll answers: after the last answer there is no datagram
abbrev pub next_poll : List PollAnswer → PollAnswer
next_poll [] = Nothing
next_poll (a ∷ answers) = a

-- the poll takes its answer; where memory runs out the answers stay
abbrev pub TakesAnswer : List PollAnswer → Option (List PollAnswer) → Result (Option (List ℕ)) DeviceError → Type 0
TakesAnswer answers new (Err NoMemory) = new ≡ Some answers
TakesAnswer answers new result = (result ≡ poll_result (next_poll answers)) × (new ≡ Some (drop 1 answers))

-- a poll gives and takes the next answer, where they are observable
abbrev pub Polls : Option (List PollAnswer) → Option (List PollAnswer) → Result (Option (List ℕ)) DeviceError → Type 0
Polls None new result = ⊤
Polls (Some answers) new result = TakesAnswer answers new result

-- a poll is in the trace, also one that failed, but not where memory ran out
abbrev pub TracesPoll : {T : Type 0} → Option (List LinkCall) → Option (List LinkCall) → Result T DeviceError → Type 0
TracesPoll old new (Ok t) = Adds old new Polled
TracesPoll old new (Err Failed) = Adds old new Polled
TracesPoll old new (Err NoMemory) = Stays old new
