-- Questions leave what a link answers as it was.
use Rattle.std.proofs.Common.{List, ℕ, Option, Some, None, Result, refl, subst}
use Rattle.outside.specs.Links.{Polls}
use Rattle.outside.specs.Observed.{Stays}
use Rattle.outside.specs.declared.errors.DeviceError.{DeviceError}
use Rattle.outside.specs.declared.link.PollAnswer.{PollAnswer}

pub stays_same : {A : Type 0} (a : Option A) → Stays a a
stays_same None = tt
stays_same (Some x) = refl

pub stays_then : {A : Type 0} (a b c : Option A) → Stays a b → Stays b c → Stays a c
stays_then {A = A} None b c h k = tt
stays_then {A = A} (Some x) b c h k = subst (λ (o : Option A). Stays o c) h k

pub polls_then : (a b c : Option (List PollAnswer)) (r : Result (Option (List ℕ)) DeviceError) → Stays a b → Polls b c r → Polls a c r
polls_then None b c r h k = tt
polls_then (Some x) b c r h k = subst (λ (o : Option (List PollAnswer)). Polls o c r) h k
