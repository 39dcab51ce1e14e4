-- What a device tells of its content, call after call.
use Rattle.std.proofs.Common.{Option, Some, None, subst}
use Rattle.outside.specs.Observed.{Stays}

pub Stays_trans : {A : Type 0} (a b c : Option A) → Stays a b → Stays b c → Stays a c
Stays_trans None b c one two = tt
Stays_trans {A = A} (Some x) b c one two = subst (λ (o : Option A). Stays o c) one two
