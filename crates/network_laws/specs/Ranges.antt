-- A state and what is sent are in their ranges.
use Rattle.std.specs.List.{AllByRecursion}
use Rattle.nop_types.specs.Logs.{Keeping}
use Rattle.oum_receiver.specs.Receiving.{IsSound}
use Rattle.replica_state.specs.Sends.{Effect, SendingIsIn}
use Rattle.replica_state.specs.Within.{IsIn}

-- the state is in its ranges, its receiver is sound, and what is sent is in its ranges; logs are kept whole or trimmed
pub record StaysInRanges (k : Keeping) (e : Effect) : Type 0 where
  pub within : IsIn k e.0
  pub receiver : IsSound e.0.receiver
  pub sends : AllByRecursion (SendingIsIn k) e.1
