-- What taking the request in front did.
use Rattle.std.specs.Prelude.{◌≡◌, ◌<◌, Bool, true, false, None}
use Rattle.nop_types.specs.declared.limits.TheConstants.{NUMBER_END}
use Rattle.nop_types.specs.Ranges.{RequestFits}
use Rattle.nop_types.specs.declared.request.Request.{Request}
use Rattle.oum_receiver.specs.Front.{Message, request_in}
use Rattle.oum_receiver.specs.Receiving.{front_of}
use Rattle.replica_state.specs.declared.state.ReplicaState.{ReplicaState}
use Rattle.replica_state.specs.Moves.{logged}

-- the request in front was logged, or none stands there
pub record TookFront (s t : ReplicaState) : Type 0 where
  pub request : Request
  pub front : front_of s.receiver ≡ Message request
  pub fits : RequestFits request
  pub more : s.next < NUMBER_END
  pub state : t ≡ logged s request

pub record TookNone (s t : ReplicaState) : Type 0 where
  pub front : request_in (front_of s.receiver) ≡ None
  pub state : t ≡ s

abbrev pub TakesFront : ReplicaState → ReplicaState → Bool → Type 0
TakesFront s t true = TookFront s t
TakesFront s t false = TookNone s t
