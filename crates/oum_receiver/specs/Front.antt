-- What is in front of a receiver.
use Rattle.std.specs.Prelude.{Option, Some, None, Bool, true, false}
use Rattle.nop_types.specs.declared.request.Request.{Request}
use Rattle.oum_receiver.specs.declared.upcall.Upcall.{Upcall}
use Rattle.oum_receiver.specs.declared.upcall.Upcall.TheVariants as upcalls

-- nothing, the request of the next number, or a drop of the next number
pub data Front : Type 0 where
  Nothing : Front
  Message : Request → Front
  Dropped : Front

-- an upcall without where its request lies in memory
abbrev pub front_given : Option Upcall → Front
front_given None = Nothing
front_given (Some (upcalls.Message request)) = Message request.now
front_given (Some upcalls.Drop) = Dropped

-- the front, by whether the queue is empty, and what is queued at the next number
abbrev pub front_at : Bool → Option Request → Front
front_at true found = Nothing
front_at false (Some request) = Message request
front_at false None = Dropped

-- the request in front, if one stands there
abbrev pub request_in : Front → Option Request
request_in Nothing = None
request_in (Message request) = Some request
request_in Dropped = None
