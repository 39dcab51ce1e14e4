-- What a drain does, and one turn of it.
use Rattle.std.specs.Prelude.{◌≡◌, ◌+◌, ◌++◌, Bool, true, false, List}
use Rattle.nop_types.specs.Meaning.{Meaning}
use Rattle.nop_types.specs.Logs.{Keeping, unsynced}
use Rattle.nop_types.specs.declared.request.Request.{Request}
use Rattle.oum_receiver.specs.Front.{Nothing, Message, Dropped}
use Rattle.oum_receiver.specs.Receiving.{front_of}
use Rattle.replica_state.specs.declared.sending.Sending.{Sending}
use Rattle.replica_state.specs.declared.state.ReplicaState.{ReplicaState}
use Rattle.replica_state.specs.State.{drains, leads}
use Rattle.replica_state.specs.Sends.{Effect, still, then_do}
use Rattle.replica_state.specs.Moves.{take_front, open_gap, ask, drain_at, drain}

-- whatever comes after it, a turn that goes on is the first of a drain
pub record GoesOn {S : Type 0} (m : Meaning S) (k : Keeping) (s : ReplicaState) (old : List Sending) (t : ReplicaState)
    (new : List Sending) : Type 0 where
  pub drains : drains k s ≡ true
  pub filled : unsynced k t.log ≡ unsynced k s.log + 1
  pub more : List Sending
  pub turn : (again : ReplicaState → Effect) → drain_at m k again s true (front_of s.receiver) ≡ then_do (t, more) again
  pub sends : new ≡ old ++ more

-- and one that stops is all of it
pub record Stops {S : Type 0} (m : Meaning S) (k : Keeping) (s : ReplicaState) (old : List Sending) (t : ReplicaState)
    (new : List Sending) : Type 0 where
  pub more : List Sending
  pub turn : (again : ReplicaState → Effect) → drain_at m k again s (drains k s) (front_of s.receiver) ≡ (t, more)
  pub sends : new ≡ old ++ more

abbrev pub TakesOne : {S : Type 0} → Meaning S → Keeping → ReplicaState → List Sending → ReplicaState → List Sending → Bool → Type 0
TakesOne m k s sends t sends_new true = GoesOn m k s sends t sends_new
TakesOne m k s sends t sends_new false = Stops m k s sends t sends_new

-- ---- what a drain does, by what is in front

pub record DrainsByFront {S : Type 0} (m : Meaning S) (k : Keeping) (s : ReplicaState) : Type 0 where
  -- where nothing may be taken, as with a log without room, and where nothing is in front
  pub rests : drains k s ≡ false → drain m k s ≡ still s
  pub ends : drains k s ≡ true → front_of s.receiver ≡ Nothing → drain m k s ≡ still s
  -- it goes on after a request, and after a leader's gap
  pub takes : (r : Request) → drains k s ≡ true → front_of s.receiver ≡ Message r
      → drain m k s ≡ then_do (take_front m k s r) (drain m k)
  pub opens : drains k s ≡ true → front_of s.receiver ≡ Dropped → leads s ≡ true
      → drain m k s ≡ then_do (open_gap k s) (drain m k)
  -- and stops where a follower asks
  pub asks : drains k s ≡ true → front_of s.receiver ≡ Dropped → leads s ≡ false → drain m k s ≡ ask k s
