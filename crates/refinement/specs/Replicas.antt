-- When moves of the protocol do what a row of a replica's step table does.
use Rattle.std.specs.Prelude.{◌≡◌, ◌⊎◌, ◌<◌, ◌+◌, ◌*◌, ℕ, ⊤, List}
use Rattle.nop_types.specs.Lists.{Has}
use Rattle.nop_types.specs.Logs.{Whole}
use Rattle.nop_types.specs.Meaning.{Meaning}
use Rattle.started_views.specs.Past.{note}
use Rattle.replica_state.specs.declared.sending.Sending.{Sending}
use Rattle.replica_state.specs.declared.state.ReplicaState.{ReplicaState}
use Rattle.replica_rows.specs.Messages.{Arrival, Packet, PeerMessage, Ticked, arrive}
use Rattle.replica_state.specs.Sends.{Effect}
use Rattle.replica_state.specs.State.{PointsMeet}
use Rattle.protocol.specs.Conf.{Conf}
use Rattle.protocol.specs.Invariant.{Inv}
use Rattle.protocol.specs.LocalState.{standing}
use Rattle.protocol.specs.Runs.{Move, run, MayAll}
use Rattle.protocol_sync.specs.Above.{GapsAreAbove}
use Rattle.protocol_sync.specs.Synced.{Sync}
use Rattle.refinement.specs.Projection.{local_state_of, said_of, said_in, replied_in}

-- the configuration meets the invariants, and has the replica r in this state, whose log is sent with its sync point
pub record Matches {S : Type 0} (m : Meaning S) (f : ℕ) (c : Conf) (r : ℕ) (s : ReplicaState) : Type 0 where
  pub within : r < 2 * f + 1
  pub inv : Inv m f c
  pub sync : Sync f c
  pub above : GapsAreAbove f c
  pub state : c.replicas r ≡ local_state_of s
  pub points : PointsMeet s

-- all but one replica, what replicas send, and the past
pub record SameBut (r : ℕ) (c d : Conf) : Type 0 where
  pub replicas : (q : ℕ) → (q ≡ r → ⊥) → d.replicas q ≡ c.replicas q
  pub sequencers : d.sequencers ≡ c.sequencers
  pub clients : d.clients ≡ c.clients
  pub controllers : d.controllers ≡ c.controllers
  pub requests : d.requests ≡ c.requests
  pub stamps : d.stamps ≡ c.stamps
  pub installs : d.installs ≡ c.installs
  pub lines : d.lines ≡ c.lines

-- the new list has what the old one had and what is more, and nothing else
pub record Adds {A : Type 0} (old new more : List A) : Type 0 where
  pub kept : (x : A) → Has old x → Has new x
  pub added : (x : A) → Has more x → Has new x
  pub only : (x : A) → Has new x → Has old x ⊎ Has more x

-- what was sent is what was sent before, and this
pub record AddsSends (c d : Conf) (sends : List Sending) : Type 0 where
  pub said : Adds c.said d.said (said_in sends)
  pub replies : Adds c.replies d.replies (replied_in sends)

-- some moves make of the replica r what the step e makes of its state s, change no other actor, and send what it sends; what they
-- note is what one step notes
pub record ReplicaReaches {S : Type 0} (m : Meaning S) (f : ℕ) (c : Conf) (r : ℕ) (s : ReplicaState) (e : Effect) : Type 0 where
  pub moves : List Move
  pub may : MayAll m f c moves
  pub state : (run m f c moves).replicas r ≡ local_state_of e.0
  pub points : PointsMeet e.0
  pub others : SameBut r c (run m f c moves)
  pub past : (run m f c moves).past ≡ note f c.past r (standing (local_state_of s)) (standing (local_state_of e.0))
  pub sends : AddsSends c (run m f c moves) e.1

-- what a packet or a message says was sent
abbrev pub Came : Conf → Arrival → Type 0
Came c (Packet p) = Has c.stamps p
Came c (PeerMessage p) = Has c.said (said_of p)
Came c (Ticked tick) = ⊤

-- whatever may arrive, the row that takes it is a list of moves
abbrev pub ReplicasReach : {S : Type 0} → Meaning S → Type 0
ReplicasReach m = (f : ℕ) (c : Conf) (r : ℕ) (s : ReplicaState) (a : Arrival) → Matches m f c r s → Came c a
    → ReplicaReaches m f c r s (arrive m Whole s a)
