-- What changes nothing at a replica.
use Rattle.std.specs.Prelude.{◌≡◌, ℕ, List, [], Bool, true, false, Ok, Err}
use Rattle.nop_types.specs.Given.{Given, Packet}
use Rattle.nop_types.specs.Logs.{Trimmed}
use Rattle.nop_types.specs.Meaning.{Meaning}
use Rattle.nop_types.specs.declared.datagram.Datagram.{Datagram}
use Rattle.nop_types.specs.declared.datagram.Datagram.TheVariants as datagrams
use Rattle.nop_types.specs.declared.peer.Peer.{Peer}
use Rattle.nop_types.specs.declared.peer.Body.{Body}
use Rattle.nop_types.specs.declared.peer.Body.TheVariants as bodies
use Rattle.oum_codec.specs.declared.bad.Bad.{Bad}
use Rattle.oum_codec.specs.Reading.{reading}
use Rattle.replica_state.specs.declared.state.ReplicaState.{ReplicaState}
use Rattle.replica_rows.specs.Messages.{PeerMessage, arrive}
use Rattle.replica_state.specs.State.{is_current, is_other}
use Rattle.replica_state.specs.Sends.{still}
use Rattle.replica_core.specs.ReplicaSteps.{Replica, next}

-- ---- datagrams

-- a stamped request, and a fragment of another replica
abbrev pub is_for : Replica → Datagram → Bool
is_for s (datagrams.Stamped p) = true
is_for s (datagrams.Fragment f) = is_other s.state f.replica
is_for s _ = false

-- the input changes nothing, and nothing is sent
abbrev pub IsIgnored : {S : Type 0} → Meaning S → Replica → Given → Type 0
IsIgnored m s x = next m s x ≡ (s, [])

-- bytes that spell nothing, and datagrams for others
pub record IgnoresPacket {S : Type 0} (m : Meaning S) (s : Replica) (bytes : List ℕ) : Type 0 where
  pub unread : (e : Bad) → reading bytes ≡ Err e → IsIgnored m s (Packet bytes)
  pub others : (d : Datagram) → reading bytes ≡ Ok d → is_for s d ≡ false → IsIgnored m s (Packet bytes)

-- ---- whole messages

-- one that is taken only in its view, where the replica is Normal
abbrev pub is_of_view : Body → Bool
is_of_view (bodies.SlotLookup k) = true
is_of_view (bodies.Found k r) = true
is_of_view (bodies.GapCommit k) = true
is_of_view (bodies.GapRep k) = true
is_of_view (bodies.SyncPrepare l) = true
is_of_view (bodies.SyncRep k) = true
is_of_view (bodies.SyncCommit k) = true
is_of_view _ = false

abbrev pub Rests : {S : Type 0} → Meaning S → ReplicaState → Peer → Type 0
Rests m s p = arrive m Trimmed s (PeerMessage p) ≡ still s

-- a message of no other replica of the group, and one of another view or status
pub record IgnoresMessage {S : Type 0} (m : Meaning S) (s : ReplicaState) (p : Peer) : Type 0 where
  pub stranger : is_other s p.sender ≡ false → Rests m s p
  pub elsewhere : is_of_view p.body ≡ true → is_current s p.view ≡ false → Rests m s p
