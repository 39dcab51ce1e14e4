-- The step table of the replica: packets are read and fragments joined, a row over whole messages is taken, and what it sends is
-- cut into datagrams.
use Rattle.std.specs.Prelude.{ℕ, ◌+◌, List, [], ◌∷◌, Bool, true, false, Option, Some, None, Result, Ok, Err, nat_lt, ◌==◌}
use Rattle.nop_types.specs.Configuration.{Configuration}
use Rattle.nop_types.specs.Logs.{Trimmed}
use Rattle.nop_types.specs.Meaning.{Meaning}
use Rattle.nop_types.specs.Given.{Given, Packet, Ticked}
use Rattle.nop_types.specs.declared.input.Tick.{Tick}
use Rattle.nop_types.specs.declared.input.Tick.TheVariants as ticks
use Rattle.nop_types.specs.declared.datagram.Fragment.{Fragment}
use Rattle.nop_types.specs.declared.datagram.Datagram.{Datagram}
use Rattle.nop_types.specs.declared.datagram.Datagram.TheVariants as datagrams
use Rattle.nop_types.specs.declared.output.Out.{Out}
use Rattle.nop_types.specs.declared.peer.Peer.{Peer}
use Rattle.oum_codec.specs.declared.bad.Bad.{Bad}
use Rattle.oum_codec.specs.Reading.{reading}
use Rattle.peer_codec.specs.declared.bad_peer.BadPeer.{BadPeer}
use Rattle.peer_codec.specs.Reading as peer
use Rattle.fragments.specs.Joining.{Waiting, taken}
use Rattle.fragments.specs.Joining as joining
use Rattle.replica_state.specs.State.{is_other}
use Rattle.replica_state.specs.declared.state.ReplicaState.{ReplicaState}
use Rattle.replica_state.specs.State as state
use Rattle.replica_state.specs.Sends.{Effect, message_count}
use Rattle.replica_rows.specs.Messages as messages
use Rattle.replica_core.specs.declared.replica.ReplicaParts.{ReplicaParts}
use Rattle.replica_core.specs.declared.replica.TheConstants.{RESEND_MILLIS, SYNC_MILLIS, WATCH_MILLIS, LAST_MESSAGE}
use Rattle.replica_core.specs.Posting.{posted}

-- a replica with what its messages need: the last message number that it used, and the fragments that wait
pub record Replica : Type 0 where
  pub state : ReplicaState
  pub messages : ℕ
  pub reassembly : List Waiting

-- the same of the code's, without what executes its log
abbrev pub replica_of : {H U : Type 0} → ReplicaParts H U → Replica
replica_of n = record { state = n.member.state; messages = n.messages; reassembly = n.reassembly }

abbrev pub opening : Configuration → ℕ → Replica
opening config number = record { state = state.opening config number; messages = 0; reassembly = joining.opening config.replicas }

abbrev pub timers : List (Tick × ℕ)
timers = (ticks.Resend, RESEND_MILLIS) ∷ (ticks.Sync, SYNC_MILLIS) ∷ (ticks.Watch, WATCH_MILLIS) ∷ []

-- the state of a row, and what it sends as outputs
abbrev pub post : Replica → Effect → Replica × List Out
post s e = (record s { state = e.0; messages = s.messages + message_count e.1 }, posted s.messages e.1)

abbrev pub row_if : {S : Type 0} → Meaning S → Bool → Replica → messages.Arrival → Replica × List Out
row_if m true s a = post s (messages.arrive m Trimmed s.state a)
row_if m false s a = (s, [])

-- while message numbers are left, the row for what arrives
abbrev pub row : {S : Type 0} → Meaning S → Replica → messages.Arrival → Replica × List Out
row m s a = row_if m (nat_lt s.messages LAST_MESSAGE) s a

-- ---- fragments

-- the message that is joined has to be of the fragment's replica
abbrev pub of_sender_if : {S : Type 0} → Meaning S → Bool → Replica → Peer → Replica × List Out
of_sender_if m true s p = row m s (messages.PeerMessage p)
of_sender_if m false s p = (s, [])

abbrev pub read : {S : Type 0} → Meaning S → Replica → ℕ → Result Peer BadPeer → Replica × List Out
read m s q (Ok p) = of_sender_if m (p.sender == q) s p
read m s q (Err e) = (s, [])

abbrev pub joined : {S : Type 0} → Meaning S → Replica → ℕ → Option (List ℕ) → Replica × List Out
joined m s q None = (s, [])
joined m s q (Some bytes) = read m s q (peer.reading bytes)

abbrev pub fragment_if : {S : Type 0} → Meaning S → Bool → Replica → Fragment → Replica × List Out
fragment_if m true s f = joined m (record s { reassembly = (taken s.reassembly f).0 }) f.replica (taken s.reassembly f).1
fragment_if m false s f = (s, [])

-- a fragment of another replica
unfoldable pub fragment : {S : Type 0} → Meaning S → Replica → Fragment → Replica × List Out
fragment m s f = fragment_if m (is_other s.state f.replica) s f

-- ---- all inputs

abbrev pub on_datagram : {S : Type 0} → Meaning S → Replica → Result Datagram Bad → Replica × List Out
on_datagram m s (Ok (datagrams.Stamped p)) = row m s (messages.Packet p)
on_datagram m s (Ok (datagrams.Fragment f)) = fragment m s f
on_datagram m s _ = (s, [])

unfoldable pub next : {S : Type 0} → Meaning S → Replica → Given → Replica × List Out
next m s (Packet bytes) = on_datagram m s (reading bytes)
next m s (Ticked tick) = row m s (messages.Ticked tick)
next m s _ = (s, [])
