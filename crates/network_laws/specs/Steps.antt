-- A step of a replica in a network.
use Rattle.std.specs.Prelude.{◌≡◌, ◌⊎◌, ◌<◌, ◌+◌, ◌^◌, ℕ, List, [], ◌++◌, ⊤}
use Rattle.std.specs.List.{AllByRecursion}
use Rattle.nop_types.specs.Lists.{Has}
use Rattle.nop_types.specs.Logs.{Trimmed}
use Rattle.nop_types.specs.Meaning.{Meaning}
use Rattle.nop_types.specs.declared.datagram.Datagram.TheVariants as datagrams
use Rattle.nop_types.specs.declared.datagram.Fragment.{Fragment}
use Rattle.nop_types.specs.declared.output.Out.{Out}
use Rattle.nop_types.specs.declared.peer.Peer.{Peer}
use Rattle.oum_codec.specs.Spelling.{spelling}
use Rattle.oum_receiver.specs.Receiving.{IsSound}
use Rattle.lemmas.specs.Functions.{put}
use Rattle.fragments.specs.Joining.{Waiting, taken}
use Rattle.fragments.specs.Runs.{AllCame}
use Rattle.replica_state.specs.declared.state.ReplicaState.{ReplicaState}
use Rattle.replica_rows.specs.Messages as messages
use Rattle.replica_rows.specs.Messages.{Arrival, arrive}
use Rattle.replica_core.specs.Posting.{posted}
use Rattle.replica_core.specs.ReplicaSteps.{Replica, row}
use Rattle.replica_state.specs.Sends.{Effect, SendingFits, still, message_count}
use Rattle.replica_rows.specs.Within.{ArrivalFits}
use Rattle.replica_state.specs.Within.{IsWithin}
use Rattle.network_laws.specs.Carried.{WasSentInRange}
use Rattle.network_laws.specs.Network.{bytes_in, fragments_among, Network}
use Rattle.network_laws.specs.Sends.{peers_in, IsBy}

-- ---- what a replica takes

-- a stamped request was sent, a message was sent
abbrev pub Came : List Peer → List (List ℕ) → Arrival → Type 0
Came peer_messages sent (messages.Packet p) = Has sent (spelling (datagrams.Stamped p))
Came peer_messages sent (messages.PeerMessage p) = Has peer_messages p
Came peer_messages sent (messages.Ticked tick) = ⊤

-- ---- a replica

-- replica r of a network: its counter is the last message number that it used, its reassembly has only parts that were sent, and its
-- state is in its ranges
pub record InNetwork (sent : List (List ℕ)) (used : ℕ → ℕ) (r : ℕ) (s : Replica) : Type 0 where
  pub number : s.state.number ≡ r
  pub messages : s.messages ≡ used r
  pub range : s.messages < 2 ^ 64
  pub came : AllCame (fragments_among sent) s.reassembly
  pub within : IsWithin s.state
  pub receiver : IsSound s.state.receiver

-- ---- a fragment

-- the row of a message that was sent, with the fragment taken
pub record BringsMessage {S : Type 0} (m : Meaning S) (peer_messages : List Peer) (net : List Fragment) (s : Replica) (f : Fragment)
    (result : Replica × List Out) : Type 0 where
  pub peer : Peer
  pub was_sent : WasSentInRange peer_messages f peer
  pub kept : AllCame net (taken s.reassembly f).0
  pub row : result ≡ row m (record s { reassembly = (taken s.reassembly f).0 }) (messages.PeerMessage peer)

-- at most the reassembly changes
pub record BringsNone (net : List Fragment) (s : Replica) (result : Replica × List Out) : Type 0 where
  pub reassembly : List Waiting
  pub kept : AllCame net reassembly
  pub same : result ≡ (record s { reassembly = reassembly }, [])

abbrev pub Brings : {S : Type 0} → Meaning S → List Peer → List Fragment → Replica → Fragment → Replica × List Out → Type 0
Brings m peer_messages net s f result = BringsMessage m peer_messages net s f result ⊎ BringsNone net s result

-- ---- a step

-- the row of what came, in its ranges
pub record TakesRow {S : Type 0} (m : Meaning S) (peer_messages : List Peer) (sent : List (List ℕ)) (s : ReplicaState) (e : Effect) : Type 0 where
  pub arrival : Arrival
  pub came : Came peer_messages sent arrival
  pub fits : ArrivalFits arrival
  pub effect : e ≡ arrive m Trimmed s arrival

-- what a step of replica r does: the row of what came, or none; what it sends is posted, and the network carries that too
pub record Delivers {S : Type 0} (m : Meaning S) (peer_messages : List Peer) (sent : List (List ℕ)) (used : ℕ → ℕ) (r : ℕ) (s : Replica)
    (result : Replica × List Out) : Type 0 where
  pub effect : Effect
  pub row : TakesRow m peer_messages sent s.state effect ⊎ (effect ≡ still s.state)
  pub fits : AllByRecursion SendingFits effect.1
  pub by : AllByRecursion (IsBy r) effect.1
  pub state : result.0.state ≡ effect.0
  pub messages : result.0.messages ≡ s.messages + message_count effect.1
  pub outs : result.1 ≡ posted s.messages effect.1
  pub network : Network (peers_in effect.1 ++ peer_messages) (sent ++ bytes_in result.1) (put used r result.0.messages)
  pub replica : InNetwork (sent ++ bytes_in result.1) (put used r result.0.messages) r result.0
