-- What is the same of the real world and the whole one at each time, and how the network carries the letters.
use Rattle.std.specs.Prelude.{◌≡◌, ◌≤◌, ◌<◌, ◌^◌, ℕ, List, map, Bool, true, false, Some, Ok, slice_get}
use Rattle.nop_types.specs.Lines.{Line}
use Rattle.nop_types.specs.Lists.{Has}
use Rattle.nop_types.specs.Meaning.{Meaning}
use Rattle.nop_types.specs.Ranges.{PeerFits}
use Rattle.nop_types.specs.declared.datagram.Fragment.{Fragment}
use Rattle.nop_types.specs.declared.peer.Peer.{Peer}
use Rattle.fragments.specs.Runs.{AllCame}
use Rattle.observer.specs.Observing as observing
use Rattle.peer_codec.specs.Reading as peers
use Rattle.observer.specs.ObserverSteps.{Observer}
use Rattle.replica_core.specs.ReplicaSteps.{Replica}
use Rattle.network.specs.Network.{Sent}
use Rattle.world.specs.Others.{Who, Another}
use Rattle.world.specs.Seats.{Seated}
use Rattle.world.specs.WorldSteps.{WorldState}
use Rattle.network_laws.specs.Network.{fragments_among}
use Rattle.network_laws.specs.Steps.{InNetwork}
use Rattle.whole_world.specs.Archives.{IsArchive}
use Rattle.whole_world.specs.Shows.{peers_of}
use Rattle.whole_world.specs.Whole.{WholeWorld, Letter, letter_of}
use Rattle.safety.specs.Following.{spoken, other_datagrams, plain, trimmed_seat, trimmed_letter, bytes_of, CarriesLetters}

-- a sequencer, a client or a controller
abbrev pub is_another : Who → Bool
is_another (Another k i) = true
is_another _ = false

-- ---- observers

-- its number is one of an observer, what it keeps of messages came in fragments that were sent, and its position is a number of 32 bits
pub record Listens (sent : List (List ℕ)) (s : Observer) : Type 0 where
  pub number : s.number ≤ 3
  pub came : AllCame (fragments_among sent) s.heard.reassembly
  pub position : observing.position s.heard.state < 2 ^ 32

abbrev pub AllListen : List (List ℕ) → List (Seated Observer) → Type 0
AllListen sent observers = (i : ℕ) (p : Seated Observer) → slice_get observers i ≡ Some p → Listens sent p.state

-- ---- letters

-- the network carries these letters, which are in their ranges, and each replica is one of the network
pub record Travels (sent : List Sent) (replicas : List (Seated Replica)) (letters : List Letter) : Type 0 where
  pub used : ℕ → ℕ
  pub posts : CarriesLetters (bytes_of sent) used letters
  pub fits : (p : Peer) → Has (peers_of letters) p → PeerFits p
  pub members : (i : ℕ) (q : Seated Replica) → slice_get replicas i ≡ Some q → InNetwork (bytes_of sent) used i q.state

-- what is joined of fragments of a replica and a number is the letter of that sender and number
pub record JoinsLetter (letters : List Letter) (f : Fragment) (bytes : List ℕ) : Type 0 where
  pub peer : Peer
  pub read : peers.reading bytes ≡ Ok peer
  pub sender : peer.sender ≡ f.replica
  pub letter : letter_of letters f.replica f.message ≡ Some peer

module _ {S : Type 0} (m : Meaning S) where
  -- the letters as they travel
  abbrev pub real_letters : WholeWorld → List Letter
  real_letters w = map (trimmed_letter m) w.letters

  -- ---- actors, datagrams and lines

  pub record Alike (t : WorldState) (ls : List Line) (w : WholeWorld) : Type 0 where
    pub lines : spoken ls ≡ w.lines
    pub sent : other_datagrams t.sent ≡ w.sent
    pub config : t.config ≡ w.config
    pub replicas : map plain t.replicas ≡ map (trimmed_seat m) w.replicas
    pub others : t.others ≡ w.others

  -- ---- all of it

  pub record Beside (t : WorldState) (ls : List Line) (w : WholeWorld) : Type 0 where
    pub alike : Alike t ls w
    pub travels : Travels t.sent t.replicas (real_letters w)
    pub archive : IsArchive t.archive w
    pub observers : AllListen (bytes_of t.sent) t.observers
