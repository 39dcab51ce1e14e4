-- What comes to an actor of the whole world was sent there, or spells no datagram, or an answer.
use Rattle.std.specs.Prelude.{◌≡◌, ℕ, List, Some, Ok}
use Rattle.nop_types.specs.Given.{Given, Packet}
use Rattle.nop_types.specs.Lists.{Has}
use Rattle.nop_types.specs.declared.datagram.Answer.{Answer}
use Rattle.nop_types.specs.declared.datagram.Datagram.TheVariants as datagrams
use Rattle.nop_types.specs.declared.peer.Peer.{Peer}
use Rattle.oum_codec.specs.Reading.{reading}
use Rattle.replica_rows.specs.Messages.{Arrival, PeerMessage}
use Rattle.network.specs.Network.{Sent}
use Rattle.network_laws.specs.Network.{IsNoDatagram}
use Rattle.whole_world.specs.Whole.{WholeWorld, Letter, Junk, Equal, Heard, Message, input_of, arrival_of}

-- a datagram with these bytes was sent
pub record IsBytesOf (sent : List Sent) (bytes : List ℕ) : Type 0 where
  pub datagram : Sent
  pub has : Has sent datagram
  pub same : datagram.bytes ≡ bytes

-- these bytes spell an answer
pub record IsAnswer (bytes : List ℕ) : Type 0 where
  pub answer : Answer
  pub reads : reading bytes ≡ Ok (datagrams.Answer answer)

-- a letter of this sender and number has the message
pub record IsLetter (letters : List Letter) (q n : ℕ) (p : Peer) : Type 0 where
  pub letter : Letter
  pub has : Has letters letter
  pub peer : letter.peer ≡ p
  pub sender : p.sender ≡ q
  pub number : letter.number ≡ n

-- ---- laws

abbrev pub DatagramsWereSent : Type 0
DatagramsWereSent = (sent : List Sent) (bytes : List ℕ) (i : Given) → input_of sent (Equal bytes) ≡ Some i
    → (i ≡ Packet bytes) × IsBytesOf sent bytes

abbrev pub JunkIsNoDatagram : Type 0
JunkIsNoDatagram = (sent : List Sent) (bytes : List ℕ) (i : Given) → input_of sent (Junk bytes) ≡ Some i
    → (i ≡ Packet bytes) × IsNoDatagram bytes

abbrev pub HeardIsAnswer : Type 0
HeardIsAnswer = (sent : List Sent) (bytes : List ℕ) (i : Given) → input_of sent (Heard bytes) ≡ Some i
    → (i ≡ Packet bytes) × IsAnswer bytes

abbrev pub MessagesWereSent : Type 0
MessagesWereSent = (w : WholeWorld) (q n : ℕ) (a : Arrival) → arrival_of w (Message q n) ≡ Some a
    → (p : Peer) × (a ≡ PeerMessage p) × IsLetter w.letters q n p
