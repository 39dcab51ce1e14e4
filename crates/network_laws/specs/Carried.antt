-- Peer messages, and the fragments that carry them.
use Rattle.std.specs.Prelude.{◌≡◌, ◌≤◌, ℕ, List}
use Rattle.nop_types.specs.Lists.{Has}
use Rattle.nop_types.specs.Ranges.{PeerFits}
use Rattle.nop_types.specs.declared.datagram.Fragment.{Fragment}
use Rattle.nop_types.specs.declared.peer.Peer.{Peer}
use Rattle.fragments.specs.Cutting.{fragments_of}
use Rattle.fragments.specs.Runs.{Sent, AreDistinct, AreCutFrom}
use Rattle.peer_codec.specs.Spelling.{spelling}

-- the bytes that were sent under a number spell a message that was sent by their sender, in its ranges
pub record IsMessage (peer_messages : List Peer) (x : Sent) : Type 0 where
  pub peer : Peer
  pub has : Has peer_messages peer
  pub fits : PeerFits peer
  pub sender : peer.sender ≡ x.sender
  pub bytes : x.bytes ≡ spelling peer

-- under some number the message was sent
pub record WasSent (sent : List Sent) (p : Peer) : Type 0 where
  pub number : ℕ
  pub has : Has sent (record { sender = p.sender; number = number; bytes = spelling p })

-- all fragments of what was sent under a number are there
abbrev pub IsWhole : List Fragment → Sent → Type 0
IsWhole net x = (f : Fragment) → Has (fragments_of x.sender x.number x.bytes) f → Has net f

-- the fragments of a network carry the messages that were sent, and nothing else; `used` gives the last message number that each
-- replica used
pub record Carried (peer_messages : List Peer) (net : List Fragment) (used : ℕ → ℕ) : Type 0 where
  -- what each sender sent under which number: no number twice, and none above the last
  pub sent : List Sent
  pub distinct : AreDistinct sent
  pub numbered : (x : Sent) → Has sent x → x.number ≤ used x.sender
  pub cut : AreCutFrom sent net
  pub spelled : (x : Sent) → Has sent x → IsMessage peer_messages x
  pub whole : (x : Sent) → Has sent x → IsWhole net x
  pub all : (p : Peer) → Has peer_messages p → WasSent sent p

-- a message that was joined with this fragment was sent by the fragment's replica, in its ranges
pub record WasSentInRange (peer_messages : List Peer) (f : Fragment) (p : Peer) : Type 0 where
  pub has : Has peer_messages p
  pub fits : PeerFits p
  pub sender : p.sender ≡ f.replica
