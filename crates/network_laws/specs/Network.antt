-- What holds of all datagrams that were ever sent.
use Rattle.std.specs.Prelude.{◌≡◌, ◌⊎◌, ℕ, List, [], ◌∷◌, ◌++◌, Ok, Err, ⊤}
use Rattle.std.specs.List.{AllByRecursion}
use Rattle.nop_types.specs.Given.{Given, Packet}
use Rattle.nop_types.specs.Lists.{Has}
use Rattle.nop_types.specs.declared.datagram.Datagram.{Datagram}
use Rattle.nop_types.specs.declared.datagram.Datagram.TheVariants as datagrams
use Rattle.nop_types.specs.declared.datagram.Fragment.{Fragment}
use Rattle.nop_types.specs.declared.datagram.Reply.{Reply}
use Rattle.nop_types.specs.declared.output.Out.{Out}
use Rattle.nop_types.specs.declared.output.Out.TheVariants as outs
use Rattle.nop_types.specs.declared.peer.Peer.{Peer}
use Rattle.oum_codec.specs.declared.bad.Bad.{Bad}
use Rattle.oum_codec.specs.Spelling.{Spells, spelling}
use Rattle.oum_codec.specs.Reading.{reading}
use Rattle.replica_state.specs.declared.sending.Sending.{Sending}
use Rattle.replica_state.specs.declared.sending.Sending.TheVariants.{ToClient}
use Rattle.replica_core.specs.Posting.{posted}
use Rattle.network_laws.specs.Carried.{Carried}
use Rattle.network_laws.specs.PostedFragments.{fragment_read}

-- the bytes of each datagram among the outputs of a step
abbrev pub bytes_in : List Out → List (List ℕ)
bytes_in [] = []
bytes_in (outs.Send dest bytes ∷ rest) = bytes ∷ bytes_in rest
bytes_in (_ ∷ rest) = bytes_in rest

-- the fragments among datagrams
abbrev pub fragments_among : List (List ℕ) → List Fragment
fragments_among [] = []
fragments_among (bytes ∷ rest) = fragment_read (reading bytes) ++ fragments_among rest

-- the bytes of a datagram with each field in its range
pub record IsDatagram (bytes : List ℕ) : Type 0 where
  pub datagram : Datagram
  pub spells : Spells datagram bytes

-- likewise, of a fragment
pub record IsFragment (bytes : List ℕ) : Type 0 where
  pub fragment : Fragment
  pub spells : Spells (datagrams.Fragment fragment) bytes

-- of a reply among what a replica sends
pub record IsReplyIn (sends : List Sending) (bytes : List ℕ) : Type 0 where
  pub reply : Reply
  pub has : Has sends (ToClient reply)
  pub spells : Spells (datagrams.Reply reply) bytes

-- of a datagram that is no fragment
pub record IsOtherDatagram (bytes : List ℕ) : Type 0 where
  pub datagram : Datagram
  pub spells : Spells datagram bytes
  pub other : fragment_read (Ok datagram) ≡ []

-- what is sent are such datagrams
abbrev pub SendsNoFragment : List Out → Type 0
SendsNoFragment os = AllByRecursion IsOtherDatagram (bytes_in os)

-- what is posted are those replies, and fragments
pub record PostsReplies (number : ℕ) (sends : List Sending) : Type 0 where
  pub each : (reply : Reply) → Has sends (ToClient reply) → Has (bytes_in (posted number sends)) (spelling (datagrams.Reply reply))
  pub only : (bytes : List ℕ) → Has (bytes_in (posted number sends)) bytes → IsReplyIn sends bytes ⊎ IsFragment bytes

-- all that was sent are datagrams in their ranges, and the fragments among them carry the messages that were sent
pub record Network (peer_messages : List Peer) (sent : List (List ℕ)) (used : ℕ → ℕ) : Type 0 where
  pub datagrams : (bytes : List ℕ) → Has sent bytes → IsDatagram bytes
  pub carried : Carried peer_messages (fragments_among sent) used

-- ---- what an actor is given

-- these bytes spell no datagram
pub record IsNoDatagram (bytes : List ℕ) : Type 0 where
  pub error : Bad
  pub refused : reading bytes ≡ Err error

-- a packet was sent, or is no datagram; all else may come at any time
abbrev pub MayCome : List (List ℕ) → Given → Type 0
MayCome sent (Packet bytes) = Has sent bytes ⊎ IsNoDatagram bytes
MayCome sent _ = ⊤
