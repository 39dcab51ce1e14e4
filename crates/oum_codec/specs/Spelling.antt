-- The one spelling of each datagram.
use Rattle.std.specs.Prelude.{◌≡◌, ◌≢◌, ℕ, List, [], ◌∷◌, ◌++◌, length}
use Rattle.std.specs.Int.{w16, w32, w64}
use Rattle.nop_types.specs.Ranges.{DatagramFits}
use Rattle.nop_types.specs.declared.view.View.{View}
use Rattle.nop_types.specs.declared.request.Request.{Request}
use Rattle.nop_types.specs.declared.datagram.Stamped.{Stamped}
use Rattle.nop_types.specs.declared.datagram.Reply.{Reply}
use Rattle.nop_types.specs.declared.datagram.Fragment.{Fragment}
use Rattle.nop_types.specs.declared.datagram.Read.{Read}
use Rattle.nop_types.specs.declared.datagram.Answer.{Answer}
use Rattle.nop_types.specs.declared.datagram.Datagram.{Datagram}
use Rattle.nop_types.specs.declared.datagram.Datagram.TheVariants as datagrams
use Rattle.nop_types.specs.declared.kinds.TheConstants as kinds
use Rattle.oum_codec.specs.Numbers.{be_bytes}

-- the letters N and O, the version and the kind
abbrev pub header : ℕ → List ℕ
header kind = kinds.FIRST_MAGIC ∷ kinds.SECOND_MAGIC ∷ kinds.VERSION ∷ kind ∷ []

abbrev pub view_bytes : View → List ℕ
view_bytes v = be_bytes w32 v.leader ++ be_bytes w64 v.session

-- two bytes of length, and that many bytes
abbrev pub counted_bytes : List ℕ → List ℕ
counted_bytes bytes = be_bytes w16 (length bytes) ++ bytes

abbrev pub request_bytes : Request → List ℕ
request_bytes r = be_bytes w32 r.client ++ be_bytes w64 r.id ++ counted_bytes r.op

abbrev pub stamped_bytes : Stamped → List ℕ
stamped_bytes s = be_bytes w64 s.session ++ be_bytes w64 s.number ++ request_bytes s.request

abbrev pub reply_bytes : Reply → List ℕ
reply_bytes r = r.replica ∷ [] ++ view_bytes r.view ++ be_bytes w32 r.slot ++ be_bytes w32 r.client ++ be_bytes w64 r.id ++ r.tag ∷ []
    ++ counted_bytes r.result

-- the numbers of a controller and a sequencer, and a session
abbrev pub install_bytes : (controller sequencer session : ℕ) → List ℕ
install_bytes controller sequencer session = controller ∷ [] ++ sequencer ∷ [] ++ be_bytes w64 session

-- the same numbers, and a round
abbrev pub ping_bytes : (controller sequencer round : ℕ) → List ℕ
ping_bytes controller sequencer round = controller ∷ [] ++ sequencer ∷ [] ++ be_bytes w32 round

abbrev pub fragment_bytes : Fragment → List ℕ
fragment_bytes f = f.replica ∷ [] ++ be_bytes w64 f.message ++ be_bytes w16 f.index ++ be_bytes w16 f.count ++ f.payload

abbrev pub read_bytes : Read → List ℕ
read_bytes r = be_bytes w32 r.client ++ be_bytes w64 r.id ++ counted_bytes r.key

abbrev pub answer_bytes : Answer → List ℕ
answer_bytes a =
    a.observer ∷ [] ++ be_bytes w32 a.position ++ be_bytes w32 a.client ++ be_bytes w64 a.id ++ counted_bytes a.result

abbrev pub spelling : Datagram → List ℕ
spelling (datagrams.Request r) = header kinds.REQUEST ++ request_bytes r
spelling (datagrams.Stamped s) = header kinds.STAMPED ++ stamped_bytes s
spelling (datagrams.Reply r) = header kinds.REPLY ++ reply_bytes r
spelling (datagrams.Install controller sequencer session) = header kinds.INSTALL ++ install_bytes controller sequencer session
spelling (datagrams.Installed controller sequencer session) = header kinds.INSTALLED ++ install_bytes controller sequencer session
spelling (datagrams.Ping controller sequencer round) = header kinds.PING ++ ping_bytes controller sequencer round
spelling (datagrams.Pong controller sequencer round) = header kinds.PONG ++ ping_bytes controller sequencer round
spelling (datagrams.Fragment f) = header kinds.FRAGMENT ++ fragment_bytes f
spelling (datagrams.Read r) = header kinds.READ ++ read_bytes r
spelling (datagrams.Answer a) = header kinds.ANSWER ++ answer_bytes a

-- a fragment of a message that has several
abbrev pub IsPartOfSeveral : Datagram → Type 0
IsPartOfSeveral (datagrams.Fragment f) = f.count ≢ 1
IsPartOfSeveral _ = ⊥

-- the bytes are the value's spelling, with each field in its range
pub record Spells (d : Datagram) (bytes : List ℕ) : Type 0 where
  pub fits : DatagramFits d
  pub spelled : bytes ≡ spelling d
