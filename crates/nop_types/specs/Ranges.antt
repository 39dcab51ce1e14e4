-- The ranges of the fields of messages.
use Rattle.std.specs.Prelude.{◌≡◌, ℕ, ◌+◌, ◌<◌, ◌≤◌, ◌^◌, length, Option, None, is_some, nat_lt, IfSome, ⊤}
use Rattle.std.specs.List.{AllByRecursion}
use Rattle.nop_types.specs.declared.limits.TheConstants.{MAX_OP_BYTES, MAX_KEY_BYTES, MAX_RESULT_BYTES, MAX_SLOTS, MAX_LENGTH, MAX_FRAGMENTS}
use Rattle.nop_types.specs.declared.limits.TheConstants.{FRAGMENT_BYTES, NUMBER_END}
use Rattle.nop_types.specs.Checkpoints.{Checkpoint, CheckpointFits}
use Rattle.nop_types.specs.Logs.{Log, Keeping, Whole, Trimmed, unsynced, length_of}
use Rattle.nop_types.specs.declared.view.View.{View}
use Rattle.nop_types.specs.declared.request.Request.{Request}
use Rattle.nop_types.specs.declared.request.Entry.{Entry}
use Rattle.nop_types.specs.declared.request.Entry.TheVariants.{NoOp, Req}
use Rattle.nop_types.specs.declared.datagram.Stamped.{Stamped}
use Rattle.nop_types.specs.declared.datagram.Reply.{Reply}
use Rattle.nop_types.specs.declared.datagram.Fragment.{Fragment}
use Rattle.nop_types.specs.declared.datagram.Read.{Read}
use Rattle.nop_types.specs.declared.datagram.Answer.{Answer}
use Rattle.nop_types.specs.declared.datagram.Datagram.{Datagram}
use Rattle.nop_types.specs.declared.datagram.Datagram.TheVariants as datagrams
use Rattle.nop_types.specs.declared.peer.Peer.{Peer}
use Rattle.nop_types.specs.declared.peer.Body.{Body}
use Rattle.nop_types.specs.declared.peer.Body.TheVariants as bodies
use Rattle.nop_types.specs.declared.peer.Change.{Change}

-- a number from 1 that fits 32 bits
pub record IsCount (n : ℕ) : Type 0 where
  pub low : 1 ≤ n
  pub high : n < 2 ^ 32

-- sessions count from 1, and are numbers of 64 bits
pub record SessionFits (session : ℕ) : Type 0 where
  pub low : 1 ≤ session
  pub high : session < 2 ^ 64

pub record ViewFits (v : View) : Type 0 where
  pub leader : v.leader < 2 ^ 32
  pub session : SessionFits v.session

pub record RequestFits (r : Request) : Type 0 where
  pub client : r.client < 2 ^ 32
  pub id_low : 1 ≤ r.id
  pub id : r.id < 2 ^ 64
  pub op : length r.op ≤ MAX_OP_BYTES

pub record StampedFits (s : Stamped) : Type 0 where
  pub session : SessionFits s.session
  pub number_low : 1 ≤ s.number
  pub number : s.number < NUMBER_END
  pub request : RequestFits s.request

-- slots count from 1, and are numbers of 32 bits
abbrev pub SlotFits : ℕ → Type 0
SlotFits slot = IsCount slot

-- a reply with tag 0 brings no result
pub record ReplyFits (r : Reply) : Type 0 where
  pub replica : r.replica ≤ 6
  pub view : ViewFits r.view
  pub slot : SlotFits r.slot
  pub client : r.client < 2 ^ 32
  pub id_low : 1 ≤ r.id
  pub id : r.id < 2 ^ 64
  pub tag : r.tag ≤ 1
  pub result_length : length r.result ≤ MAX_RESULT_BYTES
  pub without : r.tag ≡ 0 → length r.result ≡ 0

-- each payload but the last is full, and no payload is empty
pub record FragmentFits (f : Fragment) : Type 0 where
  pub replica : f.replica ≤ 6
  pub message_low : 1 ≤ f.message
  pub message : f.message < 2 ^ 64
  pub index : f.index < f.count
  pub count : f.count ≤ MAX_FRAGMENTS
  pub some : 1 ≤ length f.payload
  pub most : length f.payload ≤ FRAGMENT_BYTES
  pub full : f.index + 1 < f.count → length f.payload ≡ FRAGMENT_BYTES

-- of an Install or its answer: the numbers of the controller and the sequencer, and a session
pub record InstallFits (k j session : ℕ) : Type 0 where
  pub controller : k ≤ 3
  pub sequencer : j ≤ 3
  pub fits : SessionFits session

-- of a Ping or its answer: the same numbers, and a round
pub record PingFits (k j round : ℕ) : Type 0 where
  pub controller : k ≤ 3
  pub sequencer : j ≤ 3
  pub fits : IsCount round

pub record ReadFits (r : Read) : Type 0 where
  pub client : r.client < 2 ^ 32
  pub id_low : 1 ≤ r.id
  pub id : r.id < 2 ^ 64
  pub some : 1 ≤ length r.key
  pub most : length r.key ≤ MAX_KEY_BYTES

pub record AnswerFits (a : Answer) : Type 0 where
  pub observer : a.observer ≤ 3
  pub position : a.position < 2 ^ 32
  pub client : a.client < 2 ^ 32
  pub id_low : 1 ≤ a.id
  pub id : a.id < 2 ^ 64
  pub result_length : length a.result ≤ MAX_RESULT_BYTES

-- each field is in its range
abbrev pub DatagramFits : Datagram → Type 0
DatagramFits (datagrams.Request r) = RequestFits r
DatagramFits (datagrams.Stamped s) = StampedFits s
DatagramFits (datagrams.Reply r) = ReplyFits r
DatagramFits (datagrams.Install controller sequencer session) = InstallFits controller sequencer session
DatagramFits (datagrams.Installed controller sequencer session) = InstallFits controller sequencer session
DatagramFits (datagrams.Ping controller sequencer round) = PingFits controller sequencer round
DatagramFits (datagrams.Pong controller sequencer round) = PingFits controller sequencer round
DatagramFits (datagrams.Fragment f) = FragmentFits f
DatagramFits (datagrams.Read r) = ReadFits r
DatagramFits (datagrams.Answer a) = AnswerFits a

abbrev pub EntryFits : Entry → Type 0
EntryFits NoOp = ⊤
EntryFits (Req r) = RequestFits r

-- a trimmed log has a checkpoint exactly where its sync point is above 0; a whole one has none
abbrev pub CheckpointIsIn : Keeping → ℕ → Option Checkpoint → Type 0
CheckpointIsIn Whole sync_point checkpoint = checkpoint ≡ None
CheckpointIsIn Trimmed sync_point checkpoint = (is_some checkpoint ≡ nat_lt 0 sync_point) × IfSome checkpoint CheckpointFits

-- a log, kept whole or trimmed, in its ranges
pub record LogIsIn (k : Keeping) (log : Log) : Type 0 where
  pub entries : AllByRecursion EntryFits log.entries
  pub room : unsynced k log ≤ MAX_SLOTS
  pub limit : length_of k log ≤ MAX_LENGTH
  pub point : log.sync_point ≤ length_of k log
  pub checkpoint : CheckpointIsIn k log.sync_point log.checkpoint

-- as messages carry it
abbrev pub LogFits : Log → Type 0
LogFits log = LogIsIn Trimmed log

-- the number of the next request of a session
pub record NextFits (next : ℕ) : Type 0 where
  pub low : 1 ≤ next
  pub high : next ≤ NUMBER_END

pub record LogChangeIsIn (k : Keeping) (last_normal : View) (next : ℕ) (log : Log) : Type 0 where
  pub view : ViewFits last_normal
  pub number : NextFits next
  pub log_fits : LogIsIn k log

pub record LogStartIsIn (k : Keeping) (next : ℕ) (log : Log) : Type 0 where
  pub number : NextFits next
  pub log_fits : LogIsIn k log

pub record FoundFits (slot : ℕ) (r : Request) : Type 0 where
  pub place : SlotFits slot
  pub request : RequestFits r

abbrev pub BodyIsIn : Keeping → Body → Type 0
BodyIsIn k (bodies.SlotLookup slot) = SlotFits slot
BodyIsIn k (bodies.Found slot r) = FoundFits slot r
BodyIsIn k (bodies.GapCommit slot) = SlotFits slot
BodyIsIn k (bodies.GapRep slot) = SlotFits slot
BodyIsIn k bodies.ViewChangeReq = ⊤
BodyIsIn k (bodies.ViewChange last_normal next log) = LogChangeIsIn k last_normal next log
BodyIsIn k (bodies.StartView next log) = LogStartIsIn k next log
BodyIsIn k (bodies.SyncPrepare log) = LogIsIn k log
BodyIsIn k (bodies.SyncRep len) = len < 2 ^ 32
BodyIsIn k (bodies.SyncCommit len) = len < 2 ^ 32

-- a message in its ranges; its log, if it has one, is kept whole or trimmed
pub record PeerIsIn (k : Keeping) (p : Peer) : Type 0 where
  pub sender : p.sender ≤ 6
  pub view : ViewFits p.view
  pub body : BodyIsIn k p.body

pub record ChangeIsIn (k : Keeping) (c : Change) : Type 0 where
  pub sender : c.sender ≤ 6
  pub rest : LogChangeIsIn k c.last_normal c.next c.log

-- ---- with trimmed logs, as they travel

abbrev pub BodyFits : Body → Type 0
BodyFits body = BodyIsIn Trimmed body

abbrev pub PeerFits : Peer → Type 0
PeerFits p = PeerIsIn Trimmed p

abbrev pub ChangeFits : Change → Type 0
ChangeFits c = ChangeIsIn Trimmed c
