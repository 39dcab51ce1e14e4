-- The one spelling of each message.
use Rattle.std.specs.Prelude.{◌≡◌, ℕ, List, [], ◌∷◌, ◌++◌, length, Option, Some, None}
use Rattle.std.specs.Int.{w32, w64}
use Rattle.std.specs.List.{flat_map}
use Rattle.nop_types.specs.Checkpoints.{Checkpoint}
use Rattle.nop_types.specs.Logs.{Log}
use Rattle.nop_types.specs.Ranges.{PeerFits}
use Rattle.nop_types.specs.Tables.{Account}
use Rattle.nop_types.specs.declared.checkpoint.Answered.{Answered}
use Rattle.nop_types.specs.declared.view.View.{View}
use Rattle.nop_types.specs.declared.request.Entry.{Entry}
use Rattle.nop_types.specs.declared.request.Entry.TheVariants.{NoOp, Req}
use Rattle.nop_types.specs.declared.peer.Peer.{Peer}
use Rattle.nop_types.specs.declared.peer.Body.{Body}
use Rattle.nop_types.specs.declared.peer.Body.TheVariants as bodies
use Rattle.nop_types.specs.declared.kinds.TheConstants as kinds
use Rattle.oum_codec.specs.Numbers.{be_bytes}
use Rattle.oum_codec.specs.Spelling.{view_bytes, counted_bytes, request_bytes}

-- a tag, and the request if there is one
abbrev pub entry_bytes : Entry → List ℕ
entry_bytes NoOp = 0 ∷ []
entry_bytes (Req r) = 1 ∷ [] ++ request_bytes r

-- four bytes of number, and the entries
abbrev pub entries_bytes : List Entry → List ℕ
entries_bytes entries = be_bytes w32 (length entries) ++ flat_map entry_bytes entries

-- an id, and its result
abbrev pub answered_bytes : Answered → List ℕ
answered_bytes a = be_bytes w64 a.id ++ counted_bytes a.result

-- a client, its greatest id, one byte of number, and the results that are kept
abbrev pub account_bytes : ℕ × Account → List ℕ
account_bytes e = be_bytes w32 e.0 ++ be_bytes w64 e.1.greatest ++ length e.1.kept ∷ [] ++ flat_map answered_bytes e.1.kept

-- four bytes of number, and the clients
abbrev pub accounts_bytes : List (ℕ × Account) → List ℕ
accounts_bytes clients = be_bytes w32 (length clients) ++ flat_map account_bytes clients

-- four bytes of length and the host's saved state, then the clients
abbrev pub checkpoint_bytes : Checkpoint → List ℕ
checkpoint_bytes c = be_bytes w32 (length c.host) ++ c.host ++ accounts_bytes c.clients

-- nothing stands for no checkpoint
abbrev pub optional_bytes : Option Checkpoint → List ℕ
optional_bytes None = []
optional_bytes (Some c) = checkpoint_bytes c

-- the sync point, the checkpoint, and the entries
abbrev pub log_bytes : Log → List ℕ
log_bytes log = be_bytes w32 log.sync_point ++ optional_bytes log.checkpoint ++ entries_bytes log.entries

abbrev pub kind_of : Body → ℕ
kind_of (bodies.SlotLookup slot) = kinds.SLOT_LOOKUP
kind_of (bodies.Found slot r) = kinds.FOUND
kind_of (bodies.GapCommit slot) = kinds.GAP_COMMIT
kind_of (bodies.GapRep slot) = kinds.GAP_REP
kind_of bodies.ViewChangeReq = kinds.VIEW_CHANGE_REQ
kind_of (bodies.ViewChange last_normal next log) = kinds.VIEW_CHANGE
kind_of (bodies.StartView next log) = kinds.START_VIEW
kind_of (bodies.SyncPrepare log) = kinds.SYNC_PREPARE
kind_of (bodies.SyncRep len) = kinds.SYNC_REP
kind_of (bodies.SyncCommit len) = kinds.SYNC_COMMIT

-- the fields that are there in every kind
abbrev pub head_bytes : ℕ → ℕ → View → List ℕ
head_bytes kind sender view = kind ∷ sender ∷ [] ++ view_bytes view

-- the fields of the kind
abbrev pub body_bytes : Body → List ℕ
body_bytes (bodies.SlotLookup slot) = be_bytes w32 slot
body_bytes (bodies.Found slot r) = be_bytes w32 slot ++ request_bytes r
body_bytes (bodies.GapCommit slot) = be_bytes w32 slot
body_bytes (bodies.GapRep slot) = be_bytes w32 slot
body_bytes bodies.ViewChangeReq = []
body_bytes (bodies.ViewChange last_normal next log) = view_bytes last_normal ++ be_bytes w64 next ++ log_bytes log
body_bytes (bodies.StartView next log) = be_bytes w64 next ++ log_bytes log
body_bytes (bodies.SyncPrepare log) = log_bytes log
body_bytes (bodies.SyncRep len) = be_bytes w32 len
body_bytes (bodies.SyncCommit len) = be_bytes w32 len

abbrev pub spelling : Peer → List ℕ
spelling p = head_bytes (kind_of p.body) p.sender p.view ++ body_bytes p.body

-- the bytes are the value's spelling, with each field in its range
pub record Spells (p : Peer) (bytes : List ℕ) : Type 0 where
  pub fits : PeerFits p
  pub spelled : bytes ≡ spelling p
