-- Reading a message from left to right, with the first test that fails.
use Rattle.std.specs.Prelude.{ℕ, List, [], ◌∷◌, length, Result, Ok, Err, nat_le, ◌==◌, ◌&&◌, if◌then◌else◌}
use Rattle.nop_types.specs.declared.peer.Peer.{Peer}
use Rattle.nop_types.specs.declared.peer.Body.{Body}
use Rattle.nop_types.specs.declared.peer.Body.TheVariants as bodies
use Rattle.nop_types.specs.declared.kinds.TheConstants as kinds
use Rattle.oum_codec.specs.Reading.{◌>>=◌}
use Rattle.peer_codec.specs.declared.bad_peer.BadPeer.{BadPeer}
use Rattle.peer_codec.specs.declared.bad_peer.BadPeer.TheVariants.{Short, Kind, Trailing}
use Rattle.peer_codec.specs.Fields.{sender_at, view_at, slot_at, next_at, length_at, request_at}
use Rattle.peer_codec.specs.Logs.{log_at}

unfoldable pub found_at : List ℕ → Result (Body × List ℕ) BadPeer
found_at bytes = do
  slot ← slot_at bytes
  request ← request_at slot.1
  Ok (bodies.Found slot.0 request.0, request.1)

unfoldable pub view_change_at : List ℕ → Result (Body × List ℕ) BadPeer
view_change_at bytes = do
  last_normal ← view_at bytes
  next ← next_at last_normal.1
  log ← log_at next.1
  Ok (bodies.ViewChange last_normal.0 next.0 log.0, log.1)

unfoldable pub start_view_at : List ℕ → Result (Body × List ℕ) BadPeer
start_view_at bytes = do
  next ← next_at bytes
  log ← log_at next.1
  Ok (bodies.StartView next.0 log.0, log.1)

unfoldable pub sync_prepare_at : List ℕ → Result (Body × List ℕ) BadPeer
sync_prepare_at bytes = log_at bytes >>= λ log. Ok (bodies.SyncPrepare log.0, log.1)

-- what follows the view, by the kind
abbrev pub body_at : ℕ → List ℕ → Result (Body × List ℕ) BadPeer
body_at kind bytes =
    if kind == kinds.SLOT_LOOKUP then (slot_at bytes >>= λ slot. Ok (bodies.SlotLookup slot.0, slot.1))
    else if kind == kinds.FOUND then found_at bytes
    else if kind == kinds.GAP_COMMIT then (slot_at bytes >>= λ slot. Ok (bodies.GapCommit slot.0, slot.1))
    else if kind == kinds.GAP_REP then (slot_at bytes >>= λ slot. Ok (bodies.GapRep slot.0, slot.1))
    else if kind == kinds.VIEW_CHANGE_REQ then Ok (bodies.ViewChangeReq, bytes)
    else if kind == kinds.VIEW_CHANGE then view_change_at bytes
    else if kind == kinds.START_VIEW then start_view_at bytes
    else if kind == kinds.SYNC_PREPARE then sync_prepare_at bytes
    else if kind == kinds.SYNC_REP then (length_at bytes >>= λ len. Ok (bodies.SyncRep len.0, len.1))
    else if kind == kinds.SYNC_COMMIT then (length_at bytes >>= λ len. Ok (bodies.SyncCommit len.0, len.1))
    else Err Kind

-- what follows the kind: sender, view, the fields of the kind, and nothing more
unfoldable pub message_of : ℕ → List ℕ → Result Peer BadPeer
message_of kind bytes = do
  sender ← sender_at bytes
  view ← view_at sender.1
  body ← body_at kind view.1
  if length body.1 == 0 then Ok (record { sender = sender.0; view = view.0; body = body.0 }) else Err Trailing

-- the value that the bytes spell, or the first test that they fail
unfoldable pub reading : List ℕ → Result Peer BadPeer
reading [] = Err Short
reading (kind ∷ rest) = if nat_le kinds.SLOT_LOOKUP kind && nat_le kind kinds.SYNC_COMMIT then message_of kind rest else Err Kind
