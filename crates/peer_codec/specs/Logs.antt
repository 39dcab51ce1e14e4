-- Entries, checkpoints and logs at the front of the bytes.
use Rattle.std.specs.Prelude.{ℕ, zero, suc, ◌+◌, ◌==◌, List, [], ◌∷◌, max, Option, Some, None, Result, Ok, Err, nat_lt, if◌then◌else◌}
use Rattle.nop_types.specs.declared.request.Entry.{Entry}
use Rattle.nop_types.specs.declared.request.Entry.TheVariants.{NoOp, Req}
use Rattle.nop_types.specs.declared.checkpoint.Answered.{Answered}
use Rattle.nop_types.specs.Checkpoints.{Checkpoint, least_kept}
use Rattle.nop_types.specs.Logs.{Log}
use Rattle.nop_types.specs.Tables.{Account}
use Rattle.oum_codec.specs.Reading.{◌>>=◌}
use Rattle.peer_codec.specs.declared.bad_peer.BadPeer.{BadPeer}
use Rattle.peer_codec.specs.declared.bad_peer.BadPeer.TheVariants.{Short, Field}
use Rattle.peer_codec.specs.Fields.{length_at, count_at, id_at, request_at, host_at, served_at, client_at, kept_count_at, kept_id_at, result_at}

-- the tag is 0 for a NO-OP, and 1 for a request
unfoldable pub entry_at : List ℕ → Result (Entry × List ℕ) BadPeer
entry_at [] = Err Short
entry_at (zero ∷ rest) = Ok (NoOp, rest)
entry_at (suc zero ∷ rest) = request_at rest >>= λ r. Ok (Req r.0, r.1)
entry_at (suc (suc tag) ∷ rest) = Err Field

-- a given number of entries, one after the other
unfoldable pub entries_at : ℕ → List ℕ → Result (List Entry × List ℕ) BadPeer
entries_at zero bytes = Ok ([], bytes)
entries_at (suc n) bytes = do
  first ← entry_at bytes
  others ← entries_at n first.1
  Ok (first.0 ∷ others.0, others.1)

-- a kept result: its id, from this one on up to the greatest, and its bytes
unfoldable pub answered_at : ℕ → ℕ → List ℕ → Result (Answered × List ℕ) BadPeer
answered_at least greatest bytes = do
  id ← kept_id_at least greatest bytes
  result ← result_at id.1
  Ok (record { id = id.0; result = result.0 }, result.1)

-- the last one, after which none are left, has the greatest id
abbrev pub least_before : ℕ → ℕ → ℕ → ℕ
least_before left least greatest = if left == 0 then max least greatest else least

-- a given number of kept results, ids ascending from a number on, up to the greatest
unfoldable pub kept_at : ℕ → ℕ → ℕ → List ℕ → Result (List Answered × List ℕ) BadPeer
kept_at zero least greatest bytes = Ok ([], bytes)
kept_at (suc n) least greatest bytes = do
  first ← answered_at (least_before n least greatest) greatest bytes
  others ← kept_at n (first.0.id + 1) greatest first.1
  Ok (first.0 ∷ others.0, others.1)

-- the least id that is kept: ids count from 1, and are less than a window behind the greatest
abbrev pub least_id : ℕ → ℕ
least_id greatest = max 1 (least_kept greatest)

-- a client, from this number on, its greatest id, the number of its results, and these
unfoldable pub account_at : ℕ → List ℕ → Result ((ℕ × Account) × List ℕ) BadPeer
account_at least bytes = do
  client ← client_at least bytes
  greatest ← id_at client.1
  count ← kept_count_at greatest.1
  kept ← kept_at count.0 (least_id greatest.0) greatest.0 count.1
  Ok ((client.0, record { greatest = greatest.0; kept = kept.0 }), kept.1)

-- a given number of clients, from a number on, ascending
unfoldable pub accounts_at : ℕ → ℕ → List ℕ → Result (List (ℕ × Account) × List ℕ) BadPeer
accounts_at zero least bytes = Ok ([], bytes)
accounts_at (suc n) least bytes = do
  first ← account_at least bytes
  others ← accounts_at n (first.0.0 + 1) first.1
  Ok (first.0 ∷ others.0, others.1)

-- the host's saved state, the number of clients, and the clients
unfoldable pub checkpoint_at : List ℕ → Result (Checkpoint × List ℕ) BadPeer
checkpoint_at bytes = do
  host ← host_at bytes
  count ← served_at host.1
  clients ← accounts_at count.0 0 count.1
  Ok (record { host = host.0; clients = clients.0 }, clients.1)

-- a checkpoint, where the sync point is above 0
unfoldable pub optional_at : ℕ → List ℕ → Result (Option Checkpoint × List ℕ) BadPeer
optional_at sync_point bytes = if nat_lt 0 sync_point then (checkpoint_at bytes >>= λ c. Ok (Some c.0, c.1)) else Ok (None, bytes)

-- a log's sync point, its checkpoint, the number of its entries, then the entries: what follows them stands at the end
unfoldable pub log_at : List ℕ → Result (Log × List ℕ) BadPeer
log_at bytes = do
  sync_point ← length_at bytes
  checkpoint ← optional_at sync_point.0 sync_point.1
  count ← count_at sync_point.0 checkpoint.1
  entries ← entries_at count.0 count.1
  Ok (record { sync_point = sync_point.0; checkpoint = checkpoint.0; entries = entries.0 }, entries.1)
