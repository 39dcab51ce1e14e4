-- How many bytes spellings have.
use Rattle.std.proofs.Common.{◌≡◌, ℕ, ◌+◌, List, [], ◌∷◌, ◌++◌, length, length-append, arith, ap}
use Rattle.std.specs.Prelude.{map}
use Rattle.std.specs.Int.{w16, w32, w64}
use Rattle.std.specs.List.{flat_map, sum_by}
use Rattle.std.proofs.lemmas.List.Concat.{length-flat_map}
use Rattle.nop_types.specs.Checkpoints.{Checkpoint, saved_account}
use Rattle.nop_types.specs.Logs.{Log}
use Rattle.nop_types.specs.declared.checkpoint.Answered.{Answered}
use Rattle.nop_types.specs.declared.checkpoint.SavedClient.{SavedClient}
use Rattle.nop_types.specs.Tables.{Account}
use Rattle.nop_types.specs.declared.view.View.{View}
use Rattle.nop_types.specs.declared.request.Request.{Request}
use Rattle.nop_types.specs.declared.request.Entry.{Entry}
use Rattle.nop_types.specs.declared.peer.Peer.{Peer}
use Rattle.nop_types.specs.declared.peer.Body.TheVariants.{Found, ViewChange, StartView}
use Rattle.oum_codec.specs.Numbers.{be_bytes}
use Rattle.oum_codec.specs.Spelling.{view_bytes, counted_bytes, request_bytes}
use Rattle.oum_codec.proofs.Numbers.{wide16, wide32, wide64}
use Rattle.peer_codec.specs.Spelling.{entry_bytes, entries_bytes, answered_bytes, account_bytes, accounts_bytes, checkpoint_bytes}
use Rattle.peer_codec.specs.Spelling.{optional_bytes, log_bytes, body_bytes, head_bytes, kind_of, spelling}
use Rattle.peer_codec.proofs.Accounts.{accounts_saved}

view_len : (v : View) → length (view_bytes v) ≡ 12
view_len v = omega (arith, length-append (be_bytes w32 v.leader) (be_bytes w64 v.session), wide32.len v.leader, wide64.len v.session)

counted_len : (bytes : List ℕ) → length (counted_bytes bytes) ≡ 2 + length bytes
counted_len bytes = omega (arith, length-append (be_bytes w16 (length bytes)) bytes, wide16.len (length bytes))

-- ---- entries

pub request_len : (r : Request) → length (request_bytes r) ≡ 14 + length r.op
request_len r =
    let prefix : length (be_bytes w32 r.client ++ be_bytes w64 r.id) ≡ 12 =
    omega (arith, length-append (be_bytes w32 r.client) (be_bytes w64 r.id), wide32.len r.client, wide64.len r.id) in
    omega (arith, length-append (be_bytes w32 r.client ++ be_bytes w64 r.id) (counted_bytes r.op), counted_len r.op, prefix)

pub entries_len : (entries : List Entry) → length (entries_bytes entries) ≡ 4 + sum_by (λ e. length (entry_bytes e)) entries
entries_len entries =
    omega (
      arith,
      length-append (be_bytes w32 (length entries)) (flat_map entry_bytes entries),
      wide32.len (length entries),
      length-flat_map entry_bytes entries,
    )

-- ---- checkpoints

pub answered_len : (a : Answered) → length (answered_bytes a) ≡ 10 + length a.result
answered_len a = omega (arith, length-append (be_bytes w64 a.id) (counted_bytes a.result), wide64.len a.id, counted_len a.result)

pub kept_len : (kept : List Answered) → length (flat_map answered_bytes kept) ≡ sum_by (λ a. length (answered_bytes a)) kept
kept_len kept = length-flat_map answered_bytes kept

pub entry_len : (e : ℕ × Account) → length (account_bytes e) ≡ 13 + length (flat_map answered_bytes e.1.kept)
entry_len e =
    let head : List ℕ = be_bytes w32 e.0 ++ be_bytes w64 e.1.greatest in
    let prefix : length head ≡ 12 =
    omega (arith, length-append (be_bytes w32 e.0) (be_bytes w64 e.1.greatest), wide32.len e.0, wide64.len e.1.greatest) in
    omega (
      arith,
      length-append (head ++ length e.1.kept ∷ []) (flat_map answered_bytes e.1.kept),
      length-append head (length e.1.kept ∷ []),
      prefix,
    )

pub account_len : (c : SavedClient) → length (account_bytes (saved_account c)) ≡ 13 + length (flat_map answered_bytes c.kept.items)
account_len c = entry_len (saved_account c)

pub accounts_len : (clients : List SavedClient)
    → length (accounts_bytes (map saved_account clients)) ≡ 4 + sum_by (λ c. length (account_bytes (saved_account c))) clients
accounts_len clients =
    let each : SavedClient → List ℕ = λ c. account_bytes (saved_account c) in
    omega (
      arith,
      ap length (accounts_saved clients),
      length-append (be_bytes w32 (length clients)) (flat_map each clients),
      wide32.len (length clients),
      length-flat_map each clients,
    )

pub checkpoint_len : (c : Checkpoint) → length (checkpoint_bytes c) ≡ 4 + length c.host + length (accounts_bytes c.clients)
checkpoint_len c =
    let prefix : length (be_bytes w32 (length c.host) ++ c.host) ≡ 4 + length c.host =
    omega (arith, length-append (be_bytes w32 (length c.host)) c.host, wide32.len (length c.host)) in
    omega (arith, length-append (be_bytes w32 (length c.host) ++ c.host) (accounts_bytes c.clients), prefix)

-- ---- messages

pub log_len : (log : Log) → length (log_bytes log) ≡ 4 + length (optional_bytes log.checkpoint) + length (entries_bytes log.entries)
log_len log =
    let z : List ℕ = be_bytes w32 log.sync_point in
    let optional : List ℕ = optional_bytes log.checkpoint in
    omega (arith, length-append (z ++ optional) (entries_bytes log.entries), length-append z optional, wide32.len log.sync_point)

pub number_len : (n : ℕ) → length (be_bytes w32 n) ≡ 4
number_len n = wide32.len n

pub found_len : (slot : ℕ) (r : Request) → length (body_bytes (Found slot r)) ≡ 4 + length (request_bytes r)
found_len slot r = omega (arith, length-append (be_bytes w32 slot) (request_bytes r), wide32.len slot)

pub start_view_len : (next : ℕ) (log : Log) → length (body_bytes (StartView next log)) ≡ 8 + length (log_bytes log)
start_view_len next log = omega (arith, length-append (be_bytes w64 next) (log_bytes log), wide64.len next)

pub view_change_len : (v : View) (next : ℕ) (log : Log) → length (body_bytes (ViewChange v next log)) ≡ 20 + length (log_bytes log)
view_change_len v next log =
    let prefix : length (view_bytes v ++ be_bytes w64 next) ≡ 20 =
    omega (arith, length-append (view_bytes v) (be_bytes w64 next), view_len v, wide64.len next) in
    omega (arith, length-append (view_bytes v ++ be_bytes w64 next) (log_bytes log), prefix)

pub spelling_len : (p : Peer) → length (spelling p) ≡ 14 + length (body_bytes p.body)
spelling_len p =
    let head : length (head_bytes (kind_of p.body) p.sender p.view) ≡ 14 = omega (arith, view_len p.view) in
    omega (arith, length-append (head_bytes (kind_of p.body) p.sender p.view) (body_bytes p.body), head)

pub ruleset body_lens = (number_len, found_len, start_view_len, view_change_len)
