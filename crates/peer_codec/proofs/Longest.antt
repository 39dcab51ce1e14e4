-- No message has more bytes than this.
use Rattle.std.proofs.Common.{◌≡◌, ℕ, ◌+◌, ◌*◌, ◌≤◌, List, [], ◌∷◌, length, length-append, Option, Some, None, true, ap, arith}
use Rattle.std.specs.Prelude.{IfSome}
use Rattle.std.specs.Int.{w32}
use Rattle.std.specs.List.{flat_map, AllByRecursion, sum_by}
use Rattle.std.proofs.lemmas.Bool.{and_parts}
use Rattle.std.proofs.lemmas.List.Concat.{flat_map-cons}
use Rattle.std.proofs.lemmas.List.Sums.{sum_by-cons}
use Rattle.nop_types.specs.Checkpoints.{Checkpoint, is_kept, is_answer, are_answers, are_saved, IsSavedAccount, CheckpointFits}
use Rattle.nop_types.specs.Logs.{Log}
use Rattle.nop_types.specs.Ranges.{EntryFits, LogFits, BodyFits, PeerFits}
use Rattle.nop_types.specs.Tables.{Account}
use Rattle.nop_types.specs.declared.checkpoint.Answered.{Answered}
use Rattle.nop_types.specs.declared.limits.TheConstants.{MAX_SLOTS}
use Rattle.nop_types.specs.declared.peer.Body.{Body}
use Rattle.nop_types.specs.declared.peer.Body.TheVariants as bodies
use Rattle.nop_types.specs.declared.peer.Peer.{Peer}
use Rattle.nop_types.specs.declared.request.Entry.{Entry}
use Rattle.nop_types.specs.declared.request.Entry.TheVariants.{NoOp, Req}
use Rattle.lemmas.proofs.Kept.{answer_parts, kept_count}
use Rattle.oum_codec.specs.Numbers.{be_bytes}
use Rattle.oum_codec.proofs.Numbers.{wide32}
use Rattle.peer_codec.specs.Spelling.{entry_bytes, entries_bytes, answered_bytes, account_bytes, accounts_bytes, checkpoint_bytes}
use Rattle.peer_codec.specs.Spelling.{optional_bytes, log_bytes, body_bytes, spelling}
use Rattle.peer_codec.proofs.Accounts.{AccountFits, first_fits, within_limits}
use Rattle.peer_codec.proofs.SpelledLengths.{request_len, entries_len, answered_len, entry_len, checkpoint_len, log_len, number_len}
use Rattle.peer_codec.proofs.SpelledLengths.{found_len, start_view_len, view_change_len, spelling_len}

-- ---- entries

entry_most : (e : Entry) → EntryFits e → length (entry_bytes e) ≤ 655
entry_most NoOp fits = omega arith
entry_most (Req r) fits = omega (arith, request_len r, fits.op)

sum_most : (entries : List Entry) → AllByRecursion EntryFits entries → sum_by (λ e. length (entry_bytes e)) entries ≤ 655 * length entries
sum_most [] fits = omega arith
sum_most (e ∷ entries) fits =
    omega (arith, entry_most e fits.0, sum_most entries fits.1, sum_by-cons (λ x. length (entry_bytes x)) e entries)

-- ---- checkpoints

kept_most : (kept : List Answered) → are_answers kept ≡ true → length (flat_map answered_bytes kept) ≤ 267 * length kept
kept_most [] all = omega arith
kept_most (a ∷ kept) all =
    let t = and_parts (is_answer a) (are_answers kept) all in
    let short = (answer_parts a t.0).1 in
    let others = kept_most kept t.1 in
    omega (
      arith,
      short,
      others,
      answered_len a,
      ap length (flat_map-cons answered_bytes a kept),
      length-append (answered_bytes a) (flat_map answered_bytes kept),
    )

account_most : (least : ℕ) (e : ℕ × Account) → AccountFits least e → length (account_bytes e) ≤ 2149
account_most least e fits =
    let parts = and_parts (is_kept e.1) (are_answers e.1.kept) fits.account in
    let count = (kept_count e.1 parts.0).1 in
    omega (arith, entry_len e, kept_most e.1.kept parts.1, count)

accounts_most : (least : ℕ) (es : List (ℕ × Account)) → AllByRecursion IsSavedAccount es → are_saved least es ≡ true
    → length (flat_map account_bytes es) ≤ 2149 * length es
accounts_most least [] each saved = omega arith
accounts_most least (e ∷ es) each saved =
    let fits = first_fits least e es each.0 saved in
    let first = account_most least e fits.0 in
    let others = accounts_most (e.0 + 1) es each.1 fits.1 in
    omega (
      arith,
      first,
      others,
      ap length (flat_map-cons account_bytes e es),
      length-append (account_bytes e) (flat_map account_bytes es),
    )

checkpoint_most : (c : Checkpoint) → CheckpointFits c → length (checkpoint_bytes c) ≤ 1950152
checkpoint_most c fits =
    let within = within_limits c fits in
    let each = accounts_most 0 c.clients fits.clients within.saved in
    let clients : length (accounts_bytes c.clients) ≤ 550148 =
    omega (
      arith,
      length-append (be_bytes w32 (length c.clients)) (flat_map account_bytes c.clients),
      wide32.len (length c.clients),
      each,
      within.few,
    ) in
    omega (arith, checkpoint_len c, clients, within.host)

optional_most : (o : Option Checkpoint) → IfSome o CheckpointFits → length (optional_bytes o) ≤ 1950152
optional_most None fits = omega arith
optional_most (Some c) fits = checkpoint_most c fits

-- ---- messages

log_most : (log : Log) → LogFits log → length (log_bytes log) ≤ 4633040
log_most log fits =
    let few : length log.entries ≤ MAX_SLOTS = omega (arith, fits.room) in
    let sum = sum_most log.entries fits.entries in
    let entries : length (entries_bytes log.entries) ≤ 2682884 = omega (arith, entries_len log.entries, sum, few) in
    omega (arith, log_len log, optional_most log.checkpoint fits.checkpoint.1, entries)

number_most : (n : ℕ) → length (be_bytes w32 n) ≤ 4633060
number_most n = omega (arith, number_len n)

body_most : (body : Body) → BodyFits body → length (body_bytes body) ≤ 4633060
body_most (bodies.SlotLookup slot) fits = number_most slot
body_most (bodies.Found slot r) fits = omega (arith, found_len slot r, request_len r, fits.request.op)
body_most (bodies.GapCommit slot) fits = number_most slot
body_most (bodies.GapRep slot) fits = number_most slot
body_most bodies.ViewChangeReq fits = omega arith
body_most (bodies.ViewChange last_normal next log) fits =
    omega (arith, view_change_len last_normal next log, log_most log fits.log_fits)
body_most (bodies.StartView next log) fits = omega (arith, start_view_len next log, log_most log fits.log_fits)
body_most (bodies.SyncPrepare log) fits = omega (arith, log_most log fits)
body_most (bodies.SyncRep len) fits = number_most len
body_most (bodies.SyncCommit len) fits = number_most len

pub spelling_most : (p : Peer) → PeerFits p → length (spelling p) ≤ 4633074
spelling_most p fits = omega (arith, spelling_len p, body_most p.body fits.body)
