-- The line of a row has as few bytes as a line may have, and no line end is in it.
use Rattle.std.proofs.Common.{◌≡◌, ◌∙◌, ℕ, ◌+◌, ◌<◌, ◌≤◌, Bool, true, false, List, [], ◌∷◌, ◌++◌, length, refl, arith, length-append, codes, decimal}
use Rattle.std.proofs.Common.{nat_lt, nat_le, ◌^◌}
use Rattle.std.specs.Prelude.{◌==◌, if◌then◌else◌}
use Rattle.std.specs.List.{flat_map, list_all}
use Rattle.std.proofs.lemmas.Bool.{le-leb, leb-true, and_parts, and_from}
use Rattle.std.proofs.lemmas.List.Folds.{list_all-append}
use Rattle.line_fields.proofs.FieldTexts.{is_mark, AllMarked, actor_short, decimal_short, hex_within, small_counts}
use Rattle.nop_types.specs.Headers.{is_header}
use Rattle.nop_types.specs.declared.header.Header.{Header}
use Rattle.nop_types.specs.declared.limits.TheConstants.{MAX_LINE_BYTES, MAX_CLIENTS, MAX_KEY_BYTES, MAX_OP_BYTES, MAX_RESULT_BYTES}
use Rattle.nop_types.specs.declared.output.Actor.{Actor}
use Rattle.nop_types.specs.declared.output.Actor.TheVariants as actors
use Rattle.nop_types.specs.declared.output.Dest.{Dest}
use Rattle.nop_types.specs.declared.output.Dest.TheVariants.{Replicas, Sequencers, One}
use Rattle.nop_types.specs.declared.replica_state.Phase.{Phase}
use Rattle.nop_types.specs.declared.replica_state.Phase.TheVariants.{Normal, Change}
use Rattle.nop_types.specs.declared.request.Entry.{Entry}
use Rattle.nop_types.specs.declared.request.Entry.TheVariants.{NoOp, Req}
use Rattle.nop_types.specs.declared.request.Request.{Request}
use Rattle.transcript_rows.proofs.RowTexts.{small, actor_there, kind_read, read_parts, answer_parts, sent_parts, state_named, slot_parts, word_marked, fields_marked}
use Rattle.transcript_rows.proofs.RowTexts.{header_fields, header_marked, last_fields, small_form, counted, spelled, spelled_header}
use Rattle.transcript_rows.specs.Reading.{limits}
use Rattle.transcript_rows.specs.Rows.{row_word, row_fields, actor_fits, dest_fits, pair_fits, request_fits, entry_fits, row_fits}
use Rattle.transcript_rows.specs.Rows.{request_fields, entry_fields, IsTypedRequest, IsTypedEntry, IsTyped, RowFits}
use Rattle.transcript_rows.specs.declared.row.Row.{Row}
use Rattle.transcript_rows.specs.declared.row.Row.TheVariants.{Dead, Submit, Accept, Busy, Read, Answer, Sent, State, Slot, Watching}
use Rattle.transcript_rows.specs.declared.row.Row.TheVariants.{Member, End}
use Rattle.transcript_text.specs.LineText.{after_space}
use Rattle.transcript_text.specs.Transcript.{actor_text, dest_text, hex_text, kind_text, phase_text, up_text}

-- ---- no line end

-- a byte above the line end
abbrev pub is_inside : ℕ → Bool
is_inside b = nat_le 11 b

mark_inside : (b : ℕ) → is_mark b ≡ true → is_inside b ≡ true
mark_inside b e = let low = leb-true 33 b (and_parts (nat_le 33 b) (nat_le b 126) e).0 in le-leb 11 b (omega arith)

marks_inside : (xs : List ℕ) → list_all is_mark xs ≡ true → list_all is_inside xs ≡ true
marks_inside [] e = refl
marks_inside (b ∷ bs) e =
    let p = and_parts (is_mark b) (list_all is_mark bs) e in
    and_from (is_inside b) (list_all is_inside bs) (mark_inside b p.0) (marks_inside bs p.1)

both_inside : (xs ys : List ℕ) → list_all is_inside xs ≡ true → list_all is_inside ys ≡ true → list_all is_inside (xs ++ ys) ≡ true
both_inside xs ys e f = list_all-append is_inside xs ys ∙ and_from (list_all is_inside xs) (list_all is_inside ys) e f

spaced_inside : (xs : List (List ℕ)) → AllMarked xs → list_all is_inside (flat_map after_space xs) ≡ true
spaced_inside [] h = refl
spaced_inside (x ∷ xs) h = both_inside (after_space x) (flat_map after_space xs) (marks_inside x h.0) (spaced_inside xs h.1)

-- ---- how many bytes

-- the fields, each behind a space, have so many bytes at most
record Width (xs : List (List ℕ)) (most : ℕ) : Type 0 where
  within : length (flat_map after_space xs) ≤ most

no_field : Width [] 0
no_field = record { within = omega arith }

one_more : (x : List ℕ) (xs : List (List ℕ)) (a b most : ℕ) → length x ≤ a → Width xs b → a + b + 1 ≤ most → Width (x ∷ xs) most
one_more x xs a b most short w room =
    let rest = w.within in record { within = omega (arith, length-append (after_space x) (flat_map after_space xs)) }

name_short : (a : Actor) → actor_fits a ≡ true → length (actor_text a) ≤ 21
name_short a e = actor_short limits small a (actor_there a e)

dest_short : (d : Dest) → dest_fits d ≡ true → length (dest_text d) ≤ 21
dest_short Replicas e = omega arith
dest_short Sequencers e = omega arith
dest_short (One a) e = name_short a e

up_short : (b : Bool) → length (up_text b) ≤ 20
up_short true = omega arith
up_short false = omega arith

phase_short : (p : Phase) → length (phase_text p) ≤ 20
phase_short Normal = omega arith
phase_short Change = omega arith

-- a client, an id and bytes
pair_width : (client id : ℕ) (bytes : List ℕ) → actor_fits (actors.Client client) ≡ true → id < 2 ^ 64
    → length (hex_text bytes) ≤ 1280 → Width (actor_text (actors.Client client) ∷ decimal id ∷ hex_text bytes ∷ []) 1324
pair_width client id bytes named typed short =
    one_more (actor_text (actors.Client client)) (decimal id ∷ hex_text bytes ∷ []) 21 1302 1324 (name_short (actors.Client client) named)
    (one_more (decimal id) (hex_text bytes ∷ []) 20 1281 1302 (decimal_short id typed)
    (one_more (hex_text bytes) [] 1280 0 1281 short no_field (omega arith)) (omega arith)) (omega arith)

request_width : (r : Request) → request_fits r ≡ true → IsTypedRequest r → Width (request_fields r) 1324
request_width r e typed =
    let p = and_parts (nat_lt r.client MAX_CLIENTS) (nat_le 1 r.id) e in
    pair_width r.client r.id r.op p.0 typed.id (hex_within r.op MAX_OP_BYTES (omega arith) typed.short)

entry_width : (entry : Entry) → entry_fits entry ≡ true → IsTypedEntry entry → Width (entry_fields entry) 1324
entry_width NoOp e typed = one_more (codes "noop") [] 4 0 1324 (omega arith) no_field (omega arith)
entry_width (Req r) e typed = request_width r e typed

fields_width : (row : Row) → row_fits row ≡ true → IsTyped row → Width (row_fields row) 1400
fields_width (Dead actor) e typed = one_more (actor_text actor) [] 21 0 1400 (name_short actor e) no_field (omega arith)
fields_width (Submit request) e typed = let w = (request_width request e typed).within in record { within = omega arith }
fields_width (Accept client id result) e typed =
    let p = and_parts (pair_fits client id) (nat_le (length result) MAX_RESULT_BYTES) e in
    let q = and_parts (nat_lt client MAX_CLIENTS) (nat_le 1 id) p.0 in
    let short = hex_within result MAX_RESULT_BYTES (omega arith) (leb-true (length result) MAX_RESULT_BYTES p.1) in
    let w = (pair_width client id result q.0 typed.0 (omega arith)).within in record { within = omega arith }
fields_width (Busy client) e typed =
    one_more (actor_text (actors.Client client)) [] 21 0 1400 (name_short (actors.Client client) e) no_field (omega arith)
fields_width (Read client id observer key) e typed =
    let p = read_parts client id observer e in
    let short = hex_within key MAX_KEY_BYTES (omega arith) typed.most in
    one_more (actor_text (actors.Client client)) (decimal id ∷ actor_text (actors.Observer observer) ∷ hex_text key ∷ []) 21 172 1400
    (name_short (actors.Client client) p.named)
    (one_more (decimal id) (actor_text (actors.Observer observer) ∷ hex_text key ∷ []) 20 151 172 (decimal_short id typed.id_fits)
    (one_more (actor_text (actors.Observer observer)) (hex_text key ∷ []) 21 129 151 (name_short (actors.Observer observer) p.there)
    (one_more (hex_text key) [] 128 0 129 short no_field (omega arith)) (omega arith)) (omega arith)) (omega arith)
fields_width (Answer client id observer position result) e typed =
    let p = answer_parts client id observer result e in
    let low = typed.position_fits in
    let short = hex_within result MAX_RESULT_BYTES (omega arith) p.short in
    one_more (actor_text (actors.Client client))
    (decimal id ∷ actor_text (actors.Observer observer) ∷ decimal position ∷ hex_text result ∷ []) 21 579 1400
    (name_short (actors.Client client) p.named)
    (one_more (decimal id) (actor_text (actors.Observer observer) ∷ decimal position ∷ hex_text result ∷ []) 20 558 579
    (decimal_short id typed.id_fits)
    (one_more (actor_text (actors.Observer observer)) (decimal position ∷ hex_text result ∷ []) 21 536 558
    (name_short (actors.Observer observer) p.there)
    (one_more (decimal position) (hex_text result ∷ []) 20 515 536 (decimal_short position (omega arith))
    (one_more (hex_text result) [] 514 0 515 short no_field (omega arith)) (omega arith)) (omega arith)) (omega arith)) (omega arith)
fields_width (Sent index from dest kind len) e typed =
    let p = sent_parts from dest kind len e in
    let short = p.len_fits in
    one_more (decimal index) (actor_text from ∷ dest_text dest ∷ kind_text kind ∷ decimal len ∷ []) 20 100 1400 (decimal_short index typed)
    (one_more (actor_text from) (dest_text dest ∷ kind_text kind ∷ decimal len ∷ []) 21 70 100 (name_short from p.from_fits)
    (one_more (dest_text dest) (kind_text kind ∷ decimal len ∷ []) 21 40 70 (dest_short dest p.to_fits)
    (one_more (kind_text kind) (decimal len ∷ []) 9 21 40 ((kind_read kind p.low p.high).short)
    (one_more (decimal len) [] 20 0 21 (decimal_short len (omega arith)) no_field (omega arith)) (omega arith)) (omega arith)) (omega arith))
    (omega arith)
fields_width (State replica crashed status view len sync_point) e typed =
    let leader = typed.leader in
    let session = typed.session in
    let short = typed.len_fits in
    let point = typed.point_fits in
    one_more (actor_text (actors.Replica replica))
    (up_text crashed ∷ phase_text status ∷ decimal view.leader ∷ decimal view.session ∷ decimal len ∷ decimal sync_point ∷ []) 21 126 1400
    (name_short (actors.Replica replica) (state_named replica view.session e))
    (one_more (up_text crashed) (phase_text status ∷ decimal view.leader ∷ decimal view.session ∷ decimal len ∷ decimal sync_point ∷ []) 20 105
    126 (up_short crashed)
    (one_more (phase_text status) (decimal view.leader ∷ decimal view.session ∷ decimal len ∷ decimal sync_point ∷ []) 20 84 105
    (phase_short status)
    (one_more (decimal view.leader) (decimal view.session ∷ decimal len ∷ decimal sync_point ∷ []) 20 63 84
    (decimal_short view.leader (omega arith))
    (one_more (decimal view.session) (decimal len ∷ decimal sync_point ∷ []) 20 42 63 (decimal_short view.session (omega arith))
    (one_more (decimal len) (decimal sync_point ∷ []) 20 21 42 (decimal_short len (omega arith))
    (one_more (decimal sync_point) [] 20 0 21 (decimal_short sync_point (omega arith)) no_field (omega arith)) (omega arith)) (omega arith))
    (omega arith)) (omega arith)) (omega arith)) (omega arith)
fields_width (Slot replica slot entry) e typed =
    let p = slot_parts replica slot entry e in
    let low = typed.0 in
    one_more (actor_text (actors.Replica replica)) (decimal slot ∷ entry_fields entry) 21 1345 1400 (name_short (actors.Replica replica) p.named)
    (one_more (decimal slot) (entry_fields entry) 20 1324 1345 (decimal_short slot (omega arith)) (entry_width entry p.fits typed.1) (omega arith))
    (omega arith)
fields_width (Watching observer crashed position) e typed =
    let low : position < 2 ^ 32 = typed in
    one_more (actor_text (actors.Observer observer)) (up_text crashed ∷ decimal position ∷ []) 21 42 1400
    (name_short (actors.Observer observer) e)
    (one_more (up_text crashed) (decimal position ∷ []) 20 21 42 (up_short crashed)
    (one_more (decimal position) [] 20 0 21 (decimal_short position (omega arith)) no_field (omega arith)) (omega arith)) (omega arith)
fields_width (Member place request) e typed =
    let p = and_parts (nat_le 1 place) (request_fits request) e in
    let low = typed.0 in
    one_more (decimal place) (request_fields request) 20 1324 1400 (decimal_short place (omega arith)) (request_width request p.1 typed.1)
    (omega arith)
fields_width End e typed = record { within = omega arith }

word_short : (row : Row) → length (row_word row) ≤ 8
word_short (Dead actor) = omega arith
word_short _ = omega arith

-- ---- lines

-- it is no longer than a line may be, and no line end is in it
pub record IsLine (text : List ℕ) : Type 0 where
  pub short : length text ≤ MAX_LINE_BYTES
  pub inside : list_all is_inside text ≡ true

pub row_is_line : (row : Row) → RowFits row → IsLine (spelled row)
row_is_line row fits = record {
  short = let w = (fields_width row fits.ranges fits.typed).within in
      omega (arith, word_short row, length-append (row_word row) (flat_map after_space (row_fields row)));
  inside = both_inside (row_word row) (flat_map after_space (row_fields row)) (marks_inside (row_word row) (word_marked row))
      (spaced_inside (row_fields row) (fields_marked row fits.ranges fits.typed));
}

last_width : (a b : Bool) (k o : ℕ) → k < 2 ^ 64 → o < 2 ^ 64
    → Width (if a then [] else if b then codes "controllers" ∷ decimal k ∷ []
    else codes "controllers" ∷ decimal k ∷ codes "observers" ∷ decimal o ∷ []) 64
last_width true b k o small few = record { within = omega arith }
last_width false true k o small few =
    one_more (codes "controllers") (decimal k ∷ []) 11 21 64 (omega arith)
    (one_more (decimal k) [] 20 0 21 (decimal_short k small) no_field (omega arith)) (omega arith)
last_width false false k o small few =
    one_more (codes "controllers") (decimal k ∷ codes "observers" ∷ decimal o ∷ []) 11 52 64 (omega arith)
    (one_more (decimal k) (codes "observers" ∷ decimal o ∷ []) 20 31 52 (decimal_short k small)
    (one_more (codes "observers") (decimal o ∷ []) 9 21 31 (omega arith)
    (one_more (decimal o) [] 20 0 21 (decimal_short o few) no_field (omega arith)) (omega arith)) (omega arith)) (omega arith)

header_width : (h : Header) → is_header h ≡ true → Width (header_fields h) 1400
unfolding header_fields
header_width h e =
    let c = h.config in
    let s = small_counts c (counted h e) in
    let form = small_form h e in
    let replicas = s.replicas in
    let sequencers = s.sequencers in
    let clients = s.clients in
    let last = last_fields h.form c.controllers c.observers in
    one_more (decimal h.form)
    (codes "replicas" ∷ decimal c.replicas ∷ codes "sequencers" ∷ decimal c.sequencers ∷ codes "clients" ∷ decimal c.clients ∷ last) 20 190
    1400 (decimal_short h.form (omega arith))
    (one_more (codes "replicas")
    (decimal c.replicas ∷ codes "sequencers" ∷ decimal c.sequencers ∷ codes "clients" ∷ decimal c.clients ∷ last) 20 169 190 (omega arith)
    (one_more (decimal c.replicas) (codes "sequencers" ∷ decimal c.sequencers ∷ codes "clients" ∷ decimal c.clients ∷ last) 20 148 169
    (decimal_short c.replicas (omega arith))
    (one_more (codes "sequencers") (decimal c.sequencers ∷ codes "clients" ∷ decimal c.clients ∷ last) 20 127 148 (omega arith)
    (one_more (decimal c.sequencers) (codes "clients" ∷ decimal c.clients ∷ last) 20 106 127 (decimal_short c.sequencers (omega arith))
    (one_more (codes "clients") (decimal c.clients ∷ last) 20 85 106 (omega arith)
    (one_more (decimal c.clients) last 20 64 85 (decimal_short c.clients (omega arith))
    (last_width (h.form == 1) (h.form == 2) c.controllers c.observers (omega (arith, s.controllers)) (omega (arith, s.observers)))
    (omega arith)) (omega arith)) (omega arith))
    (omega arith)) (omega arith)) (omega arith)) (omega arith)

pub header_is_line : (h : Header) → is_header h ≡ true → IsLine (spelled_header h)
unfolding spelled_header
header_is_line h e = record {
  short = let w = (header_width h e).within in omega (arith, length-append (codes "transcript") (flat_map after_space (header_fields h)));
  inside = both_inside (codes "transcript") (flat_map after_space (header_fields h)) (marks_inside (codes "transcript") refl)
      (spaced_inside (header_fields h) (header_marked h e));
}
