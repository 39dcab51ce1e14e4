-- Reading the text of a row gives the row again.
use Rattle.std.proofs.Common.{◌≡◌, ℕ, zero, suc, ◌^◌, ◌<◌, ◌≤◌, Bool, true, false, Option, Some, None, refl, sym, ap, ◌∙◌, subst}
use Rattle.std.proofs.Common.{inl, inr, ◌⊎◌, arith, length, List, [], ◌∷◌, ◌++◌, decimal, codes, nat_lt, nat_le}
use Rattle.std.specs.Prelude.{◌&&◌, ◌||◌, ◌==◌, if◌then◌else◌, nat_eq}
use Rattle.std.specs.Cmp.Lexicographic.{pointwise}
use Rattle.std.specs.List.{flat_map, list_all}
use Rattle.std.proofs.lemmas.Bool.{le-leb, leb-true, ltb-true, eqb-true, ne_eqb, and_parts, and_left}
use Rattle.std.proofs.lemmas.List.{append_cancel_right}
use Rattle.hex.specs.Hex.{IsBytes}
use Rattle.line_fields.specs.Fields.{fields, actor_of, client_number, observer_number, number_below, IsActorOf}
use Rattle.line_fields.proofs.FieldTexts.{is_mark, decimal_marked, number_again, small_again, Small, actor_again, bytes_again, key_again}
use Rattle.line_fields.proofs.FieldTexts.{hex_marked, hex_within, AllMarked, line_fields, actor_marked}
use Rattle.line_fields.proofs.FieldTexts.{starts_with_digit}
use Rattle.nop_types.specs.declared.limits.TheConstants.{MAX_CLIENTS, MAX_CONTROLLERS, MAX_OP_BYTES, MAX_REPLICAS, MAX_RESULT_BYTES}
use Rattle.nop_types.specs.declared.limits.TheConstants.{MAX_SEQUENCERS, MAX_OBSERVERS}
use Rattle.nop_types.specs.declared.output.Actor.{Actor}
use Rattle.nop_types.specs.declared.output.Actor.TheVariants as actors
use Rattle.nop_types.specs.declared.output.Dest.{Dest}
use Rattle.nop_types.specs.declared.output.Dest.TheVariants.{Replicas, Sequencers, One}
use Rattle.nop_types.specs.declared.request.Request.{Request}
use Rattle.nop_types.specs.declared.request.Entry.{Entry}
use Rattle.nop_types.specs.declared.request.Entry.TheVariants.{NoOp, Req}
use Rattle.nop_types.specs.declared.replica_state.Phase.{Phase}
use Rattle.nop_types.specs.declared.replica_state.Phase.TheVariants.{Normal, Change}
use Rattle.transcript_rows.specs.declared.row.Row.{Row}
use Rattle.transcript_rows.specs.declared.row.Row.TheVariants.{Dead, Submit, Accept, Busy, Read, Answer, Sent, State, Slot, Watching}
use Rattle.transcript_rows.specs.declared.row.Row.TheVariants.{Member, End}
use Rattle.transcript_rows.specs.declared.row.TheConstants.{MAX_SENT_BYTES}
use Rattle.transcript_rows.specs.Reading.{limits, client_of, replica_of, replica_number, observer_of, word_of, to_one, dest_of, kind_of, crashed_of}
use Rattle.transcript_rows.specs.Reading.{status_of, op_of, request_of, row_of_fields, counts_of, header_with, header_of_fields}
use Rattle.transcript_rows.specs.Reading.{IsRowOf, IsHeaderOf, ◌>>=◌}
use Rattle.transcript_rows.specs.Rows.{row_word, row_fields, row_text, row_fits, actor_fits, dest_fits, pair_fits, request_fits}
use Rattle.transcript_rows.specs.Rows.{entry_fits, request_fields, entry_fields, IsTypedRequest, IsTypedEntry, IsTyped, RowFits}
use Rattle.transcript_text.specs.LineText.{after_space}
use Rattle.transcript_text.specs.Transcript.{actor_text, client_text, dest_text, hex_text, kind_text, phase_text, up_text}
use Rattle.transcript_text.specs.Transcript.{transcript_line}
use Rattle.transcript_text.proofs.LineLemmas.{first_form, second_form, third_form}
use Rattle.nop_types.specs.Configuration.{Configuration, is_configuration}
use Rattle.nop_types.specs.Headers.{gives, is_header}
use Rattle.nop_types.specs.declared.header.Header.{Header}
use Rattle.line_fields.proofs.FieldTexts.{small_counts}

-- ---- actors

pub small : Small limits
small = record { replicas = omega arith; sequencers = omega arith; clients = omega arith; controllers = omega arith; observers = omega arith }

pub actor_there : (a : Actor) → actor_fits a ≡ true → IsActorOf limits a
actor_there (actors.Replica i) e = ltb-true i MAX_REPLICAS e
actor_there (actors.Sequencer i) e = ltb-true i MAX_SEQUENCERS e
actor_there (actors.Client i) e = ltb-true i MAX_CLIENTS e
actor_there (actors.Controller i) e = ltb-true i MAX_CONTROLLERS e
actor_there (actors.Observer i) e = ltb-true i MAX_OBSERVERS e

actor_read : (a : Actor) → actor_fits a ≡ true → actor_of limits (actor_text a) ≡ Some a
actor_read a e = actor_again limits small a (actor_there a e)

client_read : (i : ℕ) → nat_lt i MAX_CLIENTS ≡ true → client_of (client_text i) ≡ Some i
client_read i e = ap client_number (actor_read (actors.Client i) e)

replica_read : (i : ℕ) → nat_lt i MAX_REPLICAS ≡ true → replica_of (actor_text (actors.Replica i)) ≡ Some i
replica_read i e = ap replica_number (actor_read (actors.Replica i) e)

observer_read : (i : ℕ) → nat_lt i MAX_OBSERVERS ≡ true → observer_of (actor_text (actors.Observer i)) ≡ Some i
observer_read i e = ap observer_number (actor_read (actors.Observer i) e)

name_marked : (a : Actor) → actor_fits a ≡ true → list_all is_mark (actor_text a) ≡ true
name_marked a e = actor_marked limits small a (actor_there a e)

-- a number is no star
no_star : (i : ℕ) → i < 2 ^ 64 → pointwise nat_eq (decimal i) (codes "*") ≡ false
no_star i fits =
    let h = starts_with_digit i fits in
    let high = h.high in
    rw h.is (and_left (nat_eq h.first 42) _ (ne_eqb h.first 42 (λ same. omega arith)))

one_read : (a : Actor) → actor_fits a ≡ true → dest_of (actor_text a) ≡ Some (One a)
unfolding dest_of
one_read (actors.Replica i) e =
    rw (no_star i (let low = ltb-true i MAX_REPLICAS e in omega arith)) (ap to_one (actor_read (actors.Replica i) e))
one_read (actors.Sequencer i) e =
    rw (no_star i (let low = ltb-true i MAX_SEQUENCERS e in omega arith)) (ap to_one (actor_read (actors.Sequencer i) e))
one_read (actors.Client i) e = ap to_one (actor_read (actors.Client i) e)
one_read (actors.Controller i) e = ap to_one (actor_read (actors.Controller i) e)
one_read (actors.Observer i) e = ap to_one (actor_read (actors.Observer i) e)

dest_read : (d : Dest) → dest_fits d ≡ true → dest_of (dest_text d) ≡ Some d
unfolding dest_of
dest_read Replicas e = refl
dest_read Sequencers e = refl
dest_read (One a) e = one_read a e

dest_marked : (d : Dest) → dest_fits d ≡ true → list_all is_mark (dest_text d) ≡ true
dest_marked Replicas e = refl
dest_marked Sequencers e = refl
dest_marked (One a) e = name_marked a e

-- ---- kinds

pub record IsKindRead (k : ℕ) : Type 0 where
  pub read : kind_of (kind_text k) ≡ Some k
  pub marked : list_all is_mark (kind_text k) ≡ true
  pub short : length (kind_text k) ≤ 9

pub kind_read : (k : ℕ) → 1 ≤ k → k ≤ 10 → IsKindRead k
unfolding kind_of kind_text
kind_read zero low high = absurd (omega arith)
kind_read (suc zero) low high = record { read = refl; marked = refl; short = omega arith }
kind_read (suc (suc zero)) low high = record { read = refl; marked = refl; short = omega arith }
kind_read (suc (suc (suc zero))) low high = record { read = refl; marked = refl; short = omega arith }
kind_read (suc (suc (suc (suc zero)))) low high = record { read = refl; marked = refl; short = omega arith }
kind_read (suc (suc (suc (suc (suc zero))))) low high = record { read = refl; marked = refl; short = omega arith }
kind_read (suc (suc (suc (suc (suc (suc zero)))))) low high = record { read = refl; marked = refl; short = omega arith }
kind_read (suc (suc (suc (suc (suc (suc (suc zero))))))) low high = record { read = refl; marked = refl; short = omega arith }
kind_read (suc (suc (suc (suc (suc (suc (suc (suc zero)))))))) low high = record { read = refl; marked = refl; short = omega arith }
kind_read (suc (suc (suc (suc (suc (suc (suc (suc (suc zero))))))))) low high = record { read = refl; marked = refl; short = omega arith }
kind_read (suc (suc (suc (suc (suc (suc (suc (suc (suc (suc zero)))))))))) low high = record { read = refl; marked = refl; short = omega arith }
kind_read (suc (suc (suc (suc (suc (suc (suc (suc (suc (suc (suc k))))))))))) low high = absurd (omega arith)

-- ---- words and numbers

word_read : (n : ℕ) → n < 2 ^ 32 → word_of (decimal n) ≡ Some n
word_read n fits = small_again (2 ^ 32) n fits (omega arith)

crashed_read : (b : Bool) → crashed_of (up_text b) ≡ b
crashed_read true = refl
crashed_read false = refl

up_marked : (b : Bool) → list_all is_mark (up_text b) ≡ true
up_marked true = refl
up_marked false = refl

status_read : (p : Phase) → status_of (phase_text p) ≡ p
status_read Normal = refl
status_read Change = refl

phase_marked : (p : Phase) → list_all is_mark (phase_text p) ≡ true
phase_marked Normal = refl
phase_marked Change = refl

-- ---- requests

op_read : (op : List ℕ) → length op ≤ MAX_OP_BYTES → IsBytes op → op_of (hex_text op) ≡ Some op
op_read op short bytes =
    let room : nat_le (length (hex_text op)) 1280 ≡ true = le-leb (length (hex_text op)) 1280 (hex_within op MAX_OP_BYTES (omega arith) short) in
    rw room (bytes_again op bytes)

pub request_read : (r : Request) → request_fits r ≡ true → IsTypedRequest r → request_of (request_fields r) ≡ Some r
request_read r e typed =
    let p = and_parts (nat_lt r.client MAX_CLIENTS) (nat_le 1 r.id) e in
    rw (client_read r.client p.0) (rw (number_again r.id typed.id) (rw (op_read r.op typed.short typed.bytes) refl))

request_marked : (r : Request) → request_fits r ≡ true → IsTypedRequest r → AllMarked (request_fields r)
request_marked r e typed =
    let p = and_parts (nat_lt r.client MAX_CLIENTS) (nat_le 1 r.id) e in
    (name_marked (actors.Client r.client) p.0, (decimal_marked r.id typed.id, (hex_marked r.op typed.bytes, tt)))

-- ---- reads and answers

-- what the ranges of a read's line are, one by one
pub record ReadParts (client observer : ℕ) : Type 0 where
  pub named : nat_lt client MAX_CLIENTS ≡ true
  pub there : nat_lt observer MAX_OBSERVERS ≡ true

pub read_parts : (client id observer : ℕ) → (pair_fits client id && nat_lt observer MAX_OBSERVERS) ≡ true → ReadParts client observer
read_parts client id observer e =
    let p = and_parts (pair_fits client id) (nat_lt observer MAX_OBSERVERS) e in
    record { named = (and_parts (nat_lt client MAX_CLIENTS) (nat_le 1 id) p.0).0; there = p.1 }

-- and those of an answer's line
pub record AnswerParts (client observer : ℕ) (result : List ℕ) : Type 0 where
  pub named : nat_lt client MAX_CLIENTS ≡ true
  pub there : nat_lt observer MAX_OBSERVERS ≡ true
  pub short : length result ≤ MAX_RESULT_BYTES

pub answer_parts : (client id observer : ℕ) (result : List ℕ)
    → (pair_fits client id && (nat_lt observer MAX_OBSERVERS && nat_le (length result) MAX_RESULT_BYTES)) ≡ true
    → AnswerParts client observer result
answer_parts client id observer result e =
    let p = and_parts (pair_fits client id) (nat_lt observer MAX_OBSERVERS && nat_le (length result) MAX_RESULT_BYTES) e in
    let q = and_parts (nat_lt observer MAX_OBSERVERS) (nat_le (length result) MAX_RESULT_BYTES) p.1 in
    record {
      named = (and_parts (nat_lt client MAX_CLIENTS) (nat_le 1 id) p.0).0;
      there = q.0;
      short = leb-true (length result) MAX_RESULT_BYTES q.1;
    }

-- ---- rows

pub word_marked : (row : Row) → list_all is_mark (row_word row) ≡ true
word_marked (Dead actor) = refl
word_marked _ = refl

-- what the ranges of a send line are, one by one
pub record SentParts (from : Actor) (dest : Dest) (kind len : ℕ) : Type 0 where
  pub from_fits : actor_fits from ≡ true
  pub to_fits : dest_fits dest ≡ true
  pub low : 1 ≤ kind
  pub high : kind ≤ 10
  pub len_fits : len ≤ 1417

pub sent_parts : (from : Actor) (dest : Dest) (kind len : ℕ)
    → (actor_fits from && (dest_fits dest && (nat_le 1 kind && (nat_le kind 10 && nat_le len MAX_SENT_BYTES)))) ≡ true
    → SentParts from dest kind len
sent_parts from dest kind len e =
    let a = and_parts (actor_fits from) (dest_fits dest && (nat_le 1 kind && (nat_le kind 10 && nat_le len MAX_SENT_BYTES))) e in
    let b = and_parts (dest_fits dest) (nat_le 1 kind && (nat_le kind 10 && nat_le len MAX_SENT_BYTES)) a.1 in
    let d = and_parts (nat_le 1 kind) (nat_le kind 10 && nat_le len MAX_SENT_BYTES) b.1 in
    let g = and_parts (nat_le kind 10) (nat_le len MAX_SENT_BYTES) d.1 in
    record {
      from_fits = a.0;
      to_fits = b.0;
      low = leb-true 1 kind d.0;
      high = leb-true kind 10 g.0;
      len_fits = leb-true len MAX_SENT_BYTES g.1;
    }

-- what the ranges of a replica's line are
pub state_named : (replica session : ℕ) → (nat_lt replica MAX_REPLICAS && nat_le 1 session) ≡ true → nat_lt replica MAX_REPLICAS ≡ true
state_named replica session e = (and_parts (nat_lt replica MAX_REPLICAS) (nat_le 1 session) e).0

pub record SlotParts (replica : ℕ) (entry : Entry) : Type 0 where
  pub named : nat_lt replica MAX_REPLICAS ≡ true
  pub fits : entry_fits entry ≡ true

pub slot_parts : (replica slot : ℕ) (entry : Entry)
    → (nat_lt replica MAX_REPLICAS && (nat_le 1 slot && entry_fits entry)) ≡ true → SlotParts replica entry
slot_parts replica slot entry e =
    let a = and_parts (nat_lt replica MAX_REPLICAS) (nat_le 1 slot && entry_fits entry) e in
    record { named = a.0; fits = (and_parts (nat_le 1 slot) (entry_fits entry) a.1).1 }

-- the word of a client is no word of an entry
slot_read : (replica slot : ℕ) (entry : Entry) → SlotParts replica entry → slot < 2 ^ 32 → IsTypedEntry entry
    → row_of_fields (codes "entry" ∷ row_fields (Slot replica slot entry)) ≡ Some (Slot replica slot entry)
unfolding row_of_fields
slot_read replica slot NoOp parts low typed = rw (replica_read replica parts.named, word_read slot low) refl
slot_read replica slot (Req r) parts low typed =
    rw (replica_read replica parts.named, word_read slot low, request_read r parts.fits typed) refl

row_read : (row : Row) → row_fits row ≡ true → IsTyped row → row_of_fields (row_word row ∷ row_fields row) ≡ Some row
unfolding row_of_fields
row_read (Dead actor) e typed = rw (actor_read actor e) refl
row_read (Submit request) e typed = rw (request_read request e typed) refl
row_read (Accept client id result) e typed =
    let p = and_parts (pair_fits client id) (nat_le (length result) MAX_RESULT_BYTES) e in
    let q = and_parts (nat_lt client MAX_CLIENTS) (nat_le 1 id) p.0 in
    rw (client_read client q.0) (rw (number_again id typed.0) (rw (bytes_again result typed.1) refl))
row_read (Busy client) e typed = rw (client_read client e) refl
row_read (Read client id observer key) e typed =
    let p = read_parts client id observer e in
    rw (client_read client p.named, number_again id typed.id_fits, observer_read observer p.there)
    (rw (key_again key typed.some typed.most typed.bytes) refl)
row_read (Answer client id observer position result) e typed =
    let p = answer_parts client id observer result e in
    rw (client_read client p.named, number_again id typed.id_fits, observer_read observer p.there)
    (rw (word_read position typed.position_fits) (rw (bytes_again result typed.bytes) refl))
row_read (Sent index from dest kind len) e typed =
    let p = sent_parts from dest kind len e in
    let short = p.len_fits in
    rw (number_again index typed)
    (rw (actor_read from p.from_fits)
    (rw (dest_read dest p.to_fits) (rw ((kind_read kind p.low p.high).read) (rw (word_read len (omega arith)) refl))))
row_read (State replica crashed status view len sync_point) e typed =
    rw (replica_read replica (state_named replica view.session e))
    (rw (word_read view.leader typed.leader)
    (rw (number_again view.session typed.session)
    (rw (word_read len typed.len_fits)
    (rw (word_read sync_point typed.point_fits) (rw (crashed_read crashed, status_read status) refl)))))
row_read (Slot replica slot entry) e typed = slot_read replica slot entry (slot_parts replica slot entry e) typed.0 typed.1
row_read (Watching observer crashed position) e typed =
    rw (observer_read observer e) (rw (word_read position typed) (rw (crashed_read crashed) refl))
row_read (Member place request) e typed =
    let p = and_parts (nat_le 1 place) (request_fits request) e in
    rw (word_read place typed.0) (rw (request_read request p.1 typed.1) refl)
row_read End e typed = refl

entry_marked : (entry : Entry) → entry_fits entry ≡ true → IsTypedEntry entry → AllMarked (entry_fields entry)
entry_marked NoOp e typed = (refl, tt)
entry_marked (Req r) e typed = request_marked r e typed

pub fields_marked : (row : Row) → row_fits row ≡ true → IsTyped row → AllMarked (row_fields row)
fields_marked (Dead actor) e typed = (name_marked actor e, tt)
fields_marked (Submit request) e typed = request_marked request e typed
fields_marked (Accept client id result) e typed =
    let p = and_parts (pair_fits client id) (nat_le (length result) MAX_RESULT_BYTES) e in
    let q = and_parts (nat_lt client MAX_CLIENTS) (nat_le 1 id) p.0 in
    (name_marked (actors.Client client) q.0, (decimal_marked id typed.0, (hex_marked result typed.1, tt)))
fields_marked (Busy client) e typed = (name_marked (actors.Client client) e, tt)
fields_marked (Read client id observer key) e typed =
    let p = read_parts client id observer e in (
      name_marked (actors.Client client) p.named,
      (decimal_marked id typed.id_fits, (name_marked (actors.Observer observer) p.there, (hex_marked key typed.bytes, tt))),
    )
fields_marked (Answer client id observer position result) e typed =
    let p = answer_parts client id observer result e in
    let low = typed.position_fits in (
      name_marked (actors.Client client) p.named,
      (
        decimal_marked id typed.id_fits,
        (
          name_marked (actors.Observer observer) p.there,
          (decimal_marked position (omega arith), (hex_marked result typed.bytes, tt)),
        ),
      ),
    )
fields_marked (Sent index from dest kind len) e typed =
    let p = sent_parts from dest kind len e in
    let short = p.len_fits in (
      decimal_marked index typed,
      (
        name_marked from p.from_fits,
        (dest_marked dest p.to_fits, ((kind_read kind p.low p.high).marked, (decimal_marked len (omega arith), tt))),
      ),
    )
fields_marked (State replica crashed status view len sync_point) e typed =
    let leader = typed.leader in
    let session = typed.session in
    let short = typed.len_fits in
    let point = typed.point_fits in (
      name_marked (actors.Replica replica) (state_named replica view.session e),
      (
        up_marked crashed,
        (
          phase_marked status,
          (
            decimal_marked view.leader (omega arith),
            (decimal_marked view.session (omega arith), (decimal_marked len (omega arith), (decimal_marked sync_point (omega arith), tt))),
          ),
        ),
      ),
    )
fields_marked (Slot replica slot entry) e typed =
    let p = slot_parts replica slot entry e in
    let low = typed.0 in
    (name_marked (actors.Replica replica) p.named, (decimal_marked slot (omega arith), entry_marked entry p.fits typed.1))
fields_marked (Watching observer crashed position) e typed =
    let low : position < 2 ^ 32 = typed in
    (name_marked (actors.Observer observer) e, (up_marked crashed, (decimal_marked position (omega arith), tt)))
fields_marked (Member place request) e typed =
    let p = and_parts (nat_le 1 place) (request_fits request) e in
    let low = typed.0 in
    (decimal_marked place (omega arith), request_marked request p.1 typed.1)
fields_marked End e typed = tt

-- the line of a row, without its end
abbrev pub spelled : Row → List ℕ
spelled row = row_word row ++ flat_map after_space (row_fields row)

pub whole : (row : Row) → row_text row ≡ spelled row ++ 10 ∷ []
unfolding row_text
whole row = refl

-- a line that is the text of a row is read as that row
pub row_again : (row : Row) (line : List ℕ) → RowFits row → row_text row ≡ line ++ 10 ∷ [] → row_of_fields (fields line) ≡ Some row
row_again row line h is =
    let same : spelled row ≡ line = append_cancel_right (spelled row) line (10 ∷ []) (sym (whole row) ∙ is) in
    ap (λ (xs : List ℕ). row_of_fields (fields xs)) (sym same)
    ∙ ap row_of_fields (line_fields (row_word row) (row_fields row) (word_marked row) (fields_marked row h.ranges h.typed))
    ∙ row_read row h.ranges h.typed

-- ---- what reading a line answers

pub not_that : (line : List ℕ) (read : Option Row) → row_of_fields (fields line) ≡ read
    → ((r : Row) → read ≡ Some r → RowFits r → row_text r ≡ line ++ 10 ∷ [] → ⊥) → IsRowOf line None
not_that line read e none = λ r h is. none r (sym e ∙ row_again r line h is) h is

pub nothing_read : (line : List ℕ) (read : Option Row) → read ≡ row_of_fields (fields line) → read ≡ None → IsRowOf line None
nothing_read line read e empty = not_that line read (sym e) (λ r is h same. absurd (let x : None ≡ Some r = sym empty ∙ is in cc))

-- the row that was read does not fit, or has another text
pub another_read : (line : List ℕ) (row : Row) (read : Option Row) → read ≡ row_of_fields (fields line) → read ≡ Some row
    → (RowFits row → row_text row ≡ line ++ 10 ∷ [] → ⊥) → IsRowOf line None
another_read line row read e is other = not_that line read (sym e)
    (λ r found h same. let it : row ≡ r = (let x : Some row ≡ Some r = sym is ∙ found in cc) in
    let back : r ≡ row = sym it in
    other (subst (λ (x : Row). RowFits x) back h) (ap row_text it ∙ same))

-- ---- the first line

-- the fields behind the clients: form 1 has none, and form 2 none of observers
abbrev pub last_fields : ℕ → ℕ → ℕ → List (List ℕ)
last_fields form k o =
    if form == 1 then []
    else if form == 2 then codes "controllers" ∷ decimal k ∷ []
    else codes "controllers" ∷ decimal k ∷ codes "observers" ∷ decimal o ∷ []

unfoldable pub header_fields : Header → List (List ℕ)
header_fields h =
    decimal h.form ∷ codes "replicas" ∷ decimal h.config.replicas ∷ codes "sequencers" ∷ decimal h.config.sequencers ∷ codes "clients"
    ∷ decimal h.config.clients ∷ last_fields h.form h.config.controllers h.config.observers

unfoldable pub spelled_header : Header → List ℕ
spelled_header h = codes "transcript" ++ flat_map after_space (header_fields h)

-- a header is of form 3; or it has no observers and is of form 2, or of form 1 with one controller
abbrev pub Forms : Header → Type 0
Forms h =
    (h.form ≡ 3)
    ⊎ (((h.form ≡ 2) × (h.config.observers ≡ 0)) ⊎ ((h.form ≡ 1) × (h.config.controllers ≡ 1) × (h.config.observers ≡ 0)))

pub forms : (h : Header) → is_header h ≡ true → Forms h
forms h e =
    by_tests (h.form == 3) (h.config.observers == 0) (h.form == 2) (h.form == 1) (h.config.controllers == 1) refl refl refl refl refl
    (and_parts (gives h.form h.config) (is_configuration h.config) e).0
  where
    by_tests : (t o a b d : Bool) → h.form == 3 ≡ t → h.config.observers == 0 ≡ o → h.form == 2 ≡ a → h.form == 1 ≡ b
        → h.config.controllers == 1 ≡ d → (t || (o && (a || (b && d)))) ≡ true → Forms h
    by_tests true o a b d m n p q r e = inl (eqb-true h.form 3 m)
    by_tests false true true b d m n p q r e = inr (inl (eqb-true h.form 2 p, eqb-true h.config.observers 0 n))
    by_tests false true false true true m n p q r e =
        inr (inr (eqb-true h.form 1 q, eqb-true h.config.controllers 1 r, eqb-true h.config.observers 0 n))
    by_tests false true false true false m n p q r e = absurd cc
    by_tests false true false false d m n p q r e = absurd cc
    by_tests false false a b d m n p q r e = absurd cc

pub counted : (h : Header) → is_header h ≡ true → is_configuration h.config ≡ true
counted h e = (and_parts (gives h.form h.config) (is_configuration h.config) e).1

pub whole_header : (h : Header) → is_header h ≡ true → transcript_line h.form h.config ≡ spelled_header h ++ 10 ∷ []
unfolding transcript_line spelled_header header_fields
whole_header h e = by_form h.form h.config (forms h e)
  where
    by_form : (form : ℕ) (c : Configuration) → Forms (record { form = form; config = c })
        → transcript_line form c ≡ spelled_header (record { form = form; config = c }) ++ 10 ∷ []
    by_form form c (inl three) = rw three (sym (third_form (codes "transcript") 3 c (λ same. omega (arith, same)) (λ same. omega (arith, same))))
    by_form form c (inr (inl two)) = rw two.0 (sym (second_form (codes "transcript") c))
    by_form form c (inr (inr one)) = rw one.0 (sym (first_form (codes "transcript") c))

found_again : (form : ℕ) (made c : Configuration) → made ≡ c → is_configuration c ≡ true
    → (if◌then◌else◌ {A = Option Header} (is_configuration made) (Some (record { form = form; config = made })) None)
    ≡ Some (record { form = form; config = c })
found_again form made c same e = rw same (rw e refl)

made_with : (form : ℕ) (c : Configuration) → is_configuration c ≡ true
    → header_with (Some c.replicas) (Some c.sequencers) (Some c.clients) (Some (form, c.controllers, c.observers))
    ≡ Some (record { form = form; config = c })
made_with form c e =
    let made : Configuration = record {
      replicas = c.replicas;
      sequencers = c.sequencers;
      clients = c.clients;
      controllers = c.controllers;
      observers = c.observers;
    } in
    found_again form made c refl e

-- the counts, and these last ones
abbrev with_last : Configuration → ℕ → ℕ → ℕ → Option Header
with_last c form k o =
    header_with (number_below 256 (decimal c.replicas)) (number_below 256 (decimal c.sequencers)) (number_below 256 (decimal c.clients))
    (Some (form, k, o))

made_again : (form : ℕ) (c : Configuration) → is_configuration c ≡ true
    → with_last c form c.controllers c.observers ≡ Some (record { form = form; config = c })
made_again form c e =
    let s = small_counts c e in
    let replicas = s.replicas in
    let sequencers = s.sequencers in
    let clients = s.clients in
    rw (small_again 256 c.replicas (omega arith) (omega arith))
    (rw (small_again 256 c.sequencers (omega arith) (omega arith))
    (rw (small_again 256 c.clients (omega arith) (omega arith)) (made_with form c e)))

header_read : (h : Header) → is_header h ≡ true → header_of_fields (codes "transcript" ∷ header_fields h) ≡ Some h
unfolding header_of_fields header_fields
header_read h e = by_form h.form h.config (counted h e) (forms h e)
  where
    by_form : (form : ℕ) (c : Configuration) → is_configuration c ≡ true → Forms (record { form = form; config = c })
        → let h : Header = record { form = form; config = c } in header_of_fields (codes "transcript" ∷ header_fields h) ≡ Some h
    by_form form c e (inl three) =
        let s = small_counts c e in
        let controllers = s.controllers in
        let observers = s.observers in
        rw three
        (rw (small_again 256 c.controllers (omega arith) (omega arith))
        (rw (small_again 256 c.observers (omega arith) (omega arith)) (made_again 3 c e)))
    by_form form c e (inr (inl two)) =
        let controllers = (small_counts c e).controllers in
        rw two.0
        (rw (small_again 256 c.controllers (omega arith) (omega arith))
        (ap (λ (o : ℕ). with_last c 2 c.controllers o) (sym two.1) ∙ made_again 2 c e))
    by_form form c e (inr (inr one)) =
        rw one.0
        (ap (λ (k : ℕ). with_last c 1 k 0) (sym one.1) ∙ ap (λ (o : ℕ). with_last c 1 c.controllers o) (sym one.2) ∙ made_again 1 c e)

pub small_form : (h : Header) → is_header h ≡ true → h.form ≤ 3
small_form h e = by_form (forms h e)
  where
    by_form : Forms h → h.form ≤ 3
    by_form (inl three) = omega (arith, three)
    by_form (inr (inl two)) = omega (arith, two.0)
    by_form (inr (inr one)) = omega (arith, one.0)

last_marked : (a b : Bool) (k o : ℕ) → k < 2 ^ 64 → o < 2 ^ 64
    → AllMarked (if a then [] else if b then codes "controllers" ∷ decimal k ∷ []
    else codes "controllers" ∷ decimal k ∷ codes "observers" ∷ decimal o ∷ [])
last_marked true b k o small few = tt
last_marked false true k o small few = (refl, (decimal_marked k small, tt))
last_marked false false k o small few = (refl, (decimal_marked k small, (refl, (decimal_marked o few, tt))))

pub header_marked : (h : Header) → is_header h ≡ true → AllMarked (header_fields h)
unfolding header_fields
header_marked h e =
    let s = small_counts h.config (counted h e) in
    let replicas = s.replicas in
    let sequencers = s.sequencers in
    let clients = s.clients in
    let last = last_marked (h.form == 1) (h.form == 2) h.config.controllers h.config.observers (omega (arith, s.controllers))
    (omega (arith, s.observers)) in
    let low = small_form h e in (
      decimal_marked h.form (omega arith),
      (
        refl,
        (
          decimal_marked h.config.replicas (omega arith),
          (
            refl,
            (
              decimal_marked h.config.sequencers (omega arith),
              (refl, (decimal_marked h.config.clients (omega arith), last)),
            ),
          ),
        ),
      ),
    )

pub header_again : (h : Header) (line : List ℕ) → is_header h ≡ true → transcript_line h.form h.config ≡ line ++ 10 ∷ []
    → header_of_fields (fields line) ≡ Some h
unfolding spelled_header
header_again h line e is =
    let same : spelled_header h ≡ line = append_cancel_right (spelled_header h) line (10 ∷ []) (sym (whole_header h e) ∙ is) in
    ap (λ (xs : List ℕ). header_of_fields (fields xs)) (sym same)
    ∙ ap header_of_fields (line_fields (codes "transcript") (header_fields h) refl (header_marked h e)) ∙ header_read h e

pub no_header_read : (line : List ℕ) (read : Option Header) → read ≡ header_of_fields (fields line) → read ≡ None → IsHeaderOf line None
no_header_read line read e empty = λ h fits is. absurd (let x : None ≡ Some h = sym empty ∙ (e ∙ header_again h line fits is) in cc)

pub another_header : (line : List ℕ) (h : Header) (read : Option Header) → read ≡ header_of_fields (fields line) → read ≡ Some h
    → (transcript_line h.form h.config ≡ line ++ 10 ∷ [] → ⊥) → IsHeaderOf line None
another_header line h read e is other = λ j fits same.
    let it : h ≡ j = (let x : Some h ≡ Some j = sym is ∙ (e ∙ header_again j line fits same) in cc) in
    other (ap (λ (x : Header). transcript_line x.form x.config) it ∙ same)

-- ---- what is read of the first line is of its form

made_fits : (made h : Header) (b : Bool) → is_configuration made.config ≡ b → gives made.form made.config ≡ true
    → (if b then Some made else None) ≡ Some h → is_header h ≡ true
made_fits made h true is gives e = let same : made ≡ h = cc in subst (λ (x : Header). is_header x ≡ true) same (rw (gives, is) refl)
made_fits made h false is gives e = absurd cc

with_fits : (n s c : Option ℕ) (k : Option (ℕ × ℕ × ℕ)) (h : Header)
    → ((n s c form j o : ℕ) → k ≡ Some (form, j, o)
    → gives form (record { replicas = n; sequencers = s; clients = c; controllers = j; observers = o }) ≡ true)
    → header_with n s c k ≡ Some h → is_header h ≡ true
with_fits (Some n) (Some s) (Some c) (Some k) h can e =
    let config : Configuration = record { replicas = n; sequencers = s; clients = c; controllers = k.1; observers = k.2 } in
    made_fits (record { form = k.0; config = config }) h (is_configuration config) refl (can n s c k.0 k.1 k.2 refl) e
with_fits None s c k h can e = absurd cc
with_fits (Some n) None c k h can e = absurd cc
with_fits (Some n) (Some s) None k h can e = absurd cc
with_fits (Some n) (Some s) (Some c) None h can e = absurd cc

abbrev second : ℕ → Option (ℕ × ℕ × ℕ)
second count = Some (2, count, 0)

abbrev third : ℕ → ℕ → Option (ℕ × ℕ × ℕ)
third count watching = Some (3, count, watching)

counts_fit : (more : List (List ℕ)) (n s c form j o : ℕ) → counts_of more ≡ Some (form, j, o)
    → gives form (record { replicas = n; sequencers = s; clients = c; controllers = j; observers = o }) ≡ true
counts_fit more n s c form j o e = by_more more e
  where
    can_be : (p : ℕ × ℕ × ℕ) → Some p ≡ Some (form, j, o)
        → gives p.0 (record { replicas = n; sequencers = s; clients = c; controllers = p.1; observers = p.2 }) ≡ true
        → gives form (record { replicas = n; sequencers = s; clients = c; controllers = j; observers = o }) ≡ true
    can_be p e h =
        let same : p ≡ (form, j, o) = cc in
        subst (λ (p : ℕ × ℕ × ℕ). gives p.0 (record { replicas = n; sequencers = s; clients = c; controllers = p.1; observers = p.2 }) ≡ true)
        same h

    by_count : (a : Option ℕ) → (a >>= second) ≡ Some (form, j, o)
        → gives form (record { replicas = n; sequencers = s; clients = c; controllers = j; observers = o }) ≡ true
    by_count None e = absurd cc
    by_count (Some count) e = can_be (2, count, 0) e refl

    by_counts : (a b : Option ℕ) → (a >>= λ (count : ℕ). b >>= third count) ≡ Some (form, j, o)
        → gives form (record { replicas = n; sequencers = s; clients = c; controllers = j; observers = o }) ≡ true
    by_counts None b e = absurd cc
    by_counts (Some count) None e = absurd cc
    by_counts (Some count) (Some watching) e = can_be (3, count, watching) e refl

    by_more : (more : List (List ℕ)) → counts_of more ≡ Some (form, j, o)
        → gives form (record { replicas = n; sequencers = s; clients = c; controllers = j; observers = o }) ≡ true
    by_more [] e = can_be (1, 1, 0) e refl
    by_more (x ∷ []) e = absurd cc
    by_more (x ∷ k ∷ []) e = by_count (number_below 256 k) e
    by_more (x ∷ k ∷ y ∷ []) e = absurd cc
    by_more (x ∷ k ∷ y ∷ m ∷ more) e = by_counts (number_below 256 k) (number_below 256 m) e

pub read_fits : (xs : List (List ℕ)) (h : Header) → header_of_fields xs ≡ Some h → is_header h ≡ true
unfolding header_of_fields
read_fits [] h e = absurd cc
read_fits (x1 ∷ []) h e = absurd cc
read_fits (x1 ∷ x2 ∷ []) h e = absurd cc
read_fits (x1 ∷ x2 ∷ x3 ∷ []) h e = absurd cc
read_fits (x1 ∷ x2 ∷ x3 ∷ x4 ∷ []) h e = absurd cc
read_fits (x1 ∷ x2 ∷ x3 ∷ x4 ∷ x5 ∷ []) h e = absurd cc
read_fits (x1 ∷ x2 ∷ x3 ∷ x4 ∷ x5 ∷ x6 ∷ []) h e = absurd cc
read_fits (x1 ∷ x2 ∷ x3 ∷ x4 ∷ x5 ∷ x6 ∷ x7 ∷ []) h e = absurd cc
read_fits (word ∷ form ∷ replicas ∷ n ∷ sequencers ∷ s ∷ clients ∷ c ∷ more) h e =
    with_fits (number_below 256 n) (number_below 256 s) (number_below 256 c) (counts_of more) h (counts_fit more) e
