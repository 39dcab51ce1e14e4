-- The row that the fields of a line give. It asks nothing that the text of that row tells: a line is that row where it is its text.
use Rattle.std.specs.Prelude.{◌≡◌, ℕ, ◌^◌, List, [], ◌∷◌, ◌++◌, length, codes, Bool, true, nat_le, Option, Some, None, if◌then◌else◌}
use Rattle.line_fields.specs.Fields.{actor_of, bytes_of, client_number, is_text, key_of, number_below, number_of, observer_number}
use Rattle.nop_types.specs.Configuration.{Configuration, is_configuration}
use Rattle.nop_types.specs.Headers.{is_header}
use Rattle.nop_types.specs.declared.header.Header.{Header}
use Rattle.nop_types.specs.declared.kinds.TheConstants as kinds
use Rattle.nop_types.specs.declared.limits.TheConstants.{MAX_CLIENTS, MAX_CONTROLLERS, MAX_OBSERVERS, MAX_REPLICAS, MAX_SEQUENCERS}
use Rattle.nop_types.specs.declared.output.Actor.{Actor}
use Rattle.nop_types.specs.declared.output.Actor.TheVariants as actors
use Rattle.nop_types.specs.declared.output.Dest.{Dest}
use Rattle.nop_types.specs.declared.output.Dest.TheVariants.{Replicas, Sequencers, One}
use Rattle.nop_types.specs.declared.request.Request.{Request}
use Rattle.nop_types.specs.declared.request.Entry.TheVariants.{NoOp, Req}
use Rattle.nop_types.specs.declared.replica_state.Phase.{Phase}
use Rattle.nop_types.specs.declared.replica_state.Phase.TheVariants.{Normal, Change}
use Rattle.transcript_rows.specs.declared.row.Row.{Row}
use Rattle.transcript_rows.specs.declared.row.Row.TheVariants.{Dead, Submit, Accept, Busy, Read, Answer, Sent, State, Slot, Watching}
use Rattle.transcript_rows.specs.declared.row.Row.TheVariants.{Member, End}
use Rattle.transcript_rows.specs.Rows.{RowFits, row_text}
use Rattle.transcript_text.specs.Transcript.{transcript_line}
pub use Rattle.nop_types.specs.Options.{◌>>=◌}

-- ---- fields

-- as many actors as there may be
abbrev pub limits : Configuration
limits = record {
  replicas = MAX_REPLICAS;
  sequencers = MAX_SEQUENCERS;
  clients = MAX_CLIENTS;
  controllers = MAX_CONTROLLERS;
  observers = MAX_OBSERVERS;
}

abbrev pub replica_number : Option Actor → Option ℕ
replica_number (Some (actors.Replica i)) = Some i
replica_number _ = None

abbrev pub client_of : List ℕ → Option ℕ
client_of field = client_number (actor_of limits field)

abbrev pub replica_of : List ℕ → Option ℕ
replica_of field = replica_number (actor_of limits field)

abbrev pub observer_of : List ℕ → Option ℕ
observer_of field = observer_number (actor_of limits field)

abbrev pub word_of : List ℕ → Option ℕ
word_of field = number_below (2 ^ 32) field

abbrev pub to_one : Option Actor → Option Dest
to_one None = None
to_one (Some actor) = Some (One actor)

unfoldable pub dest_of : List ℕ → Option Dest
dest_of field =
    if is_text (codes "r*") field then Some Replicas
    else if is_text (codes "s*") field then Some Sequencers
    else to_one (actor_of limits field)

unfoldable pub kind_of : List ℕ → Option ℕ
kind_of field =
    if is_text (codes "request") field then Some kinds.REQUEST
    else if is_text (codes "stamped") field then Some kinds.STAMPED
    else if is_text (codes "reply") field then Some kinds.REPLY
    else if is_text (codes "install") field then Some kinds.INSTALL
    else if is_text (codes "installed") field then Some kinds.INSTALLED
    else if is_text (codes "ping") field then Some kinds.PING
    else if is_text (codes "pong") field then Some kinds.PONG
    else if is_text (codes "fragment") field then Some kinds.FRAGMENT
    else if is_text (codes "read") field then Some kinds.READ
    else if is_text (codes "answer") field then Some kinds.ANSWER
    else None

abbrev pub crashed_of : List ℕ → Bool
crashed_of field = is_text (codes "crashed") field

abbrev pub status_of : List ℕ → Phase
status_of field = if is_text (codes "normal") field then Normal else Change

-- an op of at most 640 bytes
abbrev pub op_of : List ℕ → Option (List ℕ)
op_of text = if nat_le (length text) 1280 then bytes_of text else None

-- ---- the fields behind the word

-- a client, an id and bytes that are not read yet
abbrev pub pair_of : List (List ℕ) → Option (ℕ × ℕ × List ℕ)
pair_of (client ∷ id ∷ bytes ∷ more) = client_of client >>= λ c. number_of id >>= λ n. Some (c, n, bytes)
pair_of _ = None

abbrev pub request_of : List (List ℕ) → Option Request
request_of rest = pair_of rest >>= λ p. op_of p.2 >>= λ op. Some (record { client = p.0; id = p.1; op = op })

abbrev pub submit_of : List (List ℕ) → Option Row
submit_of rest = request_of rest >>= λ r. Some (Submit r)

abbrev pub accept_of : List (List ℕ) → Option Row
accept_of rest = pair_of rest >>= λ p. bytes_of p.2 >>= λ bytes. Some (Accept p.0 p.1 bytes)

-- a client, an id, an observer and a key that is not read yet
abbrev pub asked_of : List (List ℕ) → Option (ℕ × ℕ × ℕ × List ℕ)
asked_of (client ∷ id ∷ observer ∷ key ∷ more) =
    client_of client >>= λ c. number_of id >>= λ n. observer_of observer >>= λ o. Some (c, n, o, key)
asked_of _ = None

abbrev pub read_of : List (List ℕ) → Option Row
read_of rest = asked_of rest >>= λ p. key_of p.3 >>= λ key. Some (Read p.0 p.1 p.2 key)

-- a client, an id, an observer, a position and bytes that are not read yet
abbrev pub answered_of : List (List ℕ) → Option (ℕ × ℕ × ℕ × ℕ × List ℕ)
answered_of (client ∷ id ∷ observer ∷ position ∷ bytes ∷ more) =
    client_of client >>= λ c. number_of id >>= λ n. observer_of observer >>= λ o. word_of position >>= λ k. Some (c, n, o, k, bytes)
answered_of _ = None

abbrev pub answer_of : List (List ℕ) → Option Row
answer_of rest = answered_of rest >>= λ p. bytes_of p.4 >>= λ result. Some (Answer p.0 p.1 p.2 p.3 result)

abbrev pub member_of : List (List ℕ) → Option Row
member_of (place ∷ rest) = word_of place >>= λ n. request_of rest >>= λ r. Some (Member n r)
member_of _ = None

abbrev pub slot_row : Option ℕ → Option ℕ → Option Request → Option Row
slot_row (Some i) (Some n) (Some r) = Some (Slot i n (Req r))
slot_row _ _ _ = None

abbrev pub no_op_row : Option ℕ → Option ℕ → Option Row
no_op_row (Some i) (Some n) = Some (Slot i n NoOp)
no_op_row _ _ = None

abbrev pub slot_of : List (List ℕ) → Option Row
slot_of (replica ∷ slot ∷ entry ∷ more) =
    if is_text (codes "noop") entry then no_op_row (replica_of replica) (word_of slot)
    else slot_row (replica_of replica) (word_of slot) (request_of (entry ∷ more))
slot_of _ = None

abbrev pub dead_of : List (List ℕ) → Option Row
dead_of (actor ∷ more) = actor_of limits actor >>= λ a. Some (Dead a)
dead_of _ = None

abbrev pub busy_of : List (List ℕ) → Option Row
busy_of (client ∷ more) = client_of client >>= λ c. Some (Busy c)
busy_of _ = None

abbrev pub sent_row : (index from dest kind len : List ℕ) → Option Row
sent_row index from dest kind len =
    number_of index >>= λ i. actor_of limits from >>= λ a. dest_of dest >>= λ d. kind_of kind >>= λ k. word_of len >>= λ n.
    Some (Sent i a d k n)

abbrev pub sent_of : List (List ℕ) → Option Row
sent_of (index ∷ from ∷ dest ∷ kind ∷ len ∷ more) = sent_row index from dest kind len
sent_of _ = None

abbrev pub state_row : (replica up status leader session len sync_point : List ℕ) → Option Row
state_row replica up status leader session len sync_point =
    replica_of replica >>= λ i. word_of leader >>= λ l. number_of session >>= λ s. word_of len >>= λ n. word_of sync_point >>= λ p.
    Some (State i (crashed_of up) (status_of status) (record { leader = l; session = s }) n p)

abbrev pub state_of : List (List ℕ) → Option Row
state_of (replica ∷ up ∷ status ∷ leader ∷ session ∷ len ∷ sync_point ∷ more) = state_row replica up status leader session len sync_point
state_of _ = None

abbrev pub watching_of : List (List ℕ) → Option Row
watching_of (observer ∷ up ∷ position ∷ more) =
    observer_of observer >>= λ o. word_of position >>= λ n. Some (Watching o (crashed_of up) n)
watching_of _ = None

-- ---- by the word that comes first

abbrev pub short_row_of : List ℕ → List (List ℕ) → Option Row
short_row_of word rest =
    if is_text (codes "send") word then sent_of rest
    else if is_text (codes "dead") word then dead_of rest
    else if is_text (codes "busy") word then busy_of rest
    else if is_text (codes "replica") word then state_of rest
    else if is_text (codes "observer") word then watching_of rest
    else if is_text (codes "end") word then Some End
    else None

unfoldable pub row_of_fields : List (List ℕ) → Option Row
row_of_fields [] = None
row_of_fields (word ∷ rest) =
    if is_text (codes "submit") word then submit_of rest
    else if is_text (codes "accept") word then accept_of rest
    else if is_text (codes "entry") word then slot_of rest
    else if is_text (codes "history") word then member_of rest
    else if is_text (codes "read") word then read_of rest
    else if is_text (codes "answer") word then answer_of rest
    else short_row_of word rest

-- ---- the first line

-- the form, and how many controllers and observers there are: form 1 has no count of controllers, and means one, and form 3 alone has
-- one of observers
abbrev pub counts_of : List (List ℕ) → Option (ℕ × ℕ × ℕ)
counts_of [] = Some (1, 1, 0)
counts_of (controllers ∷ k ∷ []) = number_below 256 k >>= λ count. Some (2, count, 0)
counts_of (controllers ∷ k ∷ observers ∷ o ∷ more) =
    number_below 256 k >>= λ count. number_below 256 o >>= λ watching. Some (3, count, watching)
counts_of _ = None

abbrev pub header_with : Option ℕ → Option ℕ → Option ℕ → Option (ℕ × ℕ × ℕ) → Option Header
header_with (Some n) (Some s) (Some c) (Some k) =
    let made : Configuration = record { replicas = n; sequencers = s; clients = c; controllers = k.1; observers = k.2 } in
    if is_configuration made then Some (record { form = k.0; config = made }) else None
header_with _ _ _ _ = None

unfoldable pub header_of_fields : List (List ℕ) → Option Header
header_of_fields (word ∷ form ∷ replicas ∷ n ∷ sequencers ∷ s ∷ clients ∷ c ∷ more) =
    header_with (number_below 256 n) (number_below 256 s) (number_below 256 c) (counts_of more)
header_of_fields _ = None

-- ---- what a line is

-- the row whose text this line and its end are, or there is none
abbrev pub IsRowOf : List ℕ → Option Row → Type 0
IsRowOf line (Some row) = RowFits row × (row_text row ≡ line ++ 10 ∷ [])
IsRowOf line None = (row : Row) → RowFits row → row_text row ≡ line ++ 10 ∷ [] → ⊥

abbrev pub IsHeaderOf : List ℕ → Option Header → Type 0
IsHeaderOf line (Some h) = (is_header h ≡ true) × (transcript_line h.form h.config ≡ line ++ 10 ∷ [])
IsHeaderOf line None = (h : Header) → is_header h ≡ true → transcript_line h.form h.config ≡ line ++ 10 ∷ [] → ⊥
