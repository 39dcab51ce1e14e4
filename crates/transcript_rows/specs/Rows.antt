-- The text of a row, and the ranges of its numbers.
use Rattle.std.specs.Prelude.{◌≡◌, ℕ, ◌<◌, ◌≤◌, ◌^◌, ⊤, List, [], ◌∷◌, length, codes, decimal, Bool, true, false, ◌&&◌, nat_lt, nat_le}
use Rattle.hex.specs.Hex.{IsBytes}
use Rattle.nop_types.specs.declared.limits.TheConstants.{MAX_CLIENTS, MAX_KEY_BYTES, MAX_OP_BYTES, MAX_REPLICAS, MAX_RESULT_BYTES}
use Rattle.nop_types.specs.declared.limits.TheConstants.{MAX_SEQUENCERS, MAX_CONTROLLERS, MAX_OBSERVERS}
use Rattle.nop_types.specs.declared.kinds.TheConstants.{REQUEST, ANSWER}
use Rattle.nop_types.specs.declared.output.Actor.{Actor}
use Rattle.nop_types.specs.declared.output.Actor.TheVariants.{Replica, Sequencer, Client, Controller, Observer}
use Rattle.nop_types.specs.declared.output.Dest.{Dest}
use Rattle.nop_types.specs.declared.output.Dest.TheVariants.{Replicas, Sequencers, One}
use Rattle.nop_types.specs.declared.request.Request.{Request}
use Rattle.nop_types.specs.declared.view.View.{View}
use Rattle.nop_types.specs.declared.request.Entry.{Entry}
use Rattle.nop_types.specs.declared.request.Entry.TheVariants.{NoOp, Req}
use Rattle.transcript_rows.specs.declared.row.Row.{Row}
use Rattle.transcript_rows.specs.declared.row.Row.TheVariants.{Dead, Submit, Accept, Busy, Read, Answer, Sent, State, Slot, Watching}
use Rattle.transcript_rows.specs.declared.row.Row.TheVariants.{Member, End}
use Rattle.transcript_rows.specs.declared.row.TheConstants.{MAX_SENT_BYTES}
use Rattle.transcript_text.specs.LineText.{line_of}
use Rattle.transcript_text.specs.Transcript.{actor_text, client_text, observer_text, dest_text, hex_text, kind_text, phase_text, up_text}

-- ---- its text

abbrev pub row_word : Row → List ℕ
row_word (Dead actor) = codes "dead"
row_word (Submit request) = codes "submit"
row_word (Accept client id result) = codes "accept"
row_word (Busy client) = codes "busy"
row_word (Read client id observer key) = codes "read"
row_word (Answer client id observer position result) = codes "answer"
row_word (Sent index from dest kind len) = codes "send"
row_word (State replica crashed status view len sync_point) = codes "replica"
row_word (Slot replica slot entry) = codes "entry"
row_word (Watching observer crashed position) = codes "observer"
row_word (Member place request) = codes "history"
row_word End = codes "end"

abbrev pub request_fields : Request → List (List ℕ)
request_fields r = client_text r.client ∷ decimal r.id ∷ hex_text r.op ∷ []

abbrev pub entry_fields : Entry → List (List ℕ)
entry_fields NoOp = codes "noop" ∷ []
entry_fields (Req r) = request_fields r

-- the fields behind the word
abbrev pub row_fields : Row → List (List ℕ)
row_fields (Dead actor) = actor_text actor ∷ []
row_fields (Submit request) = request_fields request
row_fields (Accept client id result) = client_text client ∷ decimal id ∷ hex_text result ∷ []
row_fields (Busy client) = client_text client ∷ []
row_fields (Read client id observer key) = client_text client ∷ decimal id ∷ observer_text observer ∷ hex_text key ∷ []
row_fields (Answer client id observer position result) =
    client_text client ∷ decimal id ∷ observer_text observer ∷ decimal position ∷ hex_text result ∷ []
row_fields (Sent index from dest kind len) = decimal index ∷ actor_text from ∷ dest_text dest ∷ kind_text kind ∷ decimal len ∷ []
row_fields (State replica crashed status view len sync_point) =
    actor_text (Replica replica) ∷ up_text crashed ∷ phase_text status ∷ decimal view.leader ∷ decimal view.session
    ∷ decimal len ∷ decimal sync_point ∷ []
row_fields (Slot replica slot entry) = actor_text (Replica replica) ∷ decimal slot ∷ entry_fields entry
row_fields (Watching observer crashed position) = observer_text observer ∷ up_text crashed ∷ decimal position ∷ []
row_fields (Member place request) = decimal place ∷ request_fields request
row_fields End = []

-- with the end of the line
unfoldable pub row_text : Row → List ℕ
row_text row = line_of (row_word row) (row_fields row)

-- how an actor stands at the end, what its log has, the history, and the last row
abbrev pub is_final : Row → Bool
is_final (State replica crashed status view len sync_point) = true
is_final (Slot replica slot entry) = true
is_final (Watching observer crashed position) = true
is_final (Member place request) = true
is_final End = true
is_final _ = false

-- ---- its ranges

abbrev pub actor_fits : Actor → Bool
actor_fits (Replica i) = nat_lt i MAX_REPLICAS
actor_fits (Sequencer i) = nat_lt i MAX_SEQUENCERS
actor_fits (Client i) = nat_lt i MAX_CLIENTS
actor_fits (Controller i) = nat_lt i MAX_CONTROLLERS
actor_fits (Observer i) = nat_lt i MAX_OBSERVERS

abbrev pub dest_fits : Dest → Bool
dest_fits Replicas = true
dest_fits Sequencers = true
dest_fits (One actor) = actor_fits actor

-- ids count from 1
abbrev pub pair_fits : ℕ → ℕ → Bool
pair_fits client id = nat_lt client MAX_CLIENTS && nat_le 1 id

abbrev pub request_fits : Request → Bool
request_fits r = pair_fits r.client r.id

abbrev pub entry_fits : Entry → Bool
entry_fits NoOp = true
entry_fits (Req r) = request_fits r

-- names within the limits of a configuration, slots and sessions from 1
abbrev pub row_fits : Row → Bool
row_fits (Dead actor) = actor_fits actor
row_fits (Submit request) = request_fits request
row_fits (Accept client id result) = pair_fits client id && nat_le (length result) MAX_RESULT_BYTES
row_fits (Busy client) = nat_lt client MAX_CLIENTS
row_fits (Read client id observer key) = pair_fits client id && nat_lt observer MAX_OBSERVERS
row_fits (Answer client id observer position result) =
    pair_fits client id && (nat_lt observer MAX_OBSERVERS && nat_le (length result) MAX_RESULT_BYTES)
row_fits (Sent index from dest kind len) =
    actor_fits from && (dest_fits dest && (nat_le REQUEST kind && (nat_le kind ANSWER && nat_le len MAX_SENT_BYTES)))
row_fits (State replica crashed status view len sync_point) = nat_lt replica MAX_REPLICAS && nat_le 1 view.session
row_fits (Slot replica slot entry) = nat_lt replica MAX_REPLICAS && (nat_le 1 slot && entry_fits entry)
row_fits (Watching observer crashed position) = nat_lt observer MAX_OBSERVERS
row_fits (Member place request) = nat_le 1 place && request_fits request
row_fits End = true

-- ---- what the types keep

pub record IsTypedRequest (r : Request) : Type 0 where
  pub id : r.id < 2 ^ 64
  pub bytes : IsBytes r.op
  pub short : length r.op ≤ MAX_OP_BYTES

abbrev pub IsTypedEntry : Entry → Type 0
IsTypedEntry NoOp = ⊤
IsTypedEntry (Req r) = IsTypedRequest r

pub record IsTypedRead (id : ℕ) (key : List ℕ) : Type 0 where
  pub id_fits : id < 2 ^ 64
  pub bytes : IsBytes key
  pub some : 1 ≤ length key
  pub most : length key ≤ MAX_KEY_BYTES

pub record IsTypedAnswer (id position : ℕ) (result : List ℕ) : Type 0 where
  pub id_fits : id < 2 ^ 64
  pub position_fits : position < 2 ^ 32
  pub bytes : IsBytes result

-- a view, a length and a sync point
pub record IsTypedState (view : View) (len sync_point : ℕ) : Type 0 where
  pub leader : view.leader < 2 ^ 32
  pub session : view.session < 2 ^ 64
  pub len_fits : len < 2 ^ 32
  pub point_fits : sync_point < 2 ^ 32

abbrev pub IsTyped : Row → Type 0
IsTyped (Submit request) = IsTypedRequest request
IsTyped (Accept client id result) = (id < 2 ^ 64) × IsBytes result
IsTyped (Read client id observer key) = IsTypedRead id key
IsTyped (Answer client id observer position result) = IsTypedAnswer id position result
IsTyped (Sent index from dest kind len) = index < 2 ^ 64
IsTyped (State replica crashed status view len sync_point) = IsTypedState view len sync_point
IsTyped (Slot replica slot entry) = (slot < 2 ^ 32) × IsTypedEntry entry
IsTyped (Watching observer crashed position) = position < 2 ^ 32
IsTyped (Member place request) = (place < 2 ^ 32) × IsTypedRequest request
IsTyped _ = ⊤

-- each number is in its range, and an op or a result is not too long
pub record RowFits (row : Row) : Type 0 where
  pub ranges : row_fits row ≡ true
  pub typed : IsTyped row
