-- The rows of a run are in their ranges.
use Rattle.std.proofs.Common.{◌≡◌, ◌≤◌, ◌<◌, ◌^◌, ℕ, Bool, true, false, refl, arith, length, slice_index}
use Rattle.std.proofs.Common.{List, Some}
use Rattle.std.specs.Prelude.{◌&&◌, nat_lt, nat_le, slice_get}
use Rattle.std.proofs.lemmas.Bool.{le-leb, lt-ltb}
use Rattle.std.proofs.lemmas.Option.{slice_get_within}
use Rattle.hex.specs.Hex.{IsBytes}
use Rattle.line_fields.specs.Fields.{IsActorOf}
use Rattle.nop_types.specs.Configuration.{Configuration, is_configuration}
use Rattle.nop_types.specs.Lines as lines
use Rattle.nop_types.specs.Lines.{Line}
use Rattle.nop_types.specs.Ranges.{ViewFits}
use Rattle.nop_types.specs.declared.limits.TheConstants.{MAX_CLIENTS, MAX_CONTROLLERS, MAX_OBSERVERS, MAX_REPLICAS, MAX_RESULT_BYTES}
use Rattle.nop_types.specs.declared.limits.TheConstants.{MAX_SEQUENCERS}
use Rattle.nop_types.specs.declared.kinds.TheConstants.{REQUEST, ANSWER}
use Rattle.nop_types.specs.declared.output.Actor.{Actor}
use Rattle.nop_types.specs.declared.output.Actor.TheVariants as actors
use Rattle.nop_types.specs.declared.output.Dest.{Dest}
use Rattle.nop_types.specs.declared.output.Dest.TheVariants.{Replicas, Sequencers, One}
use Rattle.nop_types.specs.declared.replica_state.Phase.{Phase}
use Rattle.nop_types.specs.declared.request.Entry.{Entry}
use Rattle.nop_types.specs.declared.request.Entry.TheVariants.{NoOp, Req}
use Rattle.nop_types.specs.declared.request.Request.{Request}
use Rattle.nop_types.specs.declared.view.View.{View}
use Rattle.network.specs.Network.{Sent}
use Rattle.replay.specs.Destinations.{IsDestOf}
use Rattle.transcript_rows.specs.Rows.{actor_fits, dest_fits, pair_fits, request_fits, entry_fits, row_fits, IsTypedRequest, RowFits}
use Rattle.transcript_rows.specs.LineRows.{row_of}
use Rattle.transcript_rows.specs.declared.row.Row.TheVariants.{Dead, Submit, Accept, Busy, Read, Answer, State, Slot, Watching, Member}
use Rattle.transcript_rows.specs.declared.row.Row.TheVariants as rows
use Rattle.transcript_rows.specs.declared.row.TheConstants.{MAX_SENT_BYTES}
use Rattle.judged_runs.proofs.Datagrams.{IsSpelled}
use Rattle.judged_runs.proofs.Lines.{LineIs}
use Rattle.judged_runs.proofs.Outs.{IsRequest, IsAsked}

pub both : (a b : Bool) → a ≡ true → b ≡ true → a && b ≡ true
both true b e f = f
both false b e f = e

-- ---- actors

-- how many there are of each
pub record Counts (c : Configuration) : Type 0 where
  pub replicas : c.replicas ≤ MAX_REPLICAS
  pub sequencers : c.sequencers ≤ MAX_SEQUENCERS
  pub clients : c.clients ≤ MAX_CLIENTS
  pub controllers : c.controllers ≤ MAX_CONTROLLERS
  pub observers : c.observers ≤ MAX_OBSERVERS

pub counts_of : (c : Configuration) → is_configuration c ≡ true → Counts c
counts_of c e = record {
  replicas = grind (arith, e);
  sequencers = grind (arith, e);
  clients = grind (arith, e);
  controllers = grind (arith, e);
  observers = grind (arith, e);
}

module _ (c : Configuration) (counts : Counts c) where
  actor_in : (a : Actor) → IsActorOf c a → actor_fits a ≡ true
  actor_in (actors.Replica i) h = lt-ltb i MAX_REPLICAS (omega (arith, h, counts.replicas))
  actor_in (actors.Sequencer i) h = lt-ltb i MAX_SEQUENCERS (omega (arith, h, counts.sequencers))
  actor_in (actors.Client i) h = lt-ltb i MAX_CLIENTS (omega (arith, h, counts.clients))
  actor_in (actors.Controller i) h = lt-ltb i MAX_CONTROLLERS (omega (arith, h, counts.controllers))
  actor_in (actors.Observer i) h = lt-ltb i MAX_OBSERVERS (omega (arith, h, counts.observers))

  dest_in : (d : Dest) → IsDestOf c d → dest_fits d ≡ true
  dest_in Replicas h = refl
  dest_in Sequencers h = refl
  dest_in (One a) h = actor_in a h

  pair_in : (client id : ℕ) → client < c.clients → 1 ≤ id → pair_fits client id ≡ true
  pair_in client id own low =
      both (nat_lt client MAX_CLIENTS) (nat_le 1 id) (lt-ltb client MAX_CLIENTS (omega (arith, own, counts.clients))) (le-leb 1 id low)

  typed : (r : Request) → IsRequest c r → IsTypedRequest r
  typed r h = record { id = h.id; bytes = h.bytes; short = h.short }

  request_in : (r : Request) → IsRequest c r → request_fits r ≡ true
  request_in r h = pair_in r.client r.id h.client h.low

  -- ---- lines

  -- what an accepted result needs
  pub record IsResult (k n : ℕ) (result : List ℕ) : Type 0 where
    pub client : k < c.clients
    pub low : 1 ≤ n
    pub id : n < 2 ^ 64
    pub bytes : IsBytes result
    pub short : length result ≤ MAX_RESULT_BYTES

  -- what a result that was read needs
  pub record IsReadResult (k n observer position : ℕ) (result : List ℕ) : Type 0 where
    pub client : k < c.clients
    pub low : 1 ≤ n
    pub id : n < 2 ^ 64
    pub there : observer < c.observers
    pub high : position < 2 ^ 32
    pub bytes : IsBytes result
    pub short : length result ≤ MAX_RESULT_BYTES

  -- what a datagram needs
  pub record IsSent (s : Sent) : Type 0 where
    pub dest : IsDestOf c s.dest
    pub spelled : IsSpelled s.bytes

  pub submit_row : (r : Request) → IsRequest c r → RowFits (Submit r)
  submit_row r h = record { ranges = request_in r h; typed = typed r h }

  accept_row : (client id : ℕ) (result : List ℕ) → IsResult client id result → RowFits (Accept client id result)
  accept_row client id result h = record {
    ranges = both (pair_fits client id) (nat_le (length result) MAX_RESULT_BYTES) (pair_in client id h.client h.low)
        (le-leb (length result) MAX_RESULT_BYTES h.short);
    typed = (h.id, h.bytes);
  }

  read_row : (client id observer : ℕ) (key : List ℕ) → IsAsked c client id observer key → RowFits (Read client id observer key)
  read_row client id observer key h = record {
    ranges = both (pair_fits client id) (nat_lt observer MAX_OBSERVERS) (pair_in client id h.client_there h.low)
        (lt-ltb observer MAX_OBSERVERS (omega (arith, h.observer_there, counts.observers)));
    typed = record { id_fits = h.id_fits; bytes = h.key_is.bytes; some = h.key_is.some; most = h.key_is.most };
  }

  answer_row : (client id observer position : ℕ) (result : List ℕ) → IsReadResult client id observer position result
      → RowFits (Answer client id observer position result)
  answer_row client id observer position result h = record {
    ranges = both (pair_fits client id) _ (pair_in client id h.client h.low)
        (both (nat_lt observer MAX_OBSERVERS) (nat_le (length result) MAX_RESULT_BYTES)
        (lt-ltb observer MAX_OBSERVERS (omega (arith, h.there, counts.observers))) (le-leb (length result) MAX_RESULT_BYTES h.short));
    typed = record { id_fits = h.id; position_fits = h.high; bytes = h.bytes };
  }

  sent_row : (index : ℕ) (from : Actor) (dest : Dest) (bytes : List ℕ) → IsActorOf c from → index < 2 ^ 64
      → IsSent (record { from = from; dest = dest; bytes = bytes })
      → RowFits (rows.Sent index from dest (slice_index bytes 3) (length bytes))
  sent_row index from dest bytes there small h = record {
    ranges =
        let kind : ℕ = slice_index bytes 3 in
        both (actor_fits from) _ (actor_in from there)
        (both (dest_fits dest) _ (dest_in dest h.dest)
        (both (nat_le REQUEST kind) _ (le-leb REQUEST kind h.spelled.least)
        (both (nat_le kind ANSWER) _ (le-leb kind ANSWER h.spelled.most)
        (le-leb (length bytes) MAX_SENT_BYTES h.spelled.short))));
    typed = small;
  }

  pub line_row : (sent : List Sent) (l : Line) → LineIs c sent l → length sent ≤ 2 ^ 64
      → ((client id : ℕ) (result : List ℕ) → l ≡ lines.Accept client id result → IsResult client id result)
      → ((client id observer position : ℕ) (result : List ℕ) → l ≡ lines.Answer client id observer position result
      → IsReadResult client id observer position result)
      → ((s : Sent) (i : ℕ) → slice_get sent i ≡ Some s → IsSent s) → RowFits (row_of l)
  line_row sent (lines.Dead actor) h few accepts answers sends = record { ranges = actor_in actor h; typed = tt }
  line_row sent (lines.Submit r) h few accepts answers sends = submit_row r h
  line_row sent (lines.Accept client id result) h few accepts answers sends = accept_row client id result (accepts client id result refl)
  line_row sent (lines.Busy client) h few accepts answers sends =
      record { ranges = lt-ltb client MAX_CLIENTS (omega (arith, h, counts.clients)); typed = tt }
  line_row sent (lines.Read client id observer key) h few accepts answers sends = read_row client id observer key h
  line_row sent (lines.Answer client id observer position result) h few accepts answers sends =
      answer_row client id observer position result (answers client id observer position result refl)
  line_row sent (lines.Send index from dest bytes) h few accepts answers sends =
      let near = slice_get_within sent index (record { from = from; dest = dest; bytes = bytes }) h.1 in
      sent_row index from dest bytes h.0 (omega (arith, near, few)) (sends _ index h.1)

  -- ---- the lines at the end

  -- an entry is a NO-OP, or such a request
  abbrev pub EntryIs : Entry → Type 0
  EntryIs NoOp = Unit {0}
  EntryIs (Req r) = IsRequest c r

  pub state_row : (i : ℕ) (crashed : Bool) (status : Phase) (v : View) (len sync_point : ℕ) → i < c.replicas → ViewFits v → len < 2 ^ 32
      → sync_point < 2 ^ 32 → RowFits (State i crashed status v len sync_point)
  state_row i crashed status v len sync_point own view short point = record {
    ranges = both (nat_lt i MAX_REPLICAS) (nat_le 1 v.session) (lt-ltb i MAX_REPLICAS (omega (arith, own, counts.replicas)))
        (le-leb 1 v.session view.session.low);
    typed = record { leader = view.leader; session = view.session.high; len_fits = short; point_fits = point };
  }

  entry_in : (e : Entry) → EntryIs e → entry_fits e ≡ true
  entry_in NoOp h = refl
  entry_in (Req r) h = request_in r h

  slot_typed : (i slot : ℕ) (e : Entry) → EntryIs e → slot < 2 ^ 32 → row_fits (Slot i slot e) ≡ true → RowFits (Slot i slot e)
  slot_typed i slot NoOp h high ranges = record { ranges = ranges; typed = (high, tt) }
  slot_typed i slot (Req r) h high ranges = record { ranges = ranges; typed = (high, typed r h) }

  pub slot_row : (i slot : ℕ) (e : Entry) → i < c.replicas → 1 ≤ slot → slot < 2 ^ 32 → EntryIs e → RowFits (Slot i slot e)
  slot_row i slot e own low high h =
      slot_typed i slot e h high
      (both (nat_lt i MAX_REPLICAS) _ (lt-ltb i MAX_REPLICAS (omega (arith, own, counts.replicas)))
      (both (nat_le 1 slot) (entry_fits e) (le-leb 1 slot low) (entry_in e h)))

  pub watching_row : (i : ℕ) (crashed : Bool) (position : ℕ) → i < c.observers → position < 2 ^ 32 → RowFits (Watching i crashed position)
  watching_row i crashed position own high =
      record { ranges = lt-ltb i MAX_OBSERVERS (omega (arith, own, counts.observers)); typed = high }

  pub member_row : (place : ℕ) (r : Request) → 1 ≤ place → place < 2 ^ 32 → IsRequest c r → RowFits (Member place r)
  member_row place r low high h =
      record { ranges = both (nat_le 1 place) (request_fits r) (le-leb 1 place low) (request_in r h); typed = (high, typed r h) }
