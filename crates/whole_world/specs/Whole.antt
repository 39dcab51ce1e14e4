-- The whole world: replicas keep all of their logs, and peer messages travel whole.
use Rattle.std.specs.Prelude.{◌≡◌, ℕ, ◌+◌, ◌≤◌, List, [], ◌∷◌, ◌++◌, length, map, take, Bool, true, false, cond, Option, Some, None}
use Rattle.std.specs.Prelude.{Result, Ok, Err, nat_lt, ◌==◌, ◌&&◌, slice_get, slice_set}
use Rattle.std.specs.List.{list_any}
use Rattle.std.specs.Str.{bytes_eq}
use Rattle.nop_types.specs.Configuration.{Configuration}
use Rattle.nop_types.specs.Logs.{Whole}
use Rattle.nop_types.specs.Meaning.{Meaning}
use Rattle.nop_types.specs.Given.{Given, Packet, Ticked, Submit, Read}
use Rattle.nop_types.specs.Lines.{Line}
use Rattle.nop_types.specs.Lines as lines
use Rattle.nop_types.specs.Histories.{history_of}
use Rattle.nop_types.specs.Lists.{IsPrefixOf, slot_of}
use Rattle.nop_types.specs.Views.{leader_of}
use Rattle.nop_types.specs.declared.datagram.Datagram.{Datagram}
use Rattle.nop_types.specs.declared.datagram.Datagram.TheVariants as datagrams
use Rattle.nop_types.specs.declared.input.Tick.{Tick}
use Rattle.nop_types.specs.declared.output.Actor.{Actor}
use Rattle.nop_types.specs.declared.output.Actor.TheVariants as actors
use Rattle.nop_types.specs.declared.output.Dest.{Dest}
use Rattle.nop_types.specs.declared.output.Out.{Out}
use Rattle.nop_types.specs.declared.output.Out.TheVariants as outs
use Rattle.nop_types.specs.declared.peer.Peer.{Peer}
use Rattle.nop_types.specs.declared.request.Entry.{Entry}
use Rattle.nop_types.specs.declared.request.Request.{Request}
use Rattle.nop_types.specs.declared.view.View.{View}
use Rattle.oum_codec.specs.declared.bad.Bad.{Bad}
use Rattle.oum_codec.specs.Reading.{reading}
use Rattle.replica_state.specs.declared.sending.Sending.{Sending}
use Rattle.replica_state.specs.declared.sending.Sending.TheVariants.{ToClient, ToReplicas}
use Rattle.replica_state.specs.declared.state.ReplicaState.{ReplicaState}
use Rattle.replica_state.specs.State as state
use Rattle.replica_state.specs.Sends.{Effect, still, message_count}
use Rattle.replica_rows.specs.Messages as messages
use Rattle.replica_core.specs.declared.replica.TheConstants.{LAST_MESSAGE}
use Rattle.replica_core.specs.Posting.{reply_out}
use Rattle.network.specs.Network.{Sent, sends_of}
use Rattle.world.specs.Others.{Kind, State, next, Others, seats, with_seat, Who, AReplica, Another, who, actor_at}
use Rattle.world.specs.Seats.{Seated, seated}
use Rattle.transcript_text.specs.Transcript.{replica_line}
use Rattle.world.specs.StateLines.{entries_text}
use Rattle.world.specs.WorldSteps.{numbered_seats, opening_others, greatest_of}

-- its state, and the last message number that it used
pub record WholeReplica : Type 0 where
  pub state : ReplicaState
  pub messages : ℕ

-- a peer message, whole, with its number
pub record Letter : Type 0 where
  pub number : ℕ
  pub dest : Dest
  pub peer : Peer

pub record WholeWorld : Type 0 where
  pub config : Configuration
  pub replicas : List (Seated WholeReplica)
  pub others : Others
  -- all datagrams that are no fragments
  pub sent : List Sent
  pub letters : List Letter
  -- those that submit, accept, or find a client busy
  pub lines : List Line

-- what an event delivers to its actor: nothing that others said but what was said here, and answers to reads, whoever gives them
pub data Brings : Type 0 where
  Nothing : Brings
  Op : (op : List ℕ) → Brings
  -- a key, of the observer with this number
  Ask : (observer : ℕ) → (key : List ℕ) → Brings
  Timer : Tick → Brings
  -- bytes that spell no datagram
  Junk : (bytes : List ℕ) → Brings
  -- the datagram with these bytes
  Equal : (bytes : List ℕ) → Brings
  -- bytes that spell an answer
  Heard : (bytes : List ℕ) → Brings
  -- the message of this sender and number
  Message : (sender number : ℕ) → Brings
  Crash : Brings

-- ---- looked up, so that nothing but an answer comes that was not sent here

abbrev pub was_sent : List Sent → List ℕ → Bool
was_sent sent bytes = list_any (λ s. bytes_eq s.bytes bytes) sent

abbrev pub given_if : Bool → List ℕ → Option Given
given_if true bytes = Some (Packet bytes)
given_if false bytes = None

-- no datagram is forged
abbrev pub junk_if : Result Datagram Bad → List ℕ → Option Given
junk_if (Ok d) bytes = None
junk_if (Err e) bytes = Some (Packet bytes)

-- an answer may come from anywhere, since no observer is here
abbrev pub heard_if : Result Datagram Bad → List ℕ → Option Given
heard_if (Ok (datagrams.Answer a)) bytes = Some (Packet bytes)
heard_if _ bytes = None

abbrev pub letter_of : List Letter → ℕ → ℕ → Option Peer
letter_of [] q n = None
letter_of (x ∷ xs) q n = cond ((x.peer.sender == q) && (x.number == n)) (Some x.peer) (letter_of xs q n)

-- an input, but for peer messages
abbrev pub input_of : List Sent → Brings → Option Given
input_of sent (Op op) = Some (Submit op)
input_of sent (Ask observer key) = Some (Read observer key)
input_of sent (Timer tick) = Some (Ticked tick)
input_of sent (Junk bytes) = junk_if (reading bytes) bytes
input_of sent (Equal bytes) = given_if (was_sent sent bytes) bytes
input_of sent (Heard bytes) = heard_if (reading bytes) bytes
input_of sent _ = None

abbrev pub message_if : Option Peer → Option messages.Arrival
message_if None = None
message_if (Some p) = Some (messages.PeerMessage p)

abbrev pub arrival_read : Result Datagram Bad → Option messages.Arrival
arrival_read (Ok (datagrams.Stamped p)) = Some (messages.Packet p)
arrival_read _ = None

abbrev pub arrival_given : Option Given → Option messages.Arrival
arrival_given (Some (Packet bytes)) = arrival_read (reading bytes)
arrival_given (Some (Ticked tick)) = Some (messages.Ticked tick)
arrival_given _ = None

-- what arrives at a replica
abbrev pub arrival_of : WholeWorld → Brings → Option messages.Arrival
arrival_of w (Message q n) = message_if (letter_of w.letters q n)
arrival_of w (Timer tick) = Some (messages.Ticked tick)
arrival_of w (Junk bytes) = arrival_given (input_of w.sent (Junk bytes))
arrival_of w (Equal bytes) = arrival_given (input_of w.sent (Equal bytes))
arrival_of w _ = None

-- ---- steps

-- the messages of a row, each under the number after the one before it, and the replies
abbrev pub letters_in : ℕ → List Sending → List Letter
letters_in number [] = []
letters_in number (ToReplicas dest p ∷ sends) = record { number = number + 1; dest = dest; peer = p } ∷ letters_in (number + 1) sends
letters_in number (_ ∷ sends) = letters_in number sends

abbrev pub replies_in : List Sending → List Out
replies_in [] = []
replies_in (ToClient r ∷ sends) = reply_out r ∷ replies_in sends
replies_in (_ ∷ sends) = replies_in sends

-- the lines of which the whole world speaks
abbrev pub lines_of : List Out → List Line
lines_of [] = []
lines_of (outs.Submitted r ∷ rest) = lines.Submit r ∷ lines_of rest
lines_of (outs.Accepted client id result ∷ rest) = lines.Accept client id result ∷ lines_of rest
lines_of (outs.Busy client ∷ rest) = lines.Busy client ∷ lines_of rest
lines_of (_ ∷ rest) = lines_of rest

abbrev pub is_crash : Brings → Bool
is_crash Crash = true
is_crash _ = false

-- the step of another actor, at its seat
abbrev pub acted : {A : Type 0} → (A → Given → A × List Out) → Seated A → Option Given → Seated A × List Out
acted next p None = (p, [])
acted next p (Some i) = (seated (next p.state i).0, (next p.state i).1)

abbrev pub live : {A : Type 0} → (A → Given → A × List Out) → Seated A → Bool → Option Given → Seated A × List Out
live next p true i = (record p { crashed = true }, [])
live next p false i = acted next p i

abbrev pub at_seat : {A : Type 0} → (A → Given → A × List Out) → Seated A → Bool → Bool → Option Given → Seated A × List Out
at_seat next p true crash i = (p, [])
at_seat next p false crash i = live next p crash i

abbrev pub seat_of : {A : Type 0} → (A → Given → A × List Out) → Seated A → Brings → Option Given → Seated A × List Out
seat_of next p b i = at_seat next p p.crashed (is_crash b) i

abbrev pub gave : WholeWorld → Actor → List Out → WholeWorld → WholeWorld
gave old from os new = record new { sent = old.sent ++ sends_of from os; lines = old.lines ++ lines_of os }

abbrev pub step_other : (k : Kind) → WholeWorld → ℕ → Option (Seated (State k)) → Brings → WholeWorld
step_other k w i None b = w
step_other k w i (Some p) b =
    let r : Seated (State k) × List Out = seat_of (next k) p b (input_of w.sent b) in
    gave w (actor_at (Another k i)) r.1 (record w { others = with_seat k w.others i r.0 })

-- ---- a replica's step, and one event

abbrev pub after_row : WholeReplica → Effect → WholeReplica
after_row r e = record { state = e.0; messages = r.messages + message_count e.1 }

-- what a row makes of the world: its messages are letters, its replies datagrams
abbrev pub posts : WholeWorld → ℕ → WholeReplica → Effect → WholeWorld
posts w i r e =
    record w {
      replicas = slice_set w.replicas i (seated (after_row r e));
      sent = w.sent ++ sends_of (actors.Replica i) (replies_in e.1);
      letters = w.letters ++ letters_in r.messages e.1;
    }

module _ {S : Type 0} (m : Meaning S) where
  -- a row, while message numbers are left; over whole logs
  abbrev pub row_if : Bool → ReplicaState → messages.Arrival → Effect
  row_if true s a = messages.arrive m Whole s a
  row_if false s a = still s

  abbrev pub effect_of : WholeReplica → Option messages.Arrival → Effect
  effect_of r None = still r.state
  effect_of r (Some a) = row_if (nat_lt r.messages LAST_MESSAGE) r.state a

  abbrev pub live_replica : WholeWorld → ℕ → Seated WholeReplica → Bool → Brings → WholeWorld
  live_replica w i p true b = record w { replicas = slice_set w.replicas i (record p { crashed = true }) }
  live_replica w i p false b = posts w i p.state (effect_of p.state (arrival_of w b))

  -- a crashed one takes no step
  abbrev pub at_replica : WholeWorld → ℕ → Seated WholeReplica → Bool → Brings → WholeWorld
  at_replica w i p true b = w
  at_replica w i p false b = live_replica w i p (is_crash b) b

  abbrev pub step_replica : WholeWorld → ℕ → Option (Seated WholeReplica) → Brings → WholeWorld
  step_replica w i None b = w
  step_replica w i (Some p) b = at_replica w i p p.crashed b

  -- no observer is there
  abbrev pub step_of : WholeWorld → Who → Brings → WholeWorld
  step_of w (AReplica i) b = step_replica w i (slice_get w.replicas i) b
  step_of w (Another k i) b = step_other k w i (slice_get (seats k w.others) i) b
  step_of w _ b = w

  -- what an event delivers to its actor
  abbrev pub whole_step : WholeWorld → Actor → Brings → WholeWorld
  whole_step w actor b = step_of w (who actor) b

  abbrev pub whole_run : WholeWorld → List (Actor × Brings) → WholeWorld
  whole_run w [] = w
  whole_run w (e ∷ es) = whole_run (whole_step w e.0 e.1) es

abbrev pub opening_replica : Configuration → ℕ → WholeReplica
opening_replica c i = record { state = state.opening c i; messages = 0 }

abbrev pub opening : Configuration → WholeWorld
opening c =
    record {
      config = c;
      replicas = numbered_seats (opening_replica c) c.replicas;
      others = opening_others c;
      sent = [];
      letters = [];
      lines = [];
    }

-- ---- what is read from it

abbrev pub main_view : WholeWorld → View
main_view w = greatest_of (map (λ p. p.state.state.last_normal) w.replicas)

abbrev pub log_of : Option (Seated WholeReplica) → List Entry
log_of None = []
log_of (Some p) = p.state.state.log.entries

-- the log of the leader of the greatest last normal view
abbrev pub main_log : WholeWorld → List Entry
main_log w = log_of (slice_get w.replicas (leader_of (main_view w) w.config.replicas))

abbrev pub history : WholeWorld → List Request
history w = history_of (main_log w)

-- the lines of a replica, and of its entries up to its sync point
abbrev pub replica_text : ℕ → Seated WholeReplica → List ℕ
replica_text i p =
    let s : ReplicaState = p.state.state in
    replica_line i p.crashed s.status s.view (length s.log.entries) s.sync.sync_point
    ++ entries_text i 1 (take s.sync.sync_point s.log.entries)

abbrev pub replicas_text : ℕ → List (Seated WholeReplica) → List ℕ
replicas_text i [] = []
replicas_text i (p ∷ ps) = replica_text i p ++ replicas_text (i + 1) ps

-- replicas agree as far as they are synchronised
pub record Agreed (w : WholeWorld) : Type 0 where
  pub pairs : (i j slot : ℕ) (a b : Seated WholeReplica) → slice_get w.replicas i ≡ Some a → slice_get w.replicas j ≡ Some b
      → slot ≤ a.state.state.sync.sync_point → slot ≤ b.state.state.sync.sync_point
      → slot_of a.state.state.log.entries slot ≡ slot_of b.state.state.log.entries slot
  pub main : (i : ℕ) (a : Seated WholeReplica) → slice_get w.replicas i ≡ Some a
      → IsPrefixOf (take a.state.state.sync.sync_point a.state.state.log.entries) (main_log w)
