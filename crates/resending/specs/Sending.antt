-- The parts that go to a port, and what each call does to them.
use Rattle.std.specs.Prelude.{ℕ, ◌+◌, ◌-◌, ◌*◌, ◌/◌, ◌^◌, ◌==◌, ◌&&◌, ◌||◌, not, min, max, nat_lt, nat_le, Bool, false}
use Rattle.std.specs.Prelude.{if◌then◌else◌, List, [], ◌∷◌, ◌++◌, drop, find, length, slice_get, Option, Some, None, option_map}
use Rattle.resending.specs.declared.acks.Ack.{Ack}
use Rattle.resending.specs.declared.backlog.Part.{Part}
use Rattle.resending.specs.declared.backlog.TheConstants.{MOST_WAITING}
use Rattle.resending.specs.declared.flight.Sending.{Sending}
use Rattle.resending.specs.declared.flight.Sent.{Sent}
use Rattle.resending.specs.declared.flight.TheConstants.{MOST_WINDOW}
use Rattle.resending.specs.declared.flow.TheConstants.{FIRST_WINDOW, SILENCE_MICROS}
use Rattle.resending.specs.declared.round_trip.RoundTrip.{RoundTrip}
use Rattle.resending.specs.declared.topics.Choice.{Choice}
use Rattle.resending.specs.declared.topics.Choice.TheVariants.{Goes, Refused, Replaces}
use Rattle.resending.specs.declared.topics.Topics.{Topics}
use Rattle.resending.specs.Acks.{newest}
use Rattle.resending.specs.Flights.{is_it, left, resent_at, with_first}
use Rattle.resending.specs.Names.{name_of, topic_of}
use Rattle.resending.specs.RoundTrips.{measured, on_the_way, timeout, unmeasured}
use Rattle.resending.specs.Topics.{begun, choice, no_topics, refusing}

-- the parts that wait and those in flight; which messages go; the round trip; how many may be in flight that are not on the way; the
-- time, and that of the last acknowledgement; how many were sent, and the last of these that was acknowledged; the millisecond of the
-- last one, and how many were sent in it
pub record Outgoing : Type 0 where
  pub waiting : List Part
  pub flight : List Sent
  pub topics : Topics
  pub trip : RoundTrip
  pub window : ℕ
  pub time : ℕ
  pub heard : ℕ
  pub serial : ℕ
  pub reached : ℕ
  pub tick : ℕ
  pub paced : ℕ

abbrev pub opening : Outgoing
opening = record {
  waiting = [];
  flight = [];
  topics = no_topics;
  trip = unmeasured;
  window = FIRST_WINDOW;
  time = 0;
  heard = 0;
  serial = 0;
  reached = 0;
  tick = 0;
  paced = 0;
}

abbrev pub is_at_rest : Outgoing → Bool
is_at_rest f = (length f.waiting == 0) && (length f.flight == 0)

-- ---- how many go

-- so many in a millisecond: 16 with the whole window, the others' share with a smaller one
abbrev pub pace : Outgoing → ℕ
pace f = max (f.window * 4 / 9) 1

abbrev pub paced_now : Outgoing → ℕ
paced_now f = if f.tick == f.time / 1000 then f.paced else 0

-- what the port has room for, and what is on the way
abbrev pub room : Outgoing → ℕ
room f = f.window + on_the_way (pace f) f.trip

abbrev pub is_pressing : Outgoing → Bool
is_pressing f = nat_lt 0 (length f.waiting) && nat_lt (length f.flight) (room f)

-- within the window at once, and past it at its pace
abbrev pub has_room : Outgoing → Bool
has_room f = nat_lt (length f.flight) f.window || (nat_lt (length f.flight) (room f) && nat_lt (paced_now f) (pace f))

abbrev pub at_time : ℕ → Outgoing → Outgoing
at_time now f = record f { time = max f.time now }

-- nothing is on its way any more
abbrev pub given_up : Outgoing → Outgoing
given_up f = record f { waiting = []; flight = []; window = FIRST_WINDOW }

-- ---- a part comes

abbrev pub choice_for : List ℕ → Outgoing → Choice
choice_for bytes f = choice (is_at_rest f) (name_of bytes).message (topic_of bytes) f.topics

abbrev pub made_way : Choice → Outgoing → Outgoing
made_way Replaces f = given_up f
made_way Goes f = f
made_way Refused f = f

abbrev pub has_space : Outgoing → Bool
has_space f = nat_lt (length f.waiting) MOST_WAITING

abbrev pub is_let_in : Choice → Outgoing → Bool
is_let_in Goes f = has_space f
is_let_in Replaces f = has_space (given_up f)
is_let_in Refused f = false

-- whether it goes: its message is not refused, and there is space
abbrev pub is_admitted : List ℕ → Outgoing → Bool
is_admitted bytes f = is_let_in (choice_for bytes f) f

-- it waits behind the others; where nothing was on its way, the port's silence counts from now on
abbrev pub kept : ℕ → List ℕ → Outgoing → Outgoing
kept port bytes f =
    record f {
      waiting = f.waiting ++ record { port = port; name = name_of bytes; bytes = bytes } ∷ [];
      topics = begun (name_of bytes).message (topic_of bytes) f.topics;
      heard = if is_at_rest f then f.time else f.heard;
    }

abbrev pub admitted : ℕ → List ℕ → Outgoing → Outgoing
admitted port bytes f = kept port bytes (made_way (choice_for bytes f) f)

-- what its message has more is refused too
abbrev pub away : List ℕ → Outgoing → Outgoing
away bytes f = record f { topics = refusing (name_of bytes).message f.topics }

abbrev pub turned_away : List ℕ → Outgoing → Outgoing
turned_away bytes f = away bytes (made_way (choice_for bytes f) f)

-- ---- a part is sent

abbrev pub counted : Outgoing → Outgoing
counted f = record f {
  paced = min (paced_now f + 1) (2 ^ 64 - 1);
  tick = f.time / 1000;
  serial = min (f.serial + 1) (2 ^ 64 - 1);
}

abbrev pub first_sending : Outgoing → Sending
first_sending f = record { at = f.time; wait = timeout f.trip; serial = min (f.serial + 1) (2 ^ 64 - 1); is_again = false }

-- the first one that waits is the last in flight then
abbrev pub advanced : Outgoing → Outgoing
advanced f =
    record (counted f) { waiting = drop 1 f.waiting; flight = with_first (slice_get f.waiting 0) (first_sending f) f.flight }

-- ---- parts are sent again

-- its time is over, and the pace allows it; behind what was acknowledged only the first one in flight goes again
abbrev pub is_due : ℕ → Outgoing → Option Sent → Bool
is_due i f None = false
is_due i f (Some s) =
    ((i == 0) || nat_le s.sending.serial f.reached) && nat_le s.sending.wait (f.time - s.sending.at)
    && nat_lt (paced_now f) (pace f)

abbrev pub sent_again : ℕ → Outgoing → Outgoing
sent_again i f = record (counted f) { flight = resent_at i f.time (counted f).serial f.flight }

abbrev pub resent : ℕ → Outgoing → Outgoing
resent i f = if is_due i f (slice_get f.flight i) then sent_again i f else f

-- ---- a turn begins

-- where the port was silent for so long, nothing is on its way any more
abbrev pub is_silent : Outgoing → Bool
is_silent f = not (is_at_rest f) && nat_le SILENCE_MICROS (f.time - f.heard)

abbrev pub turn_begun : ℕ → Outgoing → Outgoing
turn_begun now f = if is_silent (at_time now f) then given_up (at_time now f) else at_time now f

-- ---- the port acknowledges parts

-- what the newest of them tells: the round trip, where it was sent once
abbrev pub told : Option Sending → Outgoing → Outgoing
told None f = f
told (Some s) f =
    record f { trip = if s.is_again then f.trip else measured (f.time - s.at) f.trip; reached = max f.reached s.serial }

abbrev pub windowed : ℕ → Outgoing → Outgoing
windowed window f = record f { window = if is_at_rest f then FIRST_WINDOW else min window MOST_WINDOW; heard = f.time }

abbrev pub acknowledged : ℕ → Ack → Outgoing → Outgoing
acknowledged port ack f =
    let g = told (option_map (λ s. s.sending) (find (is_it port (newest ack)) f.flight)) f in
    windowed ack.window (record g { flight = left port ack f.flight })
