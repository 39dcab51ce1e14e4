-- Which actors send a datagram, by its bytes: its kind, and the number of the sender that it names.
use Rattle.std.specs.Prelude.{ℕ, List, length, slice_index, Bool, nat_lt, ◌%◌, ◌==◌, ◌&&◌, ◌||◌}
use Rattle.nop_types.specs.declared.kinds.TheConstants.{KIND_PLACE, REQUEST, STAMPED, REPLY, INSTALL, INSTALLED, PING, PONG}
use Rattle.nop_types.specs.declared.kinds.TheConstants.{FRAGMENT, READ, ANSWER}
use Rattle.nop_types.specs.declared.output.Actor.{Actor}
use Rattle.nop_types.specs.declared.output.Actor.TheVariants.{Replica, Sequencer, Client, Controller, Observer}
use Rattle.admission.specs.declared.sources.TheConstants.{FIRST_PLACE, SECOND_PLACE, CLIENT_PLACE}

-- this byte stands at this place
abbrev pub has_byte : List ℕ → ℕ → ℕ → Bool
has_byte bytes place b = nat_lt place (length bytes) && (slice_index bytes place == b)

abbrev pub is_kind : List ℕ → ℕ → Bool
is_kind bytes kind = has_byte bytes KIND_PLACE kind

-- the last byte of a client's number, which tells its place
abbrev pub names_place : List ℕ → ℕ → Bool
names_place bytes place = nat_lt CLIENT_PLACE (length bytes) && (slice_index bytes CLIENT_PLACE % 16 == place)

-- each kind comes from one kind of actors, and from the one that it names, if it names one: a request or a read from the place of its
-- client, a stamped request from any sequencer
unfoldable pub comes_from : List ℕ → Actor → Bool
comes_from bytes (Replica i) = (is_kind bytes REPLY || is_kind bytes FRAGMENT) && has_byte bytes FIRST_PLACE i
comes_from bytes (Sequencer i) =
    is_kind bytes STAMPED || ((is_kind bytes INSTALLED || is_kind bytes PONG) && has_byte bytes SECOND_PLACE i)
comes_from bytes (Client i) = (is_kind bytes REQUEST || is_kind bytes READ) && names_place bytes i
comes_from bytes (Controller i) = (is_kind bytes INSTALL || is_kind bytes PING) && has_byte bytes FIRST_PLACE i
comes_from bytes (Observer i) = is_kind bytes ANSWER && has_byte bytes FIRST_PLACE i
