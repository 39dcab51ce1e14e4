-- The parts that are in flight to a port.
use Rattle.std.specs.Prelude.{ℕ, ◌*◌, ◌==◌, ◌&&◌, Bool, true, not, min, List, [], ◌∷◌, ◌++◌, filter, Option, Some, None, slice_get, slice_set}
use Rattle.resending.specs.declared.acks.Ack.{Ack}
use Rattle.resending.specs.declared.backlog.Part.{Part}
use Rattle.resending.specs.declared.flight.Sending.{Sending}
use Rattle.resending.specs.declared.flight.Sent.{Sent}
use Rattle.resending.specs.declared.names.Name.{Name}
use Rattle.resending.specs.declared.round_trip.TheConstants.{MOST_TIMEOUT_MICROS}
use Rattle.resending.specs.Acks.{is_named}

abbrev pub is_it : ℕ → Name → Sent → Bool
is_it port name s =
    (s.part.port == port) && (s.part.name.message == name.message) && (s.part.name.index == name.index)

-- an acknowledgement from this port names it
abbrev pub is_taken : ℕ → Ack → Sent → Bool
is_taken port ack s = (s.part.port == port) && is_named ack s.part.name

-- one more in flight
abbrev pub with_first : Option Part → Sending → List Sent → List Sent
with_first None sending flight = flight
with_first (Some part) sending flight = flight ++ record { part = part; sending = sending } ∷ []

-- what an acknowledgement leaves in flight: all that it does not name, in their order
abbrev pub left : ℕ → Ack → List Sent → List Sent
left port ack flight = filter (λ s. not (is_taken port ack s)) flight

-- twice the time, as far as a part waits
abbrev pub twice : ℕ → ℕ
twice wait = min (2 * min wait MOST_TIMEOUT_MICROS) MOST_TIMEOUT_MICROS

-- sent again: from now on, for twice the time
abbrev pub again : ℕ → ℕ → Sent → Sent
again now serial s =
    record s { sending = record { at = now; wait = twice s.sending.wait; serial = serial; is_again = true } }

abbrev pub with_again : Option Sent → ℕ → ℕ → ℕ → List Sent → List Sent
with_again None i now serial flight = flight
with_again (Some s) i now serial flight = slice_set flight i (again now serial s)

abbrev pub resent_at : ℕ → ℕ → ℕ → List Sent → List Sent
resent_at i now serial flight = with_again (slice_get flight i) i now serial flight
