-- The round trip to a port, in microseconds.
use Rattle.std.specs.Prelude.{ℕ, ◌+◌, ◌-◌, ◌*◌, ◌/◌, ◌^◌, ◌==◌, min, max, if◌then◌else◌}
use Rattle.resending.specs.declared.round_trip.RoundTrip.{RoundTrip}
use Rattle.resending.specs.declared.round_trip.TheConstants.{FIRST_TIMEOUT_MICROS, LEAST_TIMEOUT_MICROS, MOST_ON_THE_WAY}
use Rattle.resending.specs.declared.round_trip.TheConstants.{MOST_TIMEOUT_MICROS, MOST_TRIP_MICROS}

abbrev pub unmeasured : RoundTrip
unmeasured = record { smoothed = 0; deviation = 0; least = 0 }

abbrev pub short : ℕ → ℕ
short micros = min micros MOST_TRIP_MICROS

abbrev pub distance : ℕ → ℕ → ℕ
distance a b = max a b - min a b

-- the first one: half of it is the deviation
abbrev pub first_measured : ℕ → RoundTrip
first_measured m = record { smoothed = m; deviation = m / 2; least = m }

-- a later one is an eighth of the smoothed one, and its distance from it a quarter of the deviation
abbrev pub next_measured : ℕ → RoundTrip → RoundTrip
next_measured m t = record {
  smoothed = short ((7 * t.smoothed + m) / 8);
  deviation = short ((3 * t.deviation + distance t.smoothed m) / 4);
  least = min t.least m;
}

-- one more
abbrev pub measured : ℕ → RoundTrip → RoundTrip
measured micros t = if t.least == 0 then first_measured (short (max micros 1)) else next_measured (short (max micros 1)) t

abbrev pub timeout : RoundTrip → ℕ
timeout t =
    if t.least == 0 then FIRST_TIMEOUT_MICROS
    else min (max (t.smoothed + 4 * t.deviation) LEAST_TIMEOUT_MICROS) MOST_TIMEOUT_MICROS

-- at so many parts a millisecond
abbrev pub on_the_way : ℕ → RoundTrip → ℕ
on_the_way pace t = min (min (t.least * pace) (2 ^ 64 - 1) / 1000) MOST_ON_THE_WAY
