-- The row that a line of a trace is, or there is none.
use Rattle.std.specs.Prelude.{ℕ, ◌*◌, ◌^◌, List, [], ◌∷◌, length, take, drop, codes, Bool, false, not, ◌&&◌, ◌==◌, nat_lt, nat_le}
use Rattle.std.specs.Prelude.{Option, Some, None, option_map, if◌then◌else◌}
use Rattle.std.specs.List.{list_all}
use Rattle.line_fields.specs.Fields.{fields, is_text, number_of, number_below, from_one, bytes_of, key_of}
use Rattle.nop_types.specs.declared.limits.TheConstants.{MAX_CONTROLLERS, MAX_DATAGRAM_BYTES, MAX_LINE_BYTES, MAX_OP_BYTES, MAX_RESULT_BYTES}
use Rattle.schedule_text.specs.Ticks.{tick_named}
use Rattle.trace_rows.specs.declared.row.Gave.{Gave}
use Rattle.trace_rows.specs.declared.row.Gave.TheVariants as gaves
use Rattle.trace_rows.specs.declared.row.Name.{Name}
use Rattle.trace_rows.specs.declared.row.Name.TheVariants.{Replica, Sequencer, Client, Controller, Observer}
use Rattle.trace_rows.specs.declared.row.Number.{Number}
use Rattle.trace_rows.specs.declared.row.Number.TheVariants.{Is, Past}
use Rattle.trace_rows.specs.declared.row.Row.{Row}
use Rattle.trace_rows.specs.declared.row.Row.TheVariants.{In, Out}
use Rattle.trace_rows.specs.declared.row.Taken.{Taken}
use Rattle.trace_rows.specs.declared.row.Taken.TheVariants as ins
use Rattle.trace_rows.specs.declared.row.To.{To}
use Rattle.trace_rows.specs.declared.row.To.TheVariants.{Replicas, Sequencers, One}
pub use Rattle.nop_types.specs.Options.{◌>>=◌}

-- ---- names

abbrev pub is_digit : ℕ → Bool
is_digit b = nat_le 48 b && nat_le b 57

-- digits without leading zeros, however many
abbrev pub is_decimal : List ℕ → Bool
is_decimal [] = false
is_decimal (d ∷ []) = is_digit d
is_decimal (d ∷ e ∷ ds) = not (d == 48) && list_all is_digit (d ∷ e ∷ ds)

-- one that has no 64 bits is past them
abbrev pub as_number : Option ℕ → Number
as_number (Some n) = Is n
as_number None = Past

abbrev pub number_in : List ℕ → Option Number
number_in digits = if is_decimal digits then Some (as_number (number_of digits)) else None

abbrev pub lettered : ℕ → List ℕ → Option Name
lettered letter digits =
    if letter == 114 then option_map Replica (number_in digits)
    else if letter == 115 then option_map Sequencer (number_in digits)
    else if letter == 99 then option_map Client (number_in digits)
    else if letter == 111 then option_map Observer (number_in digits)
    else None

abbrev pub by_letter : List ℕ → Option Name
by_letter [] = None
by_letter (letter ∷ digits) = lettered letter digits

-- `ctl` and a number from 1 that a controller may have
abbrev pub by_number : List ℕ → Option Name
by_number digits = option_map Controller (from_one (number_below MAX_CONTROLLERS digits))

-- the name of an actor that some configuration could have, or would have were its numbers greater
unfoldable pub name_of : List ℕ → Option Name
name_of field =
    if is_text (codes "ctl") field then Some (Controller 0)
    else if is_text (codes "ctl") (take 3 field) then by_number (drop 3 field)
    else by_letter field

abbrev pub observer_number : Option Name → Option Number
observer_number (Some (Observer n)) = Some n
observer_number _ = None

abbrev pub sequencer_number : Option Name → Option Number
sequencer_number (Some (Sequencer n)) = Some n
sequencer_number _ = None

unfoldable pub to_of : List ℕ → Option To
to_of field =
    if is_text (codes "r*") field then Some Replicas
    else if is_text (codes "s*") field then Some Sequencers
    else option_map One (name_of field)

-- ---- numbers and bytes

-- ids count from 1
abbrev pub id_of : List ℕ → Option ℕ
id_of field = from_one (number_of field)

abbrev pub position_of : List ℕ → Option ℕ
position_of field = number_below (2 ^ 32) field

-- so many bytes at most, in either case
abbrev pub bytes_within : ℕ → List ℕ → Option (List ℕ)
bytes_within most text = if nat_le (length text) (2 * most) then bytes_of text else None

-- ---- what a step took, from the fields behind the actor

abbrev pub read_taken : List ℕ → List ℕ → Option Taken
read_taken observer key = observer_number (name_of observer) >>= λ n. option_map (ins.Read n) (key_of key)

-- by a word and one more field
abbrev pub short_taken : List ℕ → List ℕ → Option Taken
short_taken word field =
    if is_text (codes "tick") word then option_map ins.Tick (tick_named field)
    else if is_text (codes "packet") word then option_map ins.Packet (bytes_within MAX_DATAGRAM_BYTES field)
    else if is_text (codes "submit") word then option_map ins.Submit (bytes_within MAX_OP_BYTES field)
    else if is_text (codes "install") word then option_map ins.Install (sequencer_number (name_of field))
    else None

abbrev pub taken_of : List (List ℕ) → Option Taken
taken_of (word ∷ field ∷ []) = short_taken word field
taken_of (word ∷ observer ∷ key ∷ []) = if is_text (codes "read") word then read_taken observer key else None
taken_of _ = None

-- ---- what it gave

abbrev pub send_gave : List ℕ → List ℕ → Option Gave
send_gave to bytes = to_of to >>= λ d. option_map (gaves.Send d) (bytes_within MAX_DATAGRAM_BYTES bytes)

abbrev pub submit_gave : List ℕ → List ℕ → Option Gave
submit_gave id op = id_of id >>= λ n. option_map (gaves.Submit n) (bytes_within MAX_OP_BYTES op)

abbrev pub accept_gave : List ℕ → List ℕ → Option Gave
accept_gave id result = id_of id >>= λ n. option_map (gaves.Accept n) (bytes_within MAX_RESULT_BYTES result)

abbrev pub read_gave : List ℕ → List ℕ → List ℕ → Option Gave
read_gave id observer key = id_of id >>= λ n. observer_number (name_of observer) >>= λ o. option_map (gaves.Read n o) (key_of key)

abbrev pub answer_gave : List ℕ → List ℕ → List ℕ → List ℕ → Option Gave
answer_gave id observer position result =
    id_of id >>= λ n. observer_number (name_of observer) >>= λ o. position_of position >>= λ p.
    option_map (gaves.Answer n o p) (bytes_within MAX_RESULT_BYTES result)

-- by a word and two more fields
abbrev pub short_gave : List ℕ → List ℕ → List ℕ → Option Gave
short_gave word first second =
    if is_text (codes "send") word then send_gave first second
    else if is_text (codes "submit") word then submit_gave first second
    else if is_text (codes "accept") word then accept_gave first second
    else None

abbrev pub gave_of : List (List ℕ) → Option Gave
gave_of (word ∷ first ∷ second ∷ []) = short_gave word first second
gave_of (word ∷ id ∷ observer ∷ key ∷ []) = if is_text (codes "read") word then read_gave id observer key else None
gave_of (word ∷ id ∷ observer ∷ position ∷ result ∷ []) =
    if is_text (codes "answer") word then answer_gave id observer position result else None
gave_of _ = None

-- ---- whole lines

abbrev pub in_of : List ℕ → List (List ℕ) → Option Row
in_of name rest = name_of name >>= λ actor. option_map (In actor) (taken_of rest)

abbrev pub out_of : List ℕ → List (List ℕ) → Option Row
out_of name rest = name_of name >>= λ actor. option_map (Out actor) (gave_of rest)

abbrev pub row_of_fields : List (List ℕ) → Option Row
row_of_fields (word ∷ name ∷ rest) =
    if is_text (codes "in") word then in_of name rest
    else if is_text (codes "out") word then out_of name rest
    else None
row_of_fields _ = None

-- the row of a line, without its end
unfoldable pub row_of : List ℕ → Option Row
row_of line = if nat_lt MAX_LINE_BYTES (length line) then None else row_of_fields (fields line)
