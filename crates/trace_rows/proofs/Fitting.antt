-- What is read from a line is in its ranges.
use Rattle.std.proofs.Common.{◌≡◌, ℕ, zero, suc, ◌+◌, ◌-◌, ◌*◌, ◌^◌, ◌<◌, Option, Some, None, refl, ap}
use Rattle.std.proofs.Common.{arith, length, List, [], ◌∷◌, codes, nat_le, nat_lt, take, drop}
use Rattle.std.specs.Prelude.{option_map, ◌==◌, ◌&&◌}
use Rattle.std.proofs.lemmas.Bool.{leb-true, ltb-true, and_parts}
use Rattle.hex.specs.Hex.{IsBytes, decode_of}
use Rattle.hex.specs.declared.error.FromHexError.{FromHexError}
use Rattle.hex.proofs.HexLemmas.{decode_of-ok}
use Rattle.std.specs.Prelude.{Result, Ok, Err}
use Rattle.line_fields.specs.Fields.{as_option, bytes_of, digit_on, fields, from_one, is_text, key_in, key_of, number_below, number_of, number_on}
use Rattle.line_fields.specs.Fields.{below}
use Rattle.line_fields.proofs.HexLengths.{bytes_short}
use Rattle.nop_types.specs.declared.input.Tick.TheVariants.{Suspect, Watch, Resend, Sync, Retry, Probe}
use Rattle.nop_types.specs.declared.limits.TheConstants.{MAX_CONTROLLERS, MAX_DATAGRAM_BYTES, MAX_KEY_BYTES, MAX_LINE_BYTES, MAX_OP_BYTES}
use Rattle.nop_types.specs.declared.limits.TheConstants.{MAX_RESULT_BYTES}
use Rattle.schedule_text.specs.EventText.{HasWord}
use Rattle.schedule_text.specs.Ticks.{tick_named}
use Rattle.trace_rows.specs.Reading.{accept_gave, answer_gave, as_number, by_letter, by_number, bytes_within, gave_of, id_of, in_of, is_decimal}
use Rattle.trace_rows.specs.Reading.{lettered, name_of, number_in, observer_number, out_of, position_of, read_gave, read_taken, row_of}
use Rattle.trace_rows.specs.Reading.{row_of_fields, send_gave, sequencer_number, short_gave, short_taken, submit_gave, taken_of, to_of, ◌>>=◌}
use Rattle.trace_rows.specs.Rows.{BytesFit, GaveFits, IdFits, KeyFits, NameFits, NumberFits, RowFits, TakenFits, ToFits}
use Rattle.trace_rows.specs.declared.row.Gave.TheVariants as gaves
use Rattle.trace_rows.specs.declared.row.Name.{Name}
use Rattle.trace_rows.specs.declared.row.Name.TheVariants.{Replica, Sequencer, Client, Controller, Observer}
use Rattle.trace_rows.specs.declared.row.Row.{Row}
use Rattle.trace_rows.specs.declared.row.Row.TheVariants.{In, Out}
use Rattle.trace_rows.specs.declared.row.Taken.TheVariants as ins
use Rattle.trace_rows.specs.declared.row.To.TheVariants.{Replicas, Sequencers, One}
use Rattle.trace_rows.proofs.Each.{Each, each_if, each_map, each_none, each_some, each_then, each_where}

-- ---- numbers

abbrev Below : ℕ → ℕ → Type 0
Below limit n = n < limit

digit_fits : (n d : ℕ) → Each (Below (2 ^ 64)) (digit_on n d)
digit_fits n d =
    each_where (Below (2 ^ 64)) (nat_le 48 d && (nat_le d 57 && nat_lt (n * 10 + (d - 48)) (2 ^ 64))) (Some (n * 10 + (d - 48))) None
    (λ e. each_some (Below (2 ^ 64)) (n * 10 + (d - 48))
    (ltb-true (n * 10 + (d - 48)) (2 ^ 64)
    (and_parts (nat_le d 57) (nat_lt (n * 10 + (d - 48)) (2 ^ 64))
    (and_parts (nat_le 48 d) (nat_le d 57 && nat_lt (n * 10 + (d - 48)) (2 ^ 64)) e).1).1))
    (each_none (Below (2 ^ 64)))

digits_fit : (ds : List ℕ) (o : Option ℕ) → Each (Below (2 ^ 64)) o → Each (Below (2 ^ 64)) (number_on o ds)
digits_fit [] o h = h
digits_fit (d ∷ ds) None h = each_none (Below (2 ^ 64))
digits_fit (d ∷ ds) (Some n) h = digits_fit ds (digit_on n d) (digit_fits n d)

from_zero : Each (Below (2 ^ 64)) (Some 0)
from_zero = each_some (Below (2 ^ 64)) 0 (omega arith)

number_fits : (field : List ℕ) → Each (Below (2 ^ 64)) (number_of field)
unfolding number_of
number_fits [] = each_none (Below (2 ^ 64))
number_fits (d ∷ []) = digits_fit (d ∷ []) (Some 0) from_zero
number_fits (d ∷ e ∷ ds) =
    each_if (Below (2 ^ 64)) (d == 48) None (number_on (Some 0) (d ∷ e ∷ ds)) (each_none (Below (2 ^ 64)))
    (digits_fit (d ∷ e ∷ ds) (Some 0) from_zero)

below_fits : (limit : ℕ) (field : List ℕ) → Each (Below limit) (number_below limit field)
below_fits limit field = by_number_of (number_of field)
  where
    by_number_of : (o : Option ℕ) → Each (Below limit) (below limit o)
    by_number_of None = each_none (Below limit)
    by_number_of (Some n) =
        each_where (Below limit) (nat_lt n limit) (Some n) None (λ e. each_some (Below limit) n (ltb-true n limit e)) (each_none (Below limit))

-- a number from 1 on
from_one_fits : (P : ℕ → Type 0) (o : Option ℕ) → Each P o → Each P (from_one o)
from_one_fits P None h = h
from_one_fits P (Some zero) h = each_none P
from_one_fits P (Some (suc k)) h = h

id_from : (o : Option ℕ) → Each (Below (2 ^ 64)) o → Each IdFits (from_one o)
id_from None h = each_none IdFits
id_from (Some zero) h = each_none IdFits
id_from (Some (suc k)) h = each_some IdFits (suc k) (record { low = omega arith; high = h.holds (suc k) refl })

id_fits : (field : List ℕ) → Each IdFits (id_of field)
id_fits field = id_from (number_of field) (number_fits field)

-- ---- names

as_number_fits : (o : Option ℕ) → Each (Below (2 ^ 64)) o → NumberFits (as_number o)
as_number_fits None h = tt
as_number_fits (Some n) h = h.holds n refl

number_in_fits : (digits : List ℕ) → Each NumberFits (number_in digits)
number_in_fits digits =
    each_if NumberFits (is_decimal digits) (Some (as_number (number_of digits))) None
    (each_some NumberFits (as_number (number_of digits)) (as_number_fits (number_of digits) (number_fits digits))) (each_none NumberFits)

lettered_fits : (letter : ℕ) (digits : List ℕ) → Each NameFits (lettered letter digits)
lettered_fits letter digits =
    let n = number_in_fits digits in
    each_if NameFits (letter == 114) _ _ (each_map NumberFits NameFits Replica (number_in digits) (λ x h. h) n)
    (each_if NameFits (letter == 115) _ _ (each_map NumberFits NameFits Sequencer (number_in digits) (λ x h. h) n)
    (each_if NameFits (letter == 99) _ _ (each_map NumberFits NameFits Client (number_in digits) (λ x h. h) n)
    (each_if NameFits (letter == 111) _ _ (each_map NumberFits NameFits Observer (number_in digits) (λ x h. h) n) (each_none NameFits))))

letter_fits : (field : List ℕ) → Each NameFits (by_letter field)
letter_fits [] = each_none NameFits
letter_fits (letter ∷ digits) = lettered_fits letter digits

controller_fits : (digits : List ℕ) → Each NameFits (by_number digits)
controller_fits digits =
    each_map (Below MAX_CONTROLLERS) NameFits Controller (from_one (number_below MAX_CONTROLLERS digits)) (λ x h. h)
    (from_one_fits (Below MAX_CONTROLLERS) (number_below MAX_CONTROLLERS digits) (below_fits MAX_CONTROLLERS digits))

name_fits : (field : List ℕ) → Each NameFits (name_of field)
unfolding name_of
name_fits field =
    each_if NameFits (is_text (codes "ctl") field) _ _ (each_some NameFits (Controller 0) (omega arith))
    (each_if NameFits (is_text (codes "ctl") (take 3 field)) _ _ (controller_fits (drop 3 field)) (letter_fits field))

observer_fits : (field : List ℕ) → Each NumberFits (observer_number (name_of field))
observer_fits field = by_name (name_of field) (name_fits field)
  where
    by_name : (o : Option Name) → Each NameFits o → Each NumberFits (observer_number o)
    by_name (Some (Observer n)) h = each_some NumberFits n (h.holds (Observer n) refl)
    by_name None h = each_none NumberFits
    by_name (Some (Replica n)) h = each_none NumberFits
    by_name (Some (Sequencer n)) h = each_none NumberFits
    by_name (Some (Client n)) h = each_none NumberFits
    by_name (Some (Controller k)) h = each_none NumberFits

sequencer_fits : (field : List ℕ) → Each NumberFits (sequencer_number (name_of field))
sequencer_fits field = by_name (name_of field) (name_fits field)
  where
    by_name : (o : Option Name) → Each NameFits o → Each NumberFits (sequencer_number o)
    by_name (Some (Sequencer n)) h = each_some NumberFits n (h.holds (Sequencer n) refl)
    by_name None h = each_none NumberFits
    by_name (Some (Replica n)) h = each_none NumberFits
    by_name (Some (Observer n)) h = each_none NumberFits
    by_name (Some (Client n)) h = each_none NumberFits
    by_name (Some (Controller k)) h = each_none NumberFits

to_fits : (field : List ℕ) → Each ToFits (to_of field)
unfolding to_of
to_fits field =
    each_if ToFits (is_text (codes "r*") field) _ _ (each_some ToFits Replicas tt)
    (each_if ToFits (is_text (codes "s*") field) _ _ (each_some ToFits Sequencers tt)
    (each_map NameFits ToFits One (name_of field) (λ x h. h) (name_fits field)))

-- ---- bytes

decoded : (r : Result (List ℕ) FromHexError) (bytes : List ℕ) → as_option r ≡ Some bytes → r ≡ Ok bytes
decoded (Ok xs) bytes e = let same : xs ≡ bytes = cc in ap Ok same
decoded (Err x) bytes e = absurd cc

bytes_are : (field : List ℕ) → Each IsBytes (bytes_of field)
unfolding bytes_of
bytes_are [] = each_none IsBytes
bytes_are (d ∷ ds) =
    each_if IsBytes (is_text (codes "-") (d ∷ ds)) (Some []) (as_option (decode_of (d ∷ ds))) (each_some IsBytes [] (λ i. omega arith))
    (record { holds = λ bytes e. (decode_of-ok (d ∷ ds) bytes (decoded (decode_of (d ∷ ds)) bytes e)).3 })

within_fits : (most : ℕ) (field : List ℕ) → Each (BytesFit most) (bytes_within most field)
within_fits most field =
    each_where (BytesFit most) (nat_le (length field) (2 * most)) (bytes_of field) None
    (λ room. record {
      holds = λ bytes e. record {
        short = omega (arith, leb-true (length field) (2 * most) room, bytes_short field bytes e);
        are_bytes = (bytes_are field).holds bytes e;
      };
    }) (each_none (BytesFit most))

key_fits : (field : List ℕ) → Each KeyFits (key_of field)
key_fits field = by_bytes (bytes_of field) (bytes_are field)
  where
    by_bytes : (o : Option (List ℕ)) → Each IsBytes o → Each KeyFits (key_in o)
    by_bytes None h = each_none KeyFits
    by_bytes (Some key) h =
        each_where KeyFits (nat_le 1 (length key) && nat_le (length key) MAX_KEY_BYTES) (Some key) None
        (λ e. let p = and_parts (nat_le 1 (length key)) (nat_le (length key) MAX_KEY_BYTES) e in
        each_some KeyFits key (record {
          some = leb-true 1 (length key) p.0;
          most = leb-true (length key) MAX_KEY_BYTES p.1;
          are_bytes = h.holds key refl;
        })) (each_none KeyFits)

-- ---- what a step took

tick_fits : (field : List ℕ) → Each HasWord (tick_named field)
unfolding tick_named
tick_fits field =
    each_if HasWord (is_text (codes "suspect") field) _ _ (each_some HasWord Suspect tt)
    (each_if HasWord (is_text (codes "watch") field) _ _ (each_some HasWord Watch tt)
    (each_if HasWord (is_text (codes "resend") field) _ _ (each_some HasWord Resend tt)
    (each_if HasWord (is_text (codes "sync") field) _ _ (each_some HasWord Sync tt)
    (each_if HasWord (is_text (codes "retry") field) _ _ (each_some HasWord Retry tt)
    (each_if HasWord (is_text (codes "probe") field) _ _ (each_some HasWord Probe tt) (each_none HasWord))))))

read_taken_fits : (observer key : List ℕ) → Each TakenFits (read_taken observer key)
read_taken_fits observer key =
    each_then NumberFits TakenFits (observer_number (name_of observer)) (λ n. option_map (ins.Read n) (key_of key))
    (λ n h. each_map KeyFits TakenFits (ins.Read n) (key_of key) (λ x k. (h, k)) (key_fits key)) (observer_fits observer)

short_taken_fits : (word field : List ℕ) → Each TakenFits (short_taken word field)
short_taken_fits word field =
    each_if TakenFits (is_text (codes "tick") word) _ _
    (each_map HasWord TakenFits ins.Tick (tick_named field) (λ x h. h) (tick_fits field))
    (each_if TakenFits (is_text (codes "packet") word) _ _
    (each_map (BytesFit MAX_DATAGRAM_BYTES) TakenFits ins.Packet (bytes_within MAX_DATAGRAM_BYTES field) (λ x h. h)
    (within_fits MAX_DATAGRAM_BYTES field))
    (each_if TakenFits (is_text (codes "submit") word) _ _
    (each_map (BytesFit MAX_OP_BYTES) TakenFits ins.Submit (bytes_within MAX_OP_BYTES field) (λ x h. h) (within_fits MAX_OP_BYTES field))
    (each_if TakenFits (is_text (codes "install") word) _ _
    (each_map NumberFits TakenFits ins.Install (sequencer_number (name_of field)) (λ x h. h) (sequencer_fits field)) (each_none TakenFits))))

taken_fits : (xs : List (List ℕ)) → Each TakenFits (taken_of xs)
taken_fits [] = each_none TakenFits
taken_fits (word ∷ []) = each_none TakenFits
taken_fits (word ∷ field ∷ []) = short_taken_fits word field
taken_fits (word ∷ observer ∷ key ∷ []) =
    each_if TakenFits (is_text (codes "read") word) _ _ (read_taken_fits observer key) (each_none TakenFits)
taken_fits (word ∷ first ∷ second ∷ third ∷ more) = each_none TakenFits

-- ---- what it gave

send_gave_fits : (to bytes : List ℕ) → Each GaveFits (send_gave to bytes)
send_gave_fits to bytes =
    each_then ToFits GaveFits (to_of to) (λ d. option_map (gaves.Send d) (bytes_within MAX_DATAGRAM_BYTES bytes))
    (λ d h. each_map (BytesFit MAX_DATAGRAM_BYTES) GaveFits (gaves.Send d) (bytes_within MAX_DATAGRAM_BYTES bytes) (λ x k. (h, k))
    (within_fits MAX_DATAGRAM_BYTES bytes)) (to_fits to)

submit_gave_fits : (id op : List ℕ) → Each GaveFits (submit_gave id op)
submit_gave_fits id op =
    each_then IdFits GaveFits (id_of id) (λ n. option_map (gaves.Submit n) (bytes_within MAX_OP_BYTES op))
    (λ n h. each_map (BytesFit MAX_OP_BYTES) GaveFits (gaves.Submit n) (bytes_within MAX_OP_BYTES op) (λ x k. (h, k))
    (within_fits MAX_OP_BYTES op)) (id_fits id)

accept_gave_fits : (id result : List ℕ) → Each GaveFits (accept_gave id result)
accept_gave_fits id result =
    each_then IdFits GaveFits (id_of id) (λ n. option_map (gaves.Accept n) (bytes_within MAX_RESULT_BYTES result))
    (λ n h. each_map (BytesFit MAX_RESULT_BYTES) GaveFits (gaves.Accept n) (bytes_within MAX_RESULT_BYTES result) (λ x k. (h, k))
    (within_fits MAX_RESULT_BYTES result)) (id_fits id)

read_gave_fits : (id observer key : List ℕ) → Each GaveFits (read_gave id observer key)
read_gave_fits id observer key =
    each_then IdFits GaveFits (id_of id) (λ n. observer_number (name_of observer) >>= λ o. option_map (gaves.Read n o) (key_of key))
    (λ n h. each_then NumberFits GaveFits (observer_number (name_of observer)) (λ o. option_map (gaves.Read n o) (key_of key))
    (λ o k. each_map KeyFits GaveFits (gaves.Read n o) (key_of key) (λ x m. (h, k, m)) (key_fits key)) (observer_fits observer)) (id_fits id)

answer_gave_fits : (id observer position result : List ℕ) → Each GaveFits (answer_gave id observer position result)
answer_gave_fits id observer position result =
    each_then IdFits GaveFits (id_of id)
    (λ n. observer_number (name_of observer) >>= λ o. position_of position >>= λ p.
    option_map (gaves.Answer n o p) (bytes_within MAX_RESULT_BYTES result))
    (λ n h. each_then NumberFits GaveFits (observer_number (name_of observer))
    (λ o. position_of position >>= λ p. option_map (gaves.Answer n o p) (bytes_within MAX_RESULT_BYTES result))
    (λ o k. each_then (Below (2 ^ 32)) GaveFits (position_of position)
    (λ p. option_map (gaves.Answer n o p) (bytes_within MAX_RESULT_BYTES result))
    (λ p m. each_map (BytesFit MAX_RESULT_BYTES) GaveFits (gaves.Answer n o p) (bytes_within MAX_RESULT_BYTES result)
    (λ x r. record { id_fits = h; observer_fits = k; position_fits = m; result_fits = r }) (within_fits MAX_RESULT_BYTES result))
    (below_fits (2 ^ 32) position)) (observer_fits observer)) (id_fits id)

short_gave_fits : (word first second : List ℕ) → Each GaveFits (short_gave word first second)
short_gave_fits word first second =
    each_if GaveFits (is_text (codes "send") word) _ _ (send_gave_fits first second)
    (each_if GaveFits (is_text (codes "submit") word) _ _ (submit_gave_fits first second)
    (each_if GaveFits (is_text (codes "accept") word) _ _ (accept_gave_fits first second) (each_none GaveFits)))

gave_fits : (xs : List (List ℕ)) → Each GaveFits (gave_of xs)
gave_fits [] = each_none GaveFits
gave_fits (word ∷ []) = each_none GaveFits
gave_fits (word ∷ first ∷ []) = each_none GaveFits
gave_fits (word ∷ first ∷ second ∷ []) = short_gave_fits word first second
gave_fits (word ∷ id ∷ observer ∷ key ∷ []) =
    each_if GaveFits (is_text (codes "read") word) _ _ (read_gave_fits id observer key) (each_none GaveFits)
gave_fits (word ∷ id ∷ observer ∷ position ∷ result ∷ []) =
    each_if GaveFits (is_text (codes "answer") word) _ _ (answer_gave_fits id observer position result) (each_none GaveFits)
gave_fits (word ∷ first ∷ second ∷ third ∷ fourth ∷ fifth ∷ more) = each_none GaveFits

-- ---- rows

in_fits : (name : List ℕ) (rest : List (List ℕ)) → Each RowFits (in_of name rest)
in_fits name rest =
    each_then NameFits RowFits (name_of name) (λ actor. option_map (In actor) (taken_of rest))
    (λ actor h. each_map TakenFits RowFits (In actor) (taken_of rest) (λ x k. (h, k)) (taken_fits rest)) (name_fits name)

out_fits : (name : List ℕ) (rest : List (List ℕ)) → Each RowFits (out_of name rest)
out_fits name rest =
    each_then NameFits RowFits (name_of name) (λ actor. option_map (Out actor) (gave_of rest))
    (λ actor h. each_map GaveFits RowFits (Out actor) (gave_of rest) (λ x k. (h, k)) (gave_fits rest)) (name_fits name)

fields_fit : (xs : List (List ℕ)) → Each RowFits (row_of_fields xs)
fields_fit [] = each_none RowFits
fields_fit (word ∷ []) = each_none RowFits
fields_fit (word ∷ name ∷ rest) =
    each_if RowFits (is_text (codes "in") word) _ _ (in_fits name rest)
    (each_if RowFits (is_text (codes "out") word) _ _ (out_fits name rest) (each_none RowFits))

each_row_fits : (line : List ℕ) → Each RowFits (row_of line)
unfolding row_of
each_row_fits line = each_if RowFits (nat_lt MAX_LINE_BYTES (length line)) _ _ (each_none RowFits) (fields_fit (fields line))

pub row_fits : (line : List ℕ) (row : Row) → row_of line ≡ Some row → RowFits row
row_fits line row e = (each_row_fits line).holds row e
