-- The parts that came, and the acknowledgements that are owed for them.
use Rattle.std.specs.Prelude.{ℕ, ◌+◌, ◌-◌, ◌/◌, ◌%◌, ◌^◌, ◌==◌, ◌&&◌, ◌||◌, not, min, max, nat_le, nat_lt, Bool, if◌then◌else◌, map}
use Rattle.std.specs.Prelude.{List, [], ◌∷◌, count_by, replicate, slice_index, slice_index_or, slice_set, Option, Some, None}
use Rattle.resending.specs.declared.acks.TheConstants.{NAMED}
use Rattle.resending.specs.declared.flight.TheConstants.{MOST_WINDOW}
use Rattle.resending.specs.declared.flow.TheConstants.{FIRST_WINDOW}
use Rattle.resending.specs.declared.lanes.TheConstants.{LANES}
use Rattle.resending.specs.declared.names.Name.{Name}
use Rattle.resending.specs.declared.receipts.Answer.{Answer}
use Rattle.resending.specs.declared.receipts.Receipt.{Receipt}
use Rattle.resending.specs.declared.receipts.Receipts.{Receipts}
use Rattle.resending.specs.declared.receipts.TheConstants.{ACK_EVERY, RECENT_PARTS}

-- one index in each place
abbrev pub eight : ℕ → List ℕ
eight i = replicate NAMED i

-- one more before them, and without the last
abbrev pub with_index : List ℕ → ℕ → List ℕ
with_index indexes i =
    i ∷ slice_index indexes 0 ∷ slice_index indexes 1 ∷ slice_index indexes 2 ∷ slice_index indexes 3 ∷ slice_index indexes 4
    ∷ slice_index indexes 5 ∷ slice_index indexes 6 ∷ []

-- of a lane of which no part came
abbrev pub no_receipt : Receipt
no_receipt = record { port = 0; message = 0; indexes = eight 0; owed = 0; last = 0 }

abbrev pub receipt_at : ℕ → Receipts → Receipt
receipt_at lane s = slice_index_or s.lanes lane no_receipt

-- a part of this message came from this port before
abbrev pub goes_on : ℕ → Name → Receipt → Bool
goes_on port name r = nat_lt 0 r.last && (r.port == port) && (r.message == name.message)

-- one more part came, as so manieth of all: it is the last of its message's, or the only one so far
abbrev pub one_more : ℕ → Name → ℕ → Receipt → Receipt
one_more port name count r =
    record {
      port = port;
      message = name.message;
      indexes = if goes_on port name r then with_index r.indexes name.index else eight name.index;
      owed = min (r.owed + 1) 255;
      last = count;
    }

abbrev pub with_part : ℕ → Name → Receipts → Receipts
with_part port name s =
    let count : ℕ = min (s.count + 1) (2 ^ 64 - 1) in
    record s { count = count; lanes = slice_set s.lanes (port % LANES) (one_more port name count (receipt_at (port % LANES) s)) }

-- a part of the lane is among the last so many
abbrev pub is_sending : ℕ → Receipt → Bool
is_sending count r = nat_lt 0 r.last && nat_lt (count - r.last) RECENT_PARTS

-- the lanes that send share what may be in flight
abbrev pub window_of : Receipts → ℕ
window_of s = max (MOST_WINDOW / max (count_by (is_sending s.count) s.lanes) 1) FIRST_WINDOW

-- what acknowledges the last parts of a lane, where some of them were not acknowledged
abbrev pub answer_for : ℕ → Receipts → Option Answer
answer_for lane s =
    let r = receipt_at lane s in
    if nat_lt 0 r.owed then
    Some (record { port = r.port; ack = record { window = window_of s; message = r.message; indexes = r.indexes } })
    else None

abbrev pub settled : Receipt → Receipt
settled r = record r { owed = 0 }

-- the lane is owed nothing
abbrev pub with_answer : ℕ → Receipts → Receipts
with_answer lane s = record s { lanes = slice_set s.lanes lane (settled (receipt_at lane s)) }

-- parts are owed that no acknowledgement of this message to this port names
abbrev pub owes_another : ℕ → Name → Receipt → Bool
owes_another port name r = nat_lt 0 r.owed && (not (r.port == port) || not (r.message == name.message))

-- so many parts of the lane are not acknowledged
abbrev pub is_due : ℕ → Name → Receipts → Bool
is_due port name s = nat_le ACK_EVERY (receipt_at (port % LANES) (with_part port name s)).owed

-- a part came: those of another message are acknowledged before it is noted, those of its own where so many of them are owed
abbrev pub due_answer : ℕ → Name → Receipts → Option Answer
due_answer port name s =
    if owes_another port name (receipt_at (port % LANES) s) then answer_for (port % LANES) s
    else if is_due port name s then answer_for (port % LANES) (with_part port name s)
    else None

abbrev pub recorded : ℕ → Name → Receipts → Receipts
recorded port name s =
    if owes_another port name (receipt_at (port % LANES) s) then with_part port name (with_answer (port % LANES) s)
    else if is_due port name s then with_answer (port % LANES) (with_part port name s)
    else with_part port name s

-- no lane is owed anything
abbrev pub all_settled : Receipts → Receipts
all_settled s = record s { lanes = map settled s.lanes }
