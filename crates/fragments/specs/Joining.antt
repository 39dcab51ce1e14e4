-- Joining: what a fragment changes, and the message that it completes.
use Rattle.std.specs.Prelude.{ℕ, ◌+◌, Bool, true, false, List, [], ◌∷◌, ◌++◌, Option, Some, None, length, drop, remove, replicate, set}
use Rattle.std.specs.Prelude.{slice_get, position, nat_lt, nat_le, ◌==◌, ◌&&◌, ◌||◌, not, if◌then◌else◌}
use Rattle.nop_types.specs.declared.limits.TheConstants.{FRAGMENT_BYTES, MAX_FRAGMENTS, MAX_UNFINISHED}
use Rattle.nop_types.specs.declared.datagram.Fragment.{Fragment}
use Rattle.fragments.specs.Parts.{Partial, missing, is_open, whole, with_part}

-- a payload that is not the last is full, and none is empty or too long
abbrev pub payload_fits : Fragment → Bool
payload_fits f =
    nat_lt 0 (length f.payload) && (nat_le (length f.payload)
    FRAGMENT_BYTES && (nat_le f.count (f.index + 1) || nat_le FRAGMENT_BYTES (length f.payload)))

-- what each fragment that is cut from a message is
abbrev pub is_in_range : Fragment → Bool
is_in_range f = nat_lt f.index f.count && (nat_le f.count MAX_FRAGMENTS && payload_fits f)

-- the unfinished messages of one sender, in the order in which they were begun
abbrev pub Waiting : Type 0
Waiting = List Partial

-- where there is one too many, the first is dropped
abbrev pub at_most_limit : Waiting → Waiting
at_most_limit q = if nat_lt MAX_UNFINISHED (length q) then drop 1 q else q

-- a message that has this fragment alone
abbrev pub begun : Fragment → Partial
begun f = with_part (record { number = f.message; parts = replicate f.count None }) f.index f.payload

-- a fragment of a new number; whether it is the only one
abbrev pub started : Waiting → Fragment → Bool → Waiting × Option (List ℕ)
started q f true = (q, Some f.payload)
started q f false = (at_most_limit (q ++ begun f ∷ []), None)

-- another count, or an index that is there
abbrev pub refuses : Partial → Fragment → Bool
refuses m f = not (f.count == length m.parts) || not (is_open m.parts f.index)

abbrev pub completes : Partial → Fragment → Bool
completes m f = missing (with_part m f.index f.payload).parts == 0

-- a fragment of a message at a place; whether it is refused, whether it completes the message
abbrev pub continued : Waiting → Fragment → ℕ → Partial → Bool → Bool → Waiting × Option (List ℕ)
continued q f at m true last = (q, None)
continued q f at m false true = (remove q at, Some (whole (with_part m f.index f.payload).parts))
continued q f at m false false = (set q at (with_part m f.index f.payload), None)

abbrev pub found : Waiting → Fragment → ℕ → Option Partial → Waiting × Option (List ℕ)
found q f at None = (q, None)
found q f at (Some m) = continued q f at m (refuses m f) (completes m f)

abbrev pub placed : Waiting → Fragment → Option ℕ → Waiting × Option (List ℕ)
placed q f None = started q f (f.count == 1)
placed q f (Some at) = found q f at (slice_get q at)

-- where the message of this number is
abbrev pub place : Waiting → ℕ → Option ℕ
place q number = position (λ (m : Partial). m.number == number) q

-- what is kept of a sender after a fragment of it, and the message that it completes
abbrev pub joined : Waiting → Fragment → Waiting × Option (List ℕ)
joined q f = placed q f (place q f.message)

-- taking a fragment among the messages of all senders
abbrev pub at_sender : List Waiting → Fragment → Option Waiting → List Waiting × Option (List ℕ)
at_sender all f None = (all, None)
at_sender all f (Some q) = (set all f.replica (joined q f).0, (joined q f).1)

-- one that is out of its ranges changes nothing
abbrev pub taken_if : Bool → List Waiting → Fragment → List Waiting × Option (List ℕ)
taken_if false all f = (all, None)
taken_if true all f = at_sender all f (slice_get all f.replica)

abbrev pub taken : List Waiting → Fragment → List Waiting × Option (List ℕ)
taken all f = taken_if (is_in_range f) all f

-- nothing came of any of n senders
abbrev pub opening : ℕ → List Waiting
opening n = replicate n []
