-- The fields of a line, and what single fields spell.
use Rattle.std.specs.Prelude.{ℕ, zero, suc, take, drop, length, ◌<◌, ◌+◌, ◌-◌, ◌*◌, ◌^◌, List, [], ◌∷◌, ◌++◌, Bool, Option, Some, None}
use Rattle.std.specs.Prelude.{Result, Ok, Err, codes, nat_eq, nat_lt, nat_le, ◌==◌, ◌&&◌, if◌then◌else◌}
use Rattle.std.specs.Cmp.Lexicographic.{pointwise}
use Rattle.hex.specs.Hex.{decode_of}
use Rattle.hex.specs.declared.error.FromHexError.{FromHexError}
use Rattle.nop_types.specs.Configuration.{Configuration}
use Rattle.nop_types.specs.declared.limits.TheConstants.{MAX_KEY_BYTES}
use Rattle.nop_types.specs.declared.output.Actor.{Actor}
use Rattle.nop_types.specs.declared.output.Actor.TheVariants.{Replica, Sequencer, Client, Controller, Observer}

-- the fields, where this is the field so far: one more than there are spaces, and each may be empty
abbrev pub fields_on : List ℕ → List ℕ → List (List ℕ)
fields_on field [] = field ∷ []
fields_on field (b ∷ bs) = if b == 32 then field ∷ fields_on [] bs else fields_on (field ++ b ∷ []) bs

unfoldable pub fields : List ℕ → List (List ℕ)
fields line = fields_on [] line

abbrev pub is_text : List ℕ → List ℕ → Bool
is_text text field = pointwise nat_eq field text

-- ---- numbers

-- the number so far and one more digit, while it fits 64 bits
abbrev pub digit_on : ℕ → ℕ → Option ℕ
digit_on n d = if nat_le 48 d && (nat_le d 57 && nat_lt (n * 10 + (d - 48)) (2 ^ 64)) then Some (n * 10 + (d - 48)) else None

abbrev pub number_on : Option ℕ → List ℕ → Option ℕ
number_on n [] = n
number_on None (d ∷ ds) = None
number_on (Some n) (d ∷ ds) = number_on (digit_on n d) ds

-- the number of 64 bits that the field spells in decimal, without leading zeros
unfoldable pub number_of : List ℕ → Option ℕ
number_of [] = None
number_of (d ∷ []) = number_on (Some 0) (d ∷ [])
number_of (d ∷ e ∷ ds) = if d == 48 then None else number_on (Some 0) (d ∷ e ∷ ds)

abbrev pub below : ℕ → Option ℕ → Option ℕ
below limit None = None
below limit (Some n) = if nat_lt n limit then Some n else None

abbrev pub number_below : ℕ → List ℕ → Option ℕ
number_below limit field = below limit (number_of field)

-- ---- actors of a configuration

abbrev pub numbered : (ℕ → Actor) → Option ℕ → Option Actor
numbered actor None = None
numbered actor (Some i) = Some (actor i)

-- a letter and a number
abbrev pub lettered : Configuration → ℕ → List ℕ → Option Actor
lettered c letter digits =
    if letter == 114 then numbered Replica (number_below c.replicas digits)
    else if letter == 115 then numbered Sequencer (number_below c.sequencers digits)
    else if letter == 99 then numbered Client (number_below c.clients digits)
    else if letter == 111 then numbered Observer (number_below c.observers digits)
    else None

abbrev pub by_letter : Configuration → List ℕ → Option Actor
by_letter c [] = None
by_letter c (letter ∷ digits) = lettered c letter digits

-- a number from 1
abbrev pub from_one : Option ℕ → Option ℕ
from_one None = None
from_one (Some zero) = None
from_one (Some (suc k)) = Some (suc k)

-- `ctl` and a number from 1
abbrev pub by_number : Configuration → List ℕ → Option Actor
by_number c digits = numbered Controller (from_one (number_below c.controllers digits))

-- the actor of this configuration that the field names: `ctl` is controller 0; `ctl` and a number, or `r`, `s`, `c` or `o` and a
-- number
unfoldable pub actor_of : Configuration → List ℕ → Option Actor
actor_of c field =
    if is_text (codes "ctl") field then Some (Controller 0)
    else if is_text (codes "ctl") (take 3 field) then by_number c (drop 3 field)
    else by_letter c field

-- the actor is of the configuration
abbrev pub IsActorOf : Configuration → Actor → Type 0
IsActorOf c (Replica i) = i < c.replicas
IsActorOf c (Sequencer i) = i < c.sequencers
IsActorOf c (Client i) = i < c.clients
IsActorOf c (Controller i) = i < c.controllers
IsActorOf c (Observer i) = i < c.observers

abbrev pub client_number : Option Actor → Option ℕ
client_number (Some (Client i)) = Some i
client_number _ = None

abbrev pub sequencer_number : Option Actor → Option ℕ
sequencer_number (Some (Sequencer i)) = Some i
sequencer_number _ = None

abbrev pub controller_number : Option Actor → Option ℕ
controller_number (Some (Controller i)) = Some i
controller_number _ = None

abbrev pub observer_number : Option Actor → Option ℕ
observer_number (Some (Observer i)) = Some i
observer_number _ = None

-- ---- bytes in hexadecimal

abbrev pub as_option : Result (List ℕ) FromHexError → Option (List ℕ)
as_option (Ok bytes) = Some bytes
as_option (Err e) = None

-- `-` for none, else two digits for each byte, of which there is at least one
unfoldable pub bytes_of : List ℕ → Option (List ℕ)
bytes_of [] = None
bytes_of (d ∷ ds) = if is_text (codes "-") (d ∷ ds) then Some [] else as_option (decode_of (d ∷ ds))

-- a key has 1 to 64 bytes
abbrev pub as_key : List ℕ → Option (List ℕ)
as_key bytes = if nat_le 1 (length bytes) && nat_le (length bytes) MAX_KEY_BYTES then Some bytes else None

abbrev pub key_in : Option (List ℕ) → Option (List ℕ)
key_in None = None
key_in (Some bytes) = as_key bytes

abbrev pub key_of : List ℕ → Option (List ℕ)
key_of field = key_in (bytes_of field)
