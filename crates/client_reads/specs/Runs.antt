-- Runs of a client's reads over any inputs, and what they give.
use Rattle.std.specs.Prelude.{◌≡◌, ℕ, ◌+◌, ◌<◌, ◌≤◌, ⊤, List, [], ◌∷◌, ◌++◌, Option, Some, None, Result, Ok, length, slice_get}
use Rattle.nop_types.specs.declared.limits.TheConstants.{MAX_KEY_BYTES}
use Rattle.nop_types.specs.Given.{Given, Packet, Read}
use Rattle.nop_types.specs.declared.output.Out.{Out}
use Rattle.nop_types.specs.declared.output.Out.TheVariants as outs
use Rattle.nop_types.specs.declared.output.Out.TheVariants.{Send, Busy, Answered}
use Rattle.nop_types.specs.declared.output.Dest.{Dest}
use Rattle.nop_types.specs.declared.output.Dest.TheVariants.{One}
use Rattle.nop_types.specs.declared.output.Actor.TheVariants.{Observer}
use Rattle.nop_types.specs.declared.datagram.Answer.{Answer}
use Rattle.nop_types.specs.declared.datagram.Datagram.{Datagram}
use Rattle.nop_types.specs.declared.datagram.Datagram.TheVariants as datagrams
use Rattle.oum_codec.specs.declared.bad.Bad.{Bad}
use Rattle.oum_codec.specs.Reading.{reading}
use Rattle.oum_codec.specs.Spelling.{Spells}
use Rattle.client_reads.specs.declared.state.Reading.{Reading}
use Rattle.client_reads.specs.declared.state.Reads.{Reads}
use Rattle.client_reads.specs.ReadSteps.{next, sent}

-- the state after some inputs
abbrev pub after : Reads → List Given → Reads
after s [] = s
after s (x ∷ xs) = after (next s x).0 xs

-- what they give, in order
abbrev pub gave : Reads → List Given → List Out
gave s [] = []
gave s (x ∷ xs) = (next s x).1 ++ gave (next s x).0 xs

-- ---- answers

-- the answer that a packet is, if it is one
abbrev pub answer_in : Result Datagram Bad → List Answer
answer_in (Ok (datagrams.Answer a)) = a ∷ []
answer_in _ = []

abbrev pub answer_of : Given → List Answer
answer_of (Packet bytes) = answer_in (reading bytes)
answer_of _ = []

-- ---- one read after the other

-- it is the read that waits, to its observer
abbrev pub SendsHeld : (number : ℕ) → Option Reading → Out → Type 0
SendsHeld number None out = ⊥
SendsHeld number (Some r) out = out ≡ sent number r

-- an answer to the read that waits, from its observer
abbrev pub EndsHeld : (number : ℕ) → Option Reading → (client id observer : ℕ) → Type 0
EndsHeld number None client id observer = ⊥
EndsHeld number (Some r) client id observer = (client ≡ number) × (id ≡ r.id) × (observer ≡ r.observer)

-- with this read waiting, if one does, and this id the last one: a key is asked for under the next id where no read waits,
-- what is sent is the read that waits, to its observer, and it is answered once, by that observer
abbrev pub TakeTurns : (number : ℕ) → Option Reading → (last : ℕ) → List Out → Type 0
TakeTurns number held last [] = ⊤
TakeTurns number held last (outs.Reading client id observer key ∷ rest) =
    (held ≡ None) × (client ≡ number) × (id ≡ last + 1)
    × TakeTurns number (Some (record { id = id; observer = observer; key = key })) (last + 1) rest
TakeTurns number held last (Send dest bytes ∷ rest) = SendsHeld number held (Send dest bytes) × TakeTurns number held last rest
TakeTurns number held last (Answered client id observer position result ∷ rest) =
    EndsHeld number held client id observer × TakeTurns number None last rest
TakeTurns number held last (Busy client ∷ rest) = (client ≡ number) × TakeTurns number held last rest
TakeTurns number held last (_ ∷ rest) = ⊥

-- before this place, the observer was asked for a key under this client and id
pub record WasAsked (all : List Out) (end client id observer : ℕ) : Type 0 where
  pub place : ℕ
  pub key : List ℕ
  pub before : place < end
  pub reading : slice_get all place ≡ Some (outs.Reading client id observer key)

-- ---- how many

-- how often a key was asked for
abbrev pub read_count : List Out → ℕ
read_count [] = 0
read_count (outs.Reading client id observer key ∷ rest) = 1 + read_count rest
read_count (_ ∷ rest) = read_count rest

-- how many reads were answered
abbrev pub answer_count : List Out → ℕ
answer_count [] = 0
answer_count (Answered client id observer position result ∷ rest) = 1 + answer_count rest
answer_count (_ ∷ rest) = answer_count rest

-- ---- ranges

-- a key that is asked for has 1 to `MAX_KEY_BYTES` bytes
abbrev pub KeyFits : Given → Type 0
KeyFits (Read observer key) = (1 ≤ length key) × (length key ≤ MAX_KEY_BYTES)
KeyFits _ = ⊤

abbrev pub KeysFit : List Given → Type 0
KeysFit [] = ⊤
KeysFit (x ∷ xs) = KeyFits x × KeysFit xs

-- a read of the client with this number is spelled, with each field in its range, and is to an observer
pub record IsRead (number : ℕ) (dest : Dest) (bytes : List ℕ) : Type 0 where
  pub observer : ℕ
  pub id : ℕ
  pub key : List ℕ
  pub to : dest ≡ One (Observer observer)
  pub spells : Spells (datagrams.Read (record { client = number; id = id; key = key })) bytes
