-- What is kept and what is answered, over any fragments.
use Rattle.std.specs.Prelude.{◌≡◌, ℕ, ◌<◌, ◌≤◌, ◌^◌, List, [], ◌∷◌, ◌++◌, length, get_or, Option, Some, None, All}
use Rattle.std.specs.List.{flat_map}
use Rattle.std.specs.Option.{option_to_list}
use Rattle.nop_types.specs.declared.limits.TheConstants.{FRAGMENT_BYTES, MAX_FRAGMENTS, MAX_UNFINISHED}
use Rattle.nop_types.specs.declared.datagram.Fragment.{Fragment}
use Rattle.nop_types.specs.Lists.{Has}
use Rattle.fragments.specs.Parts.{Partial, bytes_of}
use Rattle.fragments.specs.Joining.{Waiting, opening, taken}
use Rattle.fragments.specs.Cutting.{fragments_of, piece_count}

-- ---- what is kept and answered came in fragments

-- the fragment that brought a part
abbrev pub part_of : ℕ → Partial → ℕ → List ℕ → Fragment
part_of sender m index payload = record { replica = sender; message = m.number; index = index; count = length m.parts; payload = payload }

-- each part of an unfinished message of a sender came in a fragment of the list
pub record Came (net : List Fragment) (sender : ℕ) (m : Partial) : Type 0 where
  pub each : (index : ℕ) (payload : List ℕ) → get_or m.parts index None ≡ Some payload → Has net (part_of sender m index payload)

-- so it is with all that is kept
pub record AllCame (net : List Fragment) (all : List Waiting) : Type 0 where
  pub of_sender : (sender : ℕ) → All (Came net sender) (get_or all sender [])

abbrev pub concat : List (List ℕ) → List ℕ
concat parts = flat_map (λ part. part) parts

-- the bytes are parts of one message, that of f: for each index below the count a fragment of f's sender and number with that
-- part is in the list
pub record CameInParts (net : List Fragment) (f : Fragment) (bytes : List ℕ) : Type 0 where
  pub parts : List (List ℕ)
  pub count : length parts ≡ f.count
  pub joined : bytes ≡ concat parts
  pub came : (i : ℕ) → i < f.count
      → Has net (record { replica = f.replica; message = f.message; index = i; count = f.count; payload = get_or parts i [] })

-- of a step: what it leaves and what it answers
pub record StepKeeps (net : List Fragment) (f : Fragment) (r : List Waiting × Option (List ℕ)) : Type 0 where
  pub kept : AllCame net r.0
  pub gave : (bytes : List ℕ) → r.1 ≡ Some bytes → CameInParts net f bytes

-- what is kept after these fragments were taken one after the other
abbrev pub after_all : List Waiting → List Fragment → List Waiting
after_all all [] = all
after_all all (f ∷ fs) = after_all (taken all f).0 fs

abbrev pub after : ℕ → List Fragment → List Waiting
after n past = after_all (opening n) past

-- what they answer, in order
abbrev pub answered : List Waiting → List Fragment → List (List ℕ)
answered all [] = []
answered all (f ∷ fs) = option_to_list (taken all f).1 ++ answered (taken all f).0 fs

-- ---- what is answered was sent

-- a message, and under which number its sender sent it
pub record Sent : Type 0 where
  pub sender : ℕ
  pub number : ℕ
  pub bytes : List ℕ

-- no sender used a number for two messages
abbrev pub AreDistinct : List Sent → Type 0
AreDistinct sent = (a b : Sent) → Has sent a → Has sent b → a.sender ≡ b.sender → a.number ≡ b.number → a.bytes ≡ b.bytes

-- the fragment was cut from a message that was sent
pub record IsCutFrom (sent : List Sent) (f : Fragment) : Type 0 where
  pub message : Sent
  pub was_sent : Has sent message
  pub cut : Has (fragments_of message.sender message.number message.bytes) f

-- each fragment of the list was
abbrev pub AreCutFrom : List Sent → List Fragment → Type 0
AreCutFrom sent net = (f : Fragment) → Has net f → IsCutFrom sent f

-- f's sender sent the bytes under f's number
abbrev pub WasSent : List Sent → Fragment → List ℕ → Type 0
WasSent sent f bytes = Has sent (record { sender = f.replica; number = f.message; bytes = bytes })

-- ---- limits

-- of an unfinished message
pub record PartialFits (m : Partial) : Type 0 where
  pub count : length m.parts ≤ MAX_FRAGMENTS
  pub each : All (λ part. length (bytes_of part) ≤ FRAGMENT_BYTES) m.parts

pub record WaitingFits (q : Waiting) : Type 0 where
  pub few : length q ≤ MAX_UNFINISHED
  pub each : All PartialFits q

-- of a message that is sent
pub record CanBeCut (sender number : ℕ) (bytes : List ℕ) : Type 0 where
  pub replica : sender ≤ 6
  pub low : 1 ≤ number
  pub high : number < 2 ^ 64
  pub some : 1 ≤ length bytes
  pub few : piece_count bytes ≤ MAX_FRAGMENTS
