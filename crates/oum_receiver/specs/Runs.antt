-- Runs of calls, and what they hand up.
use Rattle.std.specs.Prelude.{◌≡◌, ℕ, ◌+◌, ⊤, List, [], ◌∷◌, ◌++◌, Option, Some, None}
use Rattle.std.specs.FinMap as finite
use Rattle.nop_types.specs.declared.request.Request.{Request}
use Rattle.nop_types.specs.declared.datagram.Stamped.{Stamped}
use Rattle.nop_types.specs.Stamps.{WasStamped}
use Rattle.oum_receiver.specs.Front.{Front, Nothing, Message, Dropped}
use Rattle.oum_receiver.specs.Receiving.{Receiving, opened, offered, front_of, front_taken, advanced}

-- the calls that may change a receiver
pub data Call : Type 0 where
  Offer : (packet : Stamped) → Call
  TakeFront : Call
  TakeMessage : Call
  Advance : (next : ℕ) → Call
  Reset : (session next : ℕ) → Call

-- what is handed up for a message number of a session: its request, or a drop
pub record HandedUp : Type 0 where
  pub session : ℕ
  pub number : ℕ
  pub request : Option Request

-- with nothing in front, `take_front` is not called; here it then changes nothing
abbrev pub past_front : Front → Receiving → Receiving
past_front Nothing r = r
past_front (Message request) r = front_taken r
past_front Dropped r = front_taken r

-- past a request in front, and not past a drop
abbrev pub past_message : Front → Receiving → Receiving
past_message Nothing r = r
past_message (Message request) r = front_taken r
past_message Dropped r = r

-- what `take_front` hands up
abbrev pub handed_front : Front → Receiving → List HandedUp
handed_front Nothing r = []
handed_front (Message request) r = record { session = r.session; number = r.next; request = Some request } ∷ []
handed_front Dropped r = record { session = r.session; number = r.next; request = None } ∷ []

-- what `take_message` hands up
abbrev pub handed_message : Front → Receiving → List HandedUp
handed_message Nothing r = []
handed_message (Message request) r = record { session = r.session; number = r.next; request = Some request } ∷ []
handed_message Dropped r = []

-- the receiver after a call
abbrev pub after : Receiving → Call → Receiving
after r (Offer packet) = offered r packet
after r TakeFront = past_front (front_of r) r
after r TakeMessage = past_message (front_of r) r
after r (Advance next) = advanced r next
after r (Reset session next) = opened session next

-- what a call hands up
abbrev pub handed_by : Receiving → Call → List HandedUp
handed_by r TakeFront = handed_front (front_of r) r
handed_by r TakeMessage = handed_message (front_of r) r
handed_by r _ = []

-- what a list of calls hands up, in order
abbrev pub handed_up : Receiving → List Call → List HandedUp
handed_up r [] = []
handed_up r (call ∷ calls) = handed_by r call ++ handed_up (after r call) calls

-- the packets that are offered, in order
abbrev pub packets_of : List Call → List Stamped
packets_of [] = []
packets_of (Offer packet ∷ calls) = packet ∷ packets_of calls
packets_of (TakeFront ∷ calls) = packets_of calls
packets_of (TakeMessage ∷ calls) = packets_of calls
packets_of (Advance next ∷ calls) = packets_of calls
packets_of (Reset session next ∷ calls) = packets_of calls

-- neither `advance` nor `reset` is among the calls
abbrev pub IsUninterrupted : List Call → Type 0
IsUninterrupted [] = ⊤
IsUninterrupted (Offer packet ∷ calls) = IsUninterrupted calls
IsUninterrupted (TakeFront ∷ calls) = IsUninterrupted calls
IsUninterrupted (TakeMessage ∷ calls) = IsUninterrupted calls
IsUninterrupted (Advance next ∷ calls) = ⊥
IsUninterrupted (Reset session next ∷ calls) = ⊥

-- of one session, with numbers that rise by one from this one
abbrev pub IsConsecutive : ℕ → ℕ → List HandedUp → Type 0
IsConsecutive session number [] = ⊤
IsConsecutive session number (h ∷ hs) = (h.session ≡ session) × (h.number ≡ number) × IsConsecutive session (number + 1) hs

-- each queued request was stamped with the receiver's session and its number
abbrev pub IsStampedBy : List Stamped → Receiving → Type 0
IsStampedBy packets r =
    (number : ℕ) (request : Request) → finite.get r.queued number ≡ Some request → WasStamped packets r.session number request

-- packets of one session and number in the two lists have one request
abbrev pub HaveOneRequest : List Stamped → List Stamped → Type 0
HaveOneRequest ps qs = (session number : ℕ) (a b : Request) → WasStamped ps session number a → WasStamped qs session number b → a ≡ b
