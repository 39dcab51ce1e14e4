-- What the forms in memory hold.
use Rattle.std.specs.Prelude.{◌≡◌, ℕ, ◌≤◌, min, Bool, true, false, List, [], ◌∷◌, length, map, ⊤}
use Rattle.nop_types.specs.declared.limits.TheConstants.{MAX_DATAGRAM_BYTES}
use Rattle.outside.specs.declared.link.PollAnswer.{PollAnswer}
use Rattle.outside.specs.declared.link.PollAnswer.TheVariants.{Received, Nothing, Failure}
use Rattle.outside.specs.declared.link.LinkCall.{LinkCall}

-- the bytes that are left, and the plan of the reads to come
pub record ReadMemory (P : Type 0) : Type 0 where
  pub left : List ℕ
  pub plan : P

-- how many of the bytes that are left fit into a buffer
abbrev pub fitting : List ℕ → List ℕ → ℕ
fitting left buf = min (length left) (length buf)

-- the bytes that were written, and the plan of the writes to come
pub record WriteMemory (P : Type 0) : Type 0 where
  pub held : List ℕ
  pub plan : P

-- the own port, what the polls to come answer and how many failed, the calls that were made, and the plan of the sends to come
pub record LinkMemory (P : Type 0) : Type 0 where
  pub port : ℕ
  pub answers : List PollAnswer
  pub faults : ℕ
  pub trace : List LinkCall
  pub sends : P

-- a poll may answer a datagram of at most MAX_DATAGRAM_BYTES bytes, nothing, and a failure only where calls may fail
abbrev pub MayAnswer : Bool → PollAnswer → Type 0
MayAnswer may_fail (Received datagram) = length datagram ≤ MAX_DATAGRAM_BYTES
MayAnswer may_fail Nothing = ⊤
MayAnswer may_fail Failure = may_fail ≡ true

-- a count of faults, which is 0 by definition where no call may fail
abbrev pub count_if : Bool → ℕ → ℕ
count_if true faults = faults
count_if false faults = 0

-- no call was made on the link
pub record IsFresh {P : Type 0} (fault_count : P → ℕ) (l : LinkMemory P) : Type 0 where
  pub faults : l.faults ≡ 0
  pub trace : l.trace ≡ []
  pub losses : fault_count l.sends ≡ 0

abbrev pub answers_of : {P : Type 0} → List (LinkMemory P) → List (List PollAnswer)
answers_of links = map (λ l. l.answers) links

-- the link that an attach at a port gives: the next one, and after the last one a link without datagrams
abbrev pub link_at : {P : Type 0} → P → ℕ → List (LinkMemory P) → LinkMemory P
link_at opening port [] = record { port = port; answers = []; faults = 0; trace = []; sends = opening }
link_at opening port (l ∷ links) = record l { port = port }

-- the links to come, how many were given, those that came back, and the plan of the attaches to come
pub record PortsMemory (P : Type 0) : Type 0 where
  pub links : List (LinkMemory P)
  pub attached : ℕ
  pub detached : List (LinkMemory P)
  pub attaches : P
