-- What an observer makes of fragments: they are joined, and a message that is complete is its row.
use Rattle.std.specs.Prelude.{ℕ, List, Bool, true, false, Option, Some, None, Result, Ok, Err, nat_lt, ◌==◌}
use Rattle.nop_types.specs.Logs.{Trimmed}
use Rattle.nop_types.specs.Meaning.{Meaning}
use Rattle.nop_types.specs.declared.datagram.Fragment.{Fragment}
use Rattle.nop_types.specs.declared.peer.Peer.{Peer}
use Rattle.peer_codec.specs.declared.bad_peer.BadPeer.{BadPeer}
use Rattle.peer_codec.specs.Reading as peers
use Rattle.fragments.specs.Joining.{Waiting, taken}
use Rattle.fragments.specs.Joining as joining
use Rattle.observer.specs.Observing as observing
use Rattle.observer.specs.Observing.{Observing, told}

-- what it knows, and the fragments that wait
pub record Hearing : Type 0 where
  pub state : Observing
  pub reassembly : List Waiting

-- of so many replicas
abbrev pub opening : ℕ → Hearing
opening n = record { state = observing.opening; reassembly = joining.opening n }

module _ {S : Type 0} (m : Meaning S) (n : ℕ) where
  -- the message that is joined has to be of the fragment's replica
  abbrev pub of_sender_if : Bool → Hearing → Peer → Hearing
  of_sender_if true s p = record s { state = told m Trimmed n s.state p }
  of_sender_if false s p = s

  abbrev pub read : Hearing → ℕ → Result Peer BadPeer → Hearing
  read s q (Ok p) = of_sender_if (p.sender == q) s p
  read s q (Err e) = s

  abbrev pub joined : Hearing → ℕ → Option (List ℕ) → Hearing
  joined s q None = s
  joined s q (Some bytes) = read s q (peers.reading bytes)

  abbrev pub fragment_if : Bool → Hearing → Fragment → Hearing
  fragment_if true s f = joined (record s { reassembly = (taken s.reassembly f).0 }) f.replica (taken s.reassembly f).1
  fragment_if false s f = s

  -- a fragment of any replica
  abbrev pub fragment : Hearing → Fragment → Hearing
  fragment s f = fragment_if (nat_lt f.replica n) s f
