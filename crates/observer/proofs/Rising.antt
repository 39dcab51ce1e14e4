-- No position falls by a step.
use Rattle.std.proofs.Common.{◌≤◌, ℕ, Bool, true, false, Option, Some, None, List, Result, Ok, Err, arith}
use Rattle.std.specs.Prelude.{nat_lt, ◌==◌}
use Rattle.nop_types.specs.Given.{Given, Packet}
use Rattle.nop_types.specs.Logs.{Trimmed}
use Rattle.nop_types.specs.Meaning.{Meaning}
use Rattle.nop_types.specs.declared.datagram.Datagram.{Datagram}
use Rattle.nop_types.specs.declared.datagram.Datagram.TheVariants as datagrams
use Rattle.nop_types.specs.declared.datagram.Fragment.{Fragment}
use Rattle.nop_types.specs.declared.peer.Peer.{Peer}
use Rattle.oum_codec.specs.declared.bad.Bad.{Bad}
use Rattle.oum_codec.specs.Reading.{reading}
use Rattle.peer_codec.specs.declared.bad_peer.BadPeer.{BadPeer}
use Rattle.peer_codec.specs.Reading as peers
use Rattle.fragments.specs.Joining.{taken}
use Rattle.observer.specs.Hearing.{Hearing, of_sender_if, read, joined, fragment_if}
use Rattle.observer.specs.Observing.{position}
use Rattle.observer.specs.ObserverSteps.{Observer, next, on_datagram}
use Rattle.observer.proofs.Positions.{positions_rise}

module _ {S : Type 0} (m : Meaning S) where
  of_sender_rises : (n : ℕ) (b : Bool) (s : Hearing) (p : Peer) → position s.state ≤ position (of_sender_if m n b s p).state
  of_sender_rises n true s p = positions_rise m Trimmed n s.state p
  of_sender_rises n false s p = omega arith

  read_rises : (n q : ℕ) (s : Hearing) (r : Result Peer BadPeer) → position s.state ≤ position (read m n s q r).state
  read_rises n q s (Ok p) = of_sender_rises n (p.sender == q) s p
  read_rises n q s (Err e) = omega arith

  joined_rises : (n q : ℕ) (s : Hearing) (o : Option (List ℕ)) → position s.state ≤ position (joined m n s q o).state
  joined_rises n q s None = omega arith
  joined_rises n q s (Some bytes) = read_rises n q s (peers.reading bytes)

  fragment_rises : (n : ℕ) (b : Bool) (s : Hearing) (f : Fragment) → position s.state ≤ position (fragment_if m n b s f).state
  fragment_rises n true s f =
      joined_rises n f.replica (record s { reassembly = (taken s.reassembly f).0 }) (taken s.reassembly f).1
  fragment_rises n false s f = omega arith

  datagram_rises : (s : Observer) (r : Result Datagram Bad)
      → position s.heard.state ≤ position (on_datagram m s r).0.heard.state
  datagram_rises s (Ok (datagrams.Fragment f)) =
      fragment_rises s.config.replicas (nat_lt f.replica s.config.replicas) s.heard f
  datagram_rises s _ = omega arith

  pub next_rises : (s : Observer) (came : Given) → position s.heard.state ≤ position (next m s came).0.heard.state
  unfolding next
  next_rises s (Packet bytes) = datagram_rises s (reading bytes)
  next_rises s _ = omega arith
