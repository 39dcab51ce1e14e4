-- What a step of an observer does: it takes a packet and its position does not fall, or it answers a read.
use Rattle.std.proofs.Common.{◌≡◌, ◌≤◌, ℕ, Bool, true, false, Option, Some, None, refl, sym, ap, ◌∙◌, arith, List, [], ◌∷◌}
use Rattle.std.specs.Prelude.{Result, Ok, Err, ◌==◌, nat_lt}
use Rattle.nop_types.specs.Configuration.{Configuration}
use Rattle.nop_types.specs.Given.{Given, Packet}
use Rattle.nop_types.specs.Logs.{Trimmed}
use Rattle.nop_types.specs.Meaning.{Meaning}
use Rattle.nop_types.specs.declared.datagram.Datagram.{Datagram}
use Rattle.nop_types.specs.declared.datagram.Datagram.TheVariants as datagrams
use Rattle.nop_types.specs.declared.datagram.Fragment.{Fragment}
use Rattle.nop_types.specs.declared.datagram.Read.{Read}
use Rattle.nop_types.specs.declared.output.Out.{Out}
use Rattle.nop_types.specs.declared.peer.Peer.{Peer}
use Rattle.oum_codec.specs.declared.bad.Bad.{Bad}
use Rattle.oum_codec.specs.Reading.{reading}
use Rattle.peer_codec.specs.declared.bad_peer.BadPeer.{BadPeer}
use Rattle.peer_codec.specs.Reading as peers
use Rattle.fragments.specs.Joining.{taken}
use Rattle.observer.specs.Hearing.{Hearing, of_sender_if, read, joined, fragment_if, fragment}
use Rattle.observer.specs.ObserverSteps.{Observer, answered, on_datagram, next, after, opening}
use Rattle.observer.specs.Observing.{position}
use Rattle.observer.proofs.Positions.{positions_rise}

-- the new state, and what is given
pub data ObserverRow {S : Type 0} (m : Meaning S) (s : Observer) (x : Given) : Observer × List Out → Type 0 where
  Hears : (t : Observer) → position s.heard.state ≤ position t.heard.state → ObserverRow m s x (t, [])
  Answers : (bytes : List ℕ) (r : Read) → x ≡ Packet bytes → reading bytes ≡ Ok (datagrams.Read r)
      → ObserverRow m s x (s, answered m s r ∷ [])

module _ {S : Type 0} (m : Meaning S) where
  -- ---- what is heard takes no position back

  of_sender_rises : (n : ℕ) (b : Bool) (s : Hearing) (p : Peer) → position s.state ≤ position (of_sender_if m n b s p).state
  of_sender_rises n true s p = positions_rise m Trimmed n s.state p
  of_sender_rises n false s p = omega arith

  read_rises : (n : ℕ) (s : Hearing) (q : ℕ) (r : Result Peer BadPeer) → position s.state ≤ position (read m n s q r).state
  read_rises n s q (Ok p) = of_sender_rises n (p.sender == q) s p
  read_rises n s q (Err e) = omega arith

  joined_rises : (n : ℕ) (s : Hearing) (q : ℕ) (o : Option (List ℕ)) → position s.state ≤ position (joined m n s q o).state
  joined_rises n s q None = omega arith
  joined_rises n s q (Some bytes) = read_rises n s q (peers.reading bytes)

  fragment_if_rises : (n : ℕ) (b : Bool) (s : Hearing) (f : Fragment) → position s.state ≤ position (fragment_if m n b s f).state
  fragment_if_rises n true s f = joined_rises n (record s { reassembly = (taken s.reassembly f).0 }) f.replica (taken s.reassembly f).1
  fragment_if_rises n false s f = omega arith

  -- ---- each step is a row

  datagram_row : (s : Observer) (bytes : List ℕ) (d : Result Datagram Bad) → reading bytes ≡ d
      → ObserverRow m s (Packet bytes) (on_datagram m s d)
  datagram_row s bytes (Ok (datagrams.Fragment f)) is =
      Hears (record s { heard = fragment m s.config.replicas s.heard f })
      (fragment_if_rises s.config.replicas (nat_lt f.replica s.config.replicas) s.heard f)
  datagram_row s bytes (Ok (datagrams.Read r)) is = Answers bytes r refl is
  datagram_row s bytes _ is = Hears s (omega arith)

  pub row_of : (s : Observer) (x : Given) → ObserverRow m s x (next m s x)
  unfolding next
  row_of s (Packet bytes) = datagram_row s bytes (reading bytes) refl
  row_of s _ = Hears s (omega arith)

  -- ---- it keeps its number

  datagram_number : (s : Observer) (d : Result Datagram Bad) → (on_datagram m s d).0.number ≡ s.number
  datagram_number s (Ok (datagrams.Fragment f)) = refl
  datagram_number s _ = refl

  next_number : (s : Observer) (x : Given) → (next m s x).0.number ≡ s.number
  unfolding next
  next_number s (Packet bytes) = datagram_number s (reading bytes)
  next_number s _ = refl

  after_number : (s : Observer) (xs : List Given) → (after m s xs).number ≡ s.number
  after_number s [] = refl
  after_number s (x ∷ xs) = after_number (next m s x).0 xs ∙ next_number s x

  pub number_stays : (config : Configuration) (i : ℕ) (xs : List Given) (s : Observer) → after m (opening config i) xs ≡ s → s.number ≡ i
  number_stays config i xs s is = ap (λ (t : Observer). t.number) (sym is) ∙ after_number (opening config i) xs
