-- A fragment delivers a message that was sent, or none.
use Rattle.std.proofs.Common.{◌≡◌, ℕ, Bool, true, false, Option, Some, None, refl, ap}
use Rattle.std.proofs.Common.{inl, inr, List, []}
use Rattle.std.specs.Prelude.{◌==◌, Result, Ok, Err}
use Rattle.std.proofs.lemmas.Bool.{eq-eqb}
use Rattle.nop_types.specs.Lists.{Has}
use Rattle.nop_types.specs.Meaning.{Meaning}
use Rattle.nop_types.specs.declared.datagram.Fragment.{Fragment}
use Rattle.nop_types.specs.declared.peer.Peer.{Peer}
use Rattle.fragments.specs.Joining.{taken}
use Rattle.fragments.specs.Runs.{AllCame}
use Rattle.fragments.proofs.Came.{keeps_what_came}
use Rattle.peer_codec.specs.declared.bad_peer.BadPeer.{BadPeer}
use Rattle.peer_codec.specs.Reading as peer
use Rattle.replica_state.specs.State.{is_other}
use Rattle.replica_core.specs.ReplicaSteps.{Replica, of_sender_if, read, joined}
use Rattle.replica_core.specs.ReplicaSteps.{fragment_if, fragment}
use Rattle.network_laws.specs.Carried.{Carried, WasSentInRange}
use Rattle.network_laws.specs.Steps.{Brings}
use Rattle.network_laws.proofs.Carrying.{joined_was_sent}

module _ {S : Type 0} (m : Meaning S) (peer_messages : List Peer) (net : List Fragment) (used : ℕ → ℕ) (s : Replica) (f : Fragment)
    (c : Carried peer_messages net used) (here : Has net f) (came : AllCame net s.reassembly) where
  abbrev t : Replica
  t = record s { reassembly = (taken s.reassembly f).0 }

  kept : AllCame net (taken s.reassembly f).0
  kept = (keeps_what_came net s.reassembly f here came).kept

  takes_only : Brings m peer_messages net s f (t, [])
  takes_only = inr (record { reassembly = (taken s.reassembly f).0; kept = kept; same = refl })

  sent_brings : (p : Peer) → WasSentInRange peer_messages f p → Brings m peer_messages net s f (of_sender_if m (p.sender == f.replica) t p)
  sent_brings p h = inl (record {
    peer = p;
    was_sent = h;
    kept = kept;
    row = ap (λ (b : Bool). of_sender_if m b t p) (eq-eqb p.sender f.replica h.sender);
  })

  read_brings : (bytes : List ℕ) (x : Result Peer BadPeer) → (taken s.reassembly f).1 ≡ Some bytes → peer.reading bytes ≡ x
      → Brings m peer_messages net s f (read m t f.replica x)
  read_brings bytes (Ok p) is e = sent_brings p (joined_was_sent peer_messages net used s.reassembly f bytes p c here came is e)
  read_brings bytes (Err e) is d = takes_only

  joined_brings : (o : Option (List ℕ)) → (taken s.reassembly f).1 ≡ o → Brings m peer_messages net s f (joined m t f.replica o)
  joined_brings None is = takes_only
  joined_brings (Some bytes) is = read_brings bytes (peer.reading bytes) is refl

  if_brings : (b : Bool) → Brings m peer_messages net s f (fragment_if m b s f)
  if_brings true = joined_brings (taken s.reassembly f).1 refl
  if_brings false = inr (record { reassembly = s.reassembly; kept = came; same = refl })

  brings : Brings m peer_messages net s f (fragment m s f)
  unfolding fragment
  brings = if_brings (is_other s.state f.replica)

pub fragment_brings : {S : Type 0} (m : Meaning S) (peer_messages : List Peer) (net : List Fragment) (used : ℕ → ℕ) (s : Replica) (f : Fragment)
    → Carried peer_messages net used → Has net f → AllCame net s.reassembly → Brings m peer_messages net s f (fragment m s f)
fragment_brings m peer_messages net used s f c here came = brings m peer_messages net used s f c here came
