-- What a replica sends: replies to clients, and messages that say something.
use Rattle.std.proofs.Common.{◌≡◌, refl, ap, subst, sym, inl, inr, List, [], ◌∷◌}
use Rattle.std.specs.List.{AllByRecursion}
use Rattle.nop_types.specs.Lists.{Has}
use Rattle.nop_types.specs.Logs.{Keeping}
use Rattle.nop_types.specs.Ranges.{PeerIsIn, ReplyFits}
use Rattle.nop_types.specs.declared.datagram.Reply.{Reply}
use Rattle.nop_types.specs.declared.peer.Peer.{Peer}
use Rattle.lemmas.proofs.Members.{Has-none, Has-first, Has-rest, Has-cases}
use Rattle.replica_state.specs.declared.sending.Sending.{Sending}
use Rattle.replica_state.specs.declared.sending.Sending.TheVariants.{ToClient, ToReplicas, Trims}
use Rattle.replica_state.specs.Sends.{SendingIsIn}
use Rattle.protocol.specs.Said.{Said}
use Rattle.network_laws.specs.Sends.{peers_in}
use Rattle.refinement.specs.Projection.{said_of, said_in, replied_in}
use Rattle.whole_world.specs.Shows.{MessageSays}

-- ---- replies

pub replied_is_sent : (sends : List Sending) (y : Reply) → Has (replied_in sends) y → Has sends (ToClient y)
replied_is_sent [] y h = absurd (Has-none y h)
replied_is_sent (ToClient r ∷ sends) y h = elim (Has-cases y r (replied_in sends) h) [
  | inl e ↦ Has-first (ToClient y) (ToClient r) sends (ap ToClient e)
  | inr j ↦ Has-rest (ToClient y) (ToClient r) sends (replied_is_sent sends y j)
]
replied_is_sent (x ∷ sends) y h = Has-rest (ToClient y) x sends (replied_is_sent sends y h)

pub sent_is_replied : (sends : List Sending) (y : Reply) → Has sends (ToClient y) → Has (replied_in sends) y
sent_is_replied [] y h = absurd (Has-none (ToClient y) h)
sent_is_replied (ToClient r ∷ sends) y h = elim (Has-cases (ToClient y) (ToClient r) sends h) [
  | inl e ↦ (let same : y ≡ r = cc in Has-first y r (replied_in sends) same)
  | inr j ↦ Has-rest y r (replied_in sends) (sent_is_replied sends y j)
]
sent_is_replied (ToReplicas dest p ∷ sends) y h = elim (Has-cases (ToClient y) (ToReplicas dest p) sends h) [
  | inl e ↦ absurd cc
  | inr j ↦ sent_is_replied sends y j
]
sent_is_replied (Trims n l ∷ sends) y h = elim (Has-cases (ToClient y) (Trims n l) sends h) [
  | inl e ↦ absurd cc
  | inr j ↦ sent_is_replied sends y j
]

pub reply_fits : (k : Keeping) (sends : List Sending) (y : Reply) → AllByRecursion (SendingIsIn k) sends → Has sends (ToClient y) → ReplyFits y
reply_fits k [] y fits h = absurd (Has-none (ToClient y) h)
reply_fits k (x ∷ sends) y fits h = elim (Has-cases (ToClient y) x sends h) [
  | inl e ↦ subst (SendingIsIn k) (sym e) fits.0
  | inr j ↦ reply_fits k sends y fits.1 j
]

-- ---- messages

pub peers_fit : (k : Keeping) (sends : List Sending) (p : Peer) → AllByRecursion (SendingIsIn k) sends → Has (peers_in sends) p → PeerIsIn k p
peers_fit k [] p fits h = absurd (Has-none p h)
peers_fit k (ToClient r ∷ sends) p fits h = peers_fit k sends p fits.1 h
peers_fit k (ToReplicas dest q ∷ sends) p fits h = elim (Has-cases p q (peers_in sends) h) [
  | inl e ↦ subst (PeerIsIn k) (sym e) fits.0
  | inr j ↦ peers_fit k sends p fits.1 j
]
peers_fit k (Trims n l ∷ sends) p fits h = peers_fit k sends p fits.1 h

pub peers_said : (sends : List Sending) (p : Peer) → Has (peers_in sends) p → Has (said_in sends) (said_of p)
peers_said [] p h = absurd (Has-none p h)
peers_said (ToClient r ∷ sends) p h = peers_said sends p h
peers_said (ToReplicas dest q ∷ sends) p h = elim (Has-cases p q (peers_in sends) h) [
  | inl e ↦ Has-first (said_of p) (said_of q) (said_in sends) (ap said_of e)
  | inr j ↦ Has-rest (said_of p) (said_of q) (said_in sends) (peers_said sends p j)
]
peers_said (Trims n l ∷ sends) p h = peers_said sends p h

pub said_by_peers : (sends : List Sending) (x : Said) → Has (said_in sends) x → MessageSays (peers_in sends) x
said_by_peers [] x h = absurd (Has-none x h)
said_by_peers (ToClient r ∷ sends) x h = said_by_peers sends x h
said_by_peers (ToReplicas dest q ∷ sends) x h = elim (Has-cases x (said_of q) (said_in sends) h) [
  | inl e ↦ record { peer = q; has = Has-first q q (peers_in sends) refl; says = sym e }
  | inr j ↦ (let t = said_by_peers sends x j in
      record { peer = t.peer; has = Has-rest t.peer q (peers_in sends) t.has; says = t.says })
]
said_by_peers (Trims n l ∷ sends) x h = said_by_peers sends x h
