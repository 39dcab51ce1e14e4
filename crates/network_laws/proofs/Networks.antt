-- Datagrams, and the fragments among them.
use Rattle.std.proofs.Common.{◌≡◌, ◌<◌, ◌+◌, ◌^◌, ℕ, refl, sym, ap, subst, ◌∙◌, inl, inr}
use Rattle.std.proofs.Common.{List, [], ◌∷◌, ◌++◌, append_assoc}
use Rattle.std.proofs.lemmas.List.{append-nil}
use Rattle.std.specs.Prelude.{IfOk, Result, Ok}
use Rattle.std.specs.List.{AllByRecursion}
use Rattle.nop_types.specs.Given.{Packet}
use Rattle.nop_types.specs.Lists.{Has}
use Rattle.nop_types.specs.Ranges.{DatagramFits}
use Rattle.nop_types.specs.declared.datagram.Datagram.{Datagram}
use Rattle.nop_types.specs.declared.datagram.Datagram.TheVariants as datagrams
use Rattle.nop_types.specs.declared.datagram.Fragment.{Fragment}
use Rattle.nop_types.specs.declared.output.Out.{Out}
use Rattle.nop_types.specs.declared.output.Out.TheVariants as outs
use Rattle.nop_types.specs.declared.peer.Peer.{Peer}
use Rattle.lemmas.specs.Functions.{put}
use Rattle.lemmas.proofs.Members.{Has-first, Has-none, Has-cases, Has-append_left, Has-append_right, Has-append_cases}
use Rattle.oum_codec.specs.declared.bad.Bad.{Bad}
use Rattle.oum_codec.specs.Reading.{reading}
use Rattle.oum_codec.specs.Spelling.{Spells}
use Rattle.oum_codec.proofs.Datagrams.{reads_again}
use Rattle.replica_state.specs.declared.sending.Sending.{Sending}
use Rattle.replica_core.specs.Posting.{posted}
use Rattle.replica_state.specs.Sends.{SendingFits, message_count}
use Rattle.network_laws.specs.Carried.{Carried}
use Rattle.network_laws.specs.Network.{bytes_in, fragments_among, IsDatagram, IsOtherDatagram, MayCome, Network}
use Rattle.network_laws.specs.PostedFragments.{fragment_read, fragments_in}
use Rattle.network_laws.specs.Sends.{peers_in, IsBy}
use Rattle.network_laws.proofs.Posted.{posts_replies}
use Rattle.network_laws.proofs.Carrying.{opening_carries, posting_carries}

-- ---- the fragments among datagrams

pub among_append : (a b : List (List ℕ)) → fragments_among (a ++ b) ≡ fragments_among a ++ fragments_among b
among_append [] b = refl
among_append (bytes ∷ a) b =
    ap (λ (fs : List Fragment). fragment_read (reading bytes) ++ fs) (among_append a b)
    ∙ sym (append_assoc (fragment_read (reading bytes)) (fragments_among a) (fragments_among b))

-- the same as the fragments among the outputs
pub among_outs : (os : List Out) → fragments_among (bytes_in os) ≡ fragments_in os
among_outs [] = refl
among_outs (outs.Send dest bytes ∷ os) = ap (λ (fs : List Fragment). fragment_read (reading bytes) ++ fs) (among_outs os)
among_outs (_ ∷ os) = among_outs os

-- a fragment that is read of the bytes of one
pub among_has : (sent : List (List ℕ)) (bytes : List ℕ) (f : Fragment) → Has sent bytes → reading bytes ≡ Ok (datagrams.Fragment f)
    → Has (fragments_among sent) f
among_has [] bytes f h read = absurd (Has-none bytes h)
among_has (first ∷ rest) bytes f h read = elim (Has-cases bytes first rest h) [
  | inl same ↦
      let one : fragment_read (reading first) ≡ f ∷ [] = ap fragment_read (ap reading (sym same) ∙ read) in
      Has-append_left (fragment_read (reading first)) (fragments_among rest) f
      (subst (λ (fs : List Fragment). Has fs f) (sym one) (Has-first f f [] refl))
  | inr later ↦ Has-append_right (fragment_read (reading first)) (fragments_among rest) f (among_has rest bytes f later read)
]

-- ---- datagrams in their ranges

-- each of these is one
record AreDatagrams (sent : List (List ℕ)) : Type 0 where
  each : (bytes : List ℕ) → Has sent bytes → IsDatagram bytes

none_sent : AreDatagrams []
none_sent = record { each = λ bytes h. absurd (Has-none bytes h) }

one_sent : (d : Datagram) (bytes : List ℕ) (rest : List (List ℕ)) → Spells d bytes → AreDatagrams rest → AreDatagrams (bytes ∷ rest)
one_sent d bytes rest s h = record {
  each = λ b i. elim (Has-cases b bytes rest i) [
    | inl first ↦ subst IsDatagram (sym first) (record { datagram = d; spells = s })
    | inr later ↦ h.each b later
  ];
}

both_sent : (a b : List (List ℕ)) → AreDatagrams a → AreDatagrams b → AreDatagrams (a ++ b)
both_sent a b f g = record {
  each = λ bytes i. elim (Has-append_cases a b bytes i) [
    | inl left ↦ f.each bytes left
    | inr right ↦ g.each bytes right
  ];
}

-- what a replica posts
posted_sent : (number : ℕ) (sends : List Sending) → AllByRecursion SendingFits sends → number + message_count sends < 2 ^ 64
    → AreDatagrams (bytes_in (posted number sends))
posted_sent number sends fits high = record {
  each = λ bytes i. elim ((posts_replies number sends fits high).only bytes i) [
    | inl r ↦ record { datagram = datagrams.Reply r.reply; spells = r.spells }
    | inr f ↦ record { datagram = datagrams.Fragment f.fragment; spells = f.spells }
  ];
}

-- ---- networks

pub opening_network : Network [] [] (λ (r : ℕ). 0)
opening_network = record { datagrams = none_sent.each; carried = opening_carries }

-- a replica posts what it sends
pub posting_network : (peer_messages : List Peer) (sent : List (List ℕ)) (used : ℕ → ℕ) (r : ℕ) (sends : List Sending) → Network peer_messages sent used
    → AllByRecursion SendingFits sends → AllByRecursion (IsBy r) sends → used r + message_count sends < 2 ^ 64
    → Network (peers_in sends ++ peer_messages) (sent ++ bytes_in (posted (used r) sends)) (put used r (used r + message_count sends))
posting_network peer_messages sent used r sends n fits by high =
    let os : List Out = posted (used r) sends in
    let more : fragments_among (sent ++ bytes_in os) ≡ fragments_among sent ++ fragments_in os =
    among_append sent (bytes_in os) ∙ ap (λ (fs : List Fragment). fragments_among sent ++ fs) (among_outs os) in
    record {
      datagrams = (both_sent sent (bytes_in os) (record { each = n.datagrams }) (posted_sent (used r) sends fits high)).each;
      carried =
          subst (λ (fs : List Fragment). Carried (peers_in sends ++ peer_messages) fs (put used r (used r + message_count sends))) (sym more)
          (posting_carries peer_messages (fragments_among sent) used r sends n.carried fits by high);
    }

-- what is read of a packet is in its ranges
pub packet_fits : (peer_messages : List Peer) (sent : List (List ℕ)) (used : ℕ → ℕ) (bytes : List ℕ) → Network peer_messages sent used
    → MayCome sent (Packet bytes) → IfOk (reading bytes) DatagramFits
packet_fits peer_messages sent used bytes n (inl has) =
    let d = n.datagrams bytes has in
    let read : reading bytes ≡ Ok d.datagram = ap reading d.spells.spelled ∙ reads_again d.datagram d.spells.fits in
    subst (λ (x : Result Datagram Bad). IfOk x DatagramFits) (sym read) d.spells.fits
packet_fits peer_messages sent used bytes n (inr none) = subst (λ (x : Result Datagram Bad). IfOk x DatagramFits) (sym none.refused) tt

-- ---- datagrams that are no fragments

other_none : (bytes : List ℕ) → IsOtherDatagram bytes → fragment_read (reading bytes) ≡ []
other_none bytes h =
    let read : reading bytes ≡ Ok h.datagram = ap reading h.spells.spelled ∙ reads_again h.datagram h.spells.fits in
    ap fragment_read read ∙ h.other

among_none : (more : List (List ℕ)) → AllByRecursion IsOtherDatagram more → fragments_among more ≡ []
among_none [] h = refl
among_none (bytes ∷ more) h = rw (other_none bytes h.0) (among_none more h.1)

others_sent : (more : List (List ℕ)) → AllByRecursion IsOtherDatagram more → AreDatagrams more
others_sent [] h = none_sent
others_sent (bytes ∷ more) h = one_sent h.0.datagram bytes more h.0.spells (others_sent more h.1)

-- another actor sends them
pub others_network : (peer_messages : List Peer) (sent more : List (List ℕ)) (used : ℕ → ℕ) → Network peer_messages sent used
    → AllByRecursion IsOtherDatagram more → Network peer_messages (sent ++ more) used
others_network peer_messages sent more used n h =
    let same : fragments_among (sent ++ more) ≡ fragments_among sent =
    among_append sent more ∙ ap (λ (fs : List Fragment). fragments_among sent ++ fs) (among_none more h)
    ∙ append-nil (fragments_among sent) in
    record {
      datagrams = (both_sent sent more (record { each = n.datagrams }) (others_sent more h)).each;
      carried = subst (λ (fs : List Fragment). Carried peer_messages fs used) (sym same) n.carried;
    }
