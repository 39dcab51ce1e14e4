-- What was sent is in its ranges, also where a replica replied.
use Rattle.std.proofs.Common.{ℕ, sym, subst, inl, inr, List, [], ◌∷◌}
use Rattle.std.specs.List.{AllByRecursion}
use Rattle.nop_types.specs.Lists.{Has}
use Rattle.nop_types.specs.Meaning.{Meaning}
use Rattle.nop_types.specs.Ranges.{ReplyFits, InstallFits, DatagramFits}
use Rattle.nop_types.specs.declared.request.Request.{Request}
use Rattle.nop_types.specs.declared.datagram.Stamped.{Stamped}
use Rattle.nop_types.specs.declared.datagram.Reply.{Reply}
use Rattle.nop_types.specs.declared.datagram.Datagram.{Datagram}
use Rattle.nop_types.specs.declared.datagram.Datagram.TheVariants as datagrams
use Rattle.lemmas.proofs.Members.{Has-none, Has-cases}
use Rattle.replica_state.specs.declared.sending.Sending.{Sending}
use Rattle.replica_state.specs.declared.sending.Sending.TheVariants.{ToClient, ToReplicas, Trims}
use Rattle.replica_state.specs.Sends.{SendingFits}
use Rattle.protocol.specs.Conf.{Conf, Install}
use Rattle.refinement.specs.Projection.{replied_in}
use Rattle.refinement.specs.Ranges.{AllFit, ReplicasStayInRanges}
use Rattle.refinement.specs.Datagrams.{WasSent, IsWhole}

pub datagrams_fit : (c : Conf) (d : Datagram) → AllFit c → IsWhole d → WasSent c d → DatagramFits d
datagrams_fit c (datagrams.Request r) fit whole sent = fit.requests r sent
datagrams_fit c (datagrams.Stamped p) fit whole sent = fit.stamps p sent
datagrams_fit c (datagrams.Reply p) fit whole sent = fit.replies p sent
datagrams_fit c (datagrams.Install controller sequencer session) fit whole sent =
    subst (λ (n : ℕ). InstallFits n sequencer session) sent.own
    (fit.installs (record { sequencer = sequencer; session = session }) sent.given)
datagrams_fit c (datagrams.Fragment p) fit whole sent = absurd whole
datagrams_fit c _ fit whole sent = sent

-- ---- replicas

replies_fit : (sends : List Sending) → AllByRecursion SendingFits sends → (p : Reply) → Has (replied_in sends) p → ReplyFits p
replies_fit [] fit p h = absurd (Has-none p h)
replies_fit (ToClient r ∷ sends) fit p h = elim (Has-cases p r (replied_in sends) h) [
  | inl e ↦ subst ReplyFits (sym e) fit.0
  | inr rest ↦ replies_fit sends fit.1 p rest
]
replies_fit (ToReplicas dest x ∷ sends) fit p h = replies_fit sends fit.1 p h
replies_fit (Trims first entries ∷ sends) fit p h = replies_fit sends fit.1 p h

pub replicas_stay_in_ranges : {S : Type 0} (m : Meaning S) → ReplicasStayInRanges m
replicas_stay_in_ranges m f c r s e all fit one = record {
  requests = λ q h. all.requests q (subst (λ (xs : List Request). Has xs q) one.others.requests h);
  stamps = λ p h. all.stamps p (subst (λ (xs : List Stamped). Has xs p) one.others.stamps h);
  replies = λ p h. elim (one.sends.replies.only p h) [
    | inl old ↦ all.replies p old
    | inr new ↦ replies_fit e.1 fit p new
  ];
  installs = λ x h. all.installs x (subst (λ (xs : List Install). Has xs x) one.others.installs h);
}
