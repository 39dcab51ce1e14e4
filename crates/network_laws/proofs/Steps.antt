-- A step of a replica takes what was sent and told, and what it sends is carried.
use Rattle.std.proofs.Common.{◌≡◌, ◌<◌, ◌+◌, ◌^◌, ℕ, Bool, true, false, refl, sym, ap, subst, ◌∙◌, arith}
use Rattle.std.proofs.Common.{inl, inr, List, [], ◌++◌}
use Rattle.std.specs.Prelude.{◌⊎◌, nat_lt, Result, Ok}
use Rattle.std.specs.List.{AllByRecursion}
use Rattle.std.proofs.lemmas.Bool.{ltb-true}
use Rattle.nop_types.specs.Given.{Given, Packet, Ticked}
use Rattle.nop_types.specs.Lists.{Has}
use Rattle.nop_types.specs.Bounds.{Bounds}
use Rattle.nop_types.specs.Logs.{Trimmed}
use Rattle.nop_types.specs.Meaning.{Meaning}
use Rattle.nop_types.specs.Ranges.{DatagramFits}
use Rattle.nop_types.specs.declared.datagram.Datagram.{Datagram}
use Rattle.nop_types.specs.declared.datagram.Datagram.TheVariants as datagrams
use Rattle.nop_types.specs.declared.datagram.Fragment.{Fragment}
use Rattle.nop_types.specs.declared.output.Out.{Out}
use Rattle.nop_types.specs.declared.peer.Peer.{Peer}
use Rattle.lemmas.specs.Functions.{put}
use Rattle.lemmas.proofs.Functions.{put-here}
use Rattle.oum_codec.specs.declared.bad.Bad.{Bad}
use Rattle.oum_codec.specs.Reading.{reading}
use Rattle.oum_codec.specs.Spelling.{spelling}
use Rattle.oum_codec.proofs.Datagrams.{reads_again}
use Rattle.fragments.specs.Joining.{Waiting, taken}
use Rattle.fragments.specs.Runs.{AllCame}
use Rattle.replica_core.specs.declared.replica.TheConstants.{LAST_MESSAGE}
use Rattle.replica_rows.specs.Messages as messages
use Rattle.replica_rows.specs.Messages.{Arrival, arrive}
use Rattle.replica_core.specs.Posting.{posted}
use Rattle.replica_core.specs.ReplicaSteps.{Replica, post, row_if, row}
use Rattle.replica_core.specs.ReplicaSteps.{fragment, on_datagram, next}
use Rattle.replica_state.specs.Sends.{Effect, still, message_count}
use Rattle.replica_rows.specs.Within.{ArrivalFits}
use Rattle.replica_rows.proofs.Counting.{arrive_sends_few}
use Rattle.network_laws.specs.Network.{bytes_in, fragments_among, Network, IsNoDatagram, MayCome}
use Rattle.network_laws.specs.Ranges.{StaysInRanges}
use Rattle.network_laws.specs.Sends.{peers_in, IsBy}
use Rattle.network_laws.specs.Steps.{Came, InNetwork, TakesRow, Delivers}
use Rattle.network_laws.proofs.InRanges.{arrive_stays}
use Rattle.network_laws.proofs.Networks.{among_has, posting_network}
use Rattle.network_laws.proofs.Own.{arrive_keeps_number, arrive_sends_own}
use Rattle.network_laws.proofs.Fragments.{fragment_brings}
use Rattle.network_laws.proofs.Replicas.{came_of_more}

-- what is known of what a row does: it is in its ranges, it is sent under the replica's own number, and its messages find numbers
record IsPostable (r : ℕ) (s : Replica) (e : Effect) : Type 0 where
  ranges : StaysInRanges Trimmed e
  number : e.0.number ≡ r
  by : AllByRecursion (IsBy r) e.1
  high : s.messages + message_count e.1 < 2 ^ 64

module _ {S : Type 0} (m : Meaning S) (peer_messages : List Peer) (sent : List (List ℕ)) (used : ℕ → ℕ) (r : ℕ) (s : Replica)
    (n : Network peer_messages sent used) (h : InNetwork sent used r s) where
  abbrev Does : Replica × List Out → Type 0
  Does result = Delivers m peer_messages sent used r s result

  network_then : (e : Effect) → IsPostable r s e
      → Network (peers_in e.1 ++ peer_messages) (sent ++ bytes_in (posted s.messages e.1)) (put used r (s.messages + message_count e.1))
  network_then e k =
      subst
      (λ (i : ℕ). Network (peers_in e.1 ++ peer_messages) (sent ++ bytes_in (posted i e.1)) (put used r (i + message_count e.1)))
      (sym h.messages)
      (posting_network peer_messages sent used r e.1 n k.ranges.sends k.by
      (subst (λ (i : ℕ). i + message_count e.1 < 2 ^ 64) h.messages k.high))

  posts : (all : List Waiting) (e : Effect) → AllCame (fragments_among sent) all → TakesRow m peer_messages sent s.state e ⊎ (e ≡ still s.state)
      → IsPostable r s e → Does (post (record s { reassembly = all }) e)
  posts all e came row k = record {
    effect = e;
    row = row;
    fits = k.ranges.sends;
    by = k.by;
    state = refl;
    messages = refl;
    outs = refl;
    network = network_then e k;
    replica =
        record {
          number = k.number;
          messages = sym (put-here used r (s.messages + message_count e.1));
          range = k.high;
          came = came_of_more sent (bytes_in (posted s.messages e.1)) all came;
          within = k.ranges.within;
          receiver = k.ranges.receiver;
        };
  }

  -- nothing is sent, and at most the reassembly changes
  does_nothing : (all : List Waiting) → AllCame (fragments_among sent) all → Does (record s { reassembly = all }, [])
  unfolding posted
  does_nothing all came =
      let none : s.messages + 0 ≡ s.messages = omega arith in
      subst (λ (i : ℕ). Does (record s { reassembly = all; messages = i }, [])) none
      (posts all (still s.state) came (inr refl)
      (record {
        ranges = record { within = h.within; receiver = h.receiver; sends = tt };
        number = h.number;
        by = tt;
        high = subst (λ (i : ℕ). i < 2 ^ 64) (sym none) h.range;
      }))

  row_if_delivers : Bounds m Trimmed → (all : List Waiting) (a : Arrival) (b : Bool) → nat_lt s.messages LAST_MESSAGE ≡ b
      → AllCame (fragments_among sent) all → Came peer_messages sent a → ArrivalFits a → Does (row_if m b (record s { reassembly = all }) a)
  row_if_delivers bounds all a true e came arrived fits =
      let few = arrive_sends_few m Trimmed s.state a in
      let low = ltb-true s.messages LAST_MESSAGE e in
      posts all (arrive m Trimmed s.state a) came (inl (record { arrival = a; came = arrived; fits = fits; effect = refl }))
      (record {
        ranges = arrive_stays m Trimmed bounds s.state a h.within h.receiver fits;
        number = arrive_keeps_number m Trimmed s.state a ∙ h.number;
        by = subst (λ (q : ℕ). AllByRecursion (IsBy q) (arrive m Trimmed s.state a).1) h.number (arrive_sends_own m Trimmed s.state a);
        high = omega (arith, few, low);
      })
  row_if_delivers bounds all a false e came arrived fits = does_nothing all came

  row_delivers : Bounds m Trimmed → (all : List Waiting) (a : Arrival) → AllCame (fragments_among sent) all → Came peer_messages sent a → ArrivalFits a
      → Does (row m (record s { reassembly = all }) a)
  row_delivers bounds all a came arrived fits = row_if_delivers bounds all a (nat_lt s.messages LAST_MESSAGE) refl came arrived fits

  fragment_delivers : Bounds m Trimmed → (f : Fragment) → Has (fragments_among sent) f → Does (fragment m s f)
  fragment_delivers bounds f here = elim (fragment_brings m peer_messages (fragments_among sent) used s f n.carried here h.came) [
    | inl b ↦
        subst Does (sym b.row) (row_delivers bounds (taken s.reassembly f).0 (messages.PeerMessage b.peer) b.kept b.was_sent.has b.was_sent.fits)
    | inr b ↦ subst Does (sym b.same) (does_nothing b.reassembly b.kept)
  ]

  datagram_delivers : Bounds m Trimmed → (d : Datagram) (bytes : List ℕ) → Has sent bytes → bytes ≡ spelling d → DatagramFits d
      → reading bytes ≡ Ok d → Does (on_datagram m s (Ok d))
  datagram_delivers bounds (datagrams.Stamped p) bytes has is fits e =
      row_delivers bounds s.reassembly (messages.Packet p) h.came (subst (Has sent) is has) fits
  datagram_delivers bounds (datagrams.Fragment f) bytes has is fits e = fragment_delivers bounds f (among_has sent bytes f has e)
  datagram_delivers bounds _ bytes has is fits e = does_nothing s.reassembly h.came

  sent_delivers : Bounds m Trimmed → (bytes : List ℕ) → Has sent bytes → Does (on_datagram m s (reading bytes))
  sent_delivers bounds bytes has =
      let d = n.datagrams bytes has in
      let e : reading bytes ≡ Ok d.datagram = ap reading d.spells.spelled ∙ reads_again d.datagram d.spells.fits in
      subst (λ (x : Result Datagram Bad). Does (on_datagram m s x)) (sym e)
      (datagram_delivers bounds d.datagram bytes has d.spells.spelled d.spells.fits e)

  refused_delivers : (bytes : List ℕ) → IsNoDatagram bytes → Does (on_datagram m s (reading bytes))
  refused_delivers bytes none =
      subst (λ (x : Result Datagram Bad). Does (on_datagram m s x)) (sym none.refused) (does_nothing s.reassembly h.came)

  delivers : Bounds m Trimmed → (given : Given) → MayCome sent given → Does (next m s given)
  unfolding next
  delivers bounds (Packet bytes) may = elim may [
    | inl has ↦ sent_delivers bounds bytes has
    | inr none ↦ refused_delivers bytes none
  ]
  delivers bounds (Ticked tick) may = row_delivers bounds s.reassembly (messages.Ticked tick) h.came tt tt
  delivers bounds _ may = does_nothing s.reassembly h.came

pub step_delivers : {S : Type 0} (m : Meaning S) → Bounds m Trimmed → (peer_messages : List Peer) (sent : List (List ℕ)) (used : ℕ → ℕ) (r : ℕ)
    (s : Replica) (given : Given) → Network peer_messages sent used → InNetwork sent used r s → MayCome sent given
    → Delivers m peer_messages sent used r s (next m s given)
step_delivers m bounds peer_messages sent used r s given n h may = delivers m peer_messages sent used r s n h bounds given may
