-- What changes nothing at a replica.
use Rattle.std.proofs.Common.{◌≡◌, ℕ, ◌<◌, ◌≤◌, ◌+◌, ◌-◌, List, [], refl, ap, ◌∙◌, Bool, true, false, Result, Ok, Err, arith}
use Rattle.std.specs.Prelude.{nat_lt, nat_le, ◌==◌, ◌&&◌}
use Rattle.std.proofs.lemmas.Bool.{ltb-true}
use Rattle.std.proofs.lemmas.Bool.Decides.{nat_tests}
use Rattle.nop_types.specs.Given.{Packet, Submit, Read}
use Rattle.nop_types.specs.Logs.{Log, Trimmed, length_of}
use Rattle.nop_types.specs.Meaning.{Meaning}
use Rattle.nop_types.specs.declared.datagram.Fragment.{Fragment}
use Rattle.nop_types.specs.declared.datagram.Datagram.{Datagram}
use Rattle.nop_types.specs.declared.datagram.Datagram.TheVariants as datagrams
use Rattle.nop_types.specs.declared.limits.TheConstants.{NUMBER_END}
use Rattle.nop_types.specs.declared.output.Out.{Out}
use Rattle.nop_types.specs.declared.peer.Peer.{Peer}
use Rattle.nop_types.specs.declared.peer.Body.{Body}
use Rattle.nop_types.specs.declared.peer.Body.TheVariants as bodies
use Rattle.nop_types.specs.declared.request.Request.{Request}
use Rattle.nop_types.specs.declared.view.View.{View}
use Rattle.oum_codec.specs.declared.bad.Bad.{Bad}
use Rattle.oum_codec.specs.Reading.{reading}
use Rattle.replica_state.specs.declared.state.ReplicaState.{ReplicaState}
use Rattle.replica_core.specs.declared.replica.TheConstants.{LAST_MESSAGE}
use Rattle.replica_core.specs.Ignoring.{is_for, IsIgnored, IgnoresPacket, is_of_view, Rests, IgnoresMessage}
use Rattle.replica_rows.specs.Messages.{loads_in, Arrival, by_role, dispatch, on_body, on_message, arrive}
use Rattle.replica_core.specs.ReplicaSteps.{Replica, row_if, row, fragment_if, fragment, on_datagram, next}
use Rattle.replica_rows.specs.Rows.{gap_commit_if, gap_commit, found, sync_prepare, sync_commit, trim_and_drain, begin_gap}
use Rattle.replica_rows.specs.Rows.{suspect, last_leader}
use Rattle.replica_state.specs.Moves as moves
use Rattle.replica_state.specs.Sends.{Effect, still, then_do, when}
use Rattle.replica_state.specs.State.{PointsMeet, may_trim, may_append, is_current, is_from_leader, is_to_leader, is_other}
use Rattle.replica_rows.proofs.Counting.{arrive_sends_few}

-- ---- datagrams

abbrev Stays : Replica → Replica × List Out → Type 0
Stays s r = r ≡ (s, [])

no_fragment : {S : Type 0} (m : Meaning S) (s : Replica) (f : Fragment) (b : Bool) → b ≡ false → Stays s (fragment_if m b s f)
no_fragment m s f false e = refl
no_fragment m s f true e = absurd cc

fragment_stays : {S : Type 0} (m : Meaning S) (s : Replica) (f : Fragment) → is_other s.state f.replica ≡ false → Stays s (fragment m s f)
unfolding fragment
fragment_stays m s f e = no_fragment m s f (is_other s.state f.replica) e

stays : {S : Type 0} (m : Meaning S) (s : Replica) (d : Datagram) → is_for s d ≡ false → Stays s (on_datagram m s (Ok d))
stays m s (datagrams.Stamped p) e = absurd cc
stays m s (datagrams.Fragment f) e = fragment_stays m s f e
stays m s _ e = refl

read_stays : {S : Type 0} (m : Meaning S) (s : Replica) (bytes : List ℕ) (r : Result Datagram Bad) → reading bytes ≡ r
    → Stays s (on_datagram m s r) → IsIgnored m s (Packet bytes)
unfolding next
read_stays m s bytes r e stay = rw e stay

pub ignores_packet : {S : Type 0} (m : Meaning S) (s : Replica) (bytes : List ℕ) → IgnoresPacket m s bytes
ignores_packet m s bytes = record {
  unread = λ e is. read_stays m s bytes (Err e) is refl;
  others = λ d is other. read_stays m s bytes (Ok d) is (stays m s d other);
}

pub ignores_op : {S : Type 0} (m : Meaning S) (s : Replica) (op : List ℕ) → IsIgnored m s (Submit op)
unfolding next
ignores_op m s op = refl

pub ignores_read : {S : Type 0} (m : Meaning S) (s : Replica) (observer : ℕ) (key : List ℕ) → IsIgnored m s (Read observer key)
unfolding next
ignores_read m s observer key = refl

-- ---- whole messages

no_message : (s : ReplicaState) (f : ReplicaState → Effect) (b : Bool) → b ≡ false → when b f s ≡ still s
no_message s f false e = refl
no_message s f true e = absurd cc

prefix_fails : (a b : Bool) → a ≡ false → (a && b) ≡ false
prefix_fails false b e = refl
prefix_fails true b e = absurd cc

no_role : {S : Type 0} (m : Meaning S) (a b : Bool) (q : ℕ) (body : Body) (s : ReplicaState) → a ≡ false → b ≡ false
    → by_role m Trimmed a b q body s ≡ still s
no_role m false false q body s d e = refl
no_role m true b q body s d e = absurd cc
no_role m false true q body s d e = absurd cc

not_dispatched : {S : Type 0} (m : Meaning S) (q : ℕ) (v : View) (body : Body) (s : ReplicaState) → is_current s v ≡ false
    → dispatch m Trimmed q v body s ≡ still s
not_dispatched m q v body s e =
    no_role m (is_from_leader s v q) (is_to_leader s v) q body s (prefix_fails (is_current s v) _ e) (prefix_fails (is_current s v) _ e)

body_rests : {S : Type 0} (m : Meaning S) (p : Peer) (body : Body) (s : ReplicaState) → is_of_view body ≡ true → is_current s p.view ≡ false
    → on_body m Trimmed p body s ≡ still s
body_rests m p bodies.ViewChangeReq s of e = absurd cc
body_rests m p (bodies.ViewChange u x l) s of e = absurd cc
body_rests m p (bodies.StartView x l) s of e = absurd cc
body_rests m p body s of e = not_dispatched m p.sender p.view body s e

when_rests : (s : ReplicaState) (f : ReplicaState → Effect) (b : Bool) → f s ≡ still s → when b f s ≡ still s
when_rests s f true e = e
when_rests s f false e = refl

stranger_rests : {S : Type 0} (m : Meaning S) (s : ReplicaState) (p : Peer) → is_other s p.sender ≡ false → Rests m s p
unfolding arrive on_message
stranger_rests m s p e =
    when_rests s (on_message m Trimmed p) (loads_in m p.body) (no_message s (on_body m Trimmed p p.body) (is_other s p.sender) e)

elsewhere_rests : {S : Type 0} (m : Meaning S) (s : ReplicaState) (p : Peer) → is_of_view p.body ≡ true → is_current s p.view ≡ false
    → Rests m s p
unfolding arrive on_message
elsewhere_rests m s p of e =
    when_rests s (on_message m Trimmed p) (loads_in m p.body)
    (when_rests s (on_body m Trimmed p p.body) (is_other s p.sender) (body_rests m p p.body s of e))

pub ignores_message : {S : Type 0} (m : Meaning S) (s : ReplicaState) (p : Peer) → IgnoresMessage m s p
ignores_message m s p = record { stranger = stranger_rests m s p; elsewhere = elsewhere_rests m s p }

-- ---- limits

no_gap : {S : Type 0} (m : Meaning S) (a b : Bool) (n : ℕ) (s : ReplicaState) → a ≡ false → b ≡ false
    → gap_commit_if m Trimmed a b n s ≡ still s
no_gap m false false n s d e = refl
no_gap m true b n s d e = absurd cc
no_gap m false true n s d e = absurd cc

back_fails : (a b : Bool) → b ≡ false → (a && b) ≡ false
back_fails false b e = refl
back_fails true b e = e

above : (n k : ℕ) → n < k → nat_le k n ≡ false
above n k lt = grind (arith, nat_tests, lt)

not_below : (n k : ℕ) → k ≤ n → nat_lt n k ≡ false
not_below n k le = grind (arith, nat_tests, le)

pub gap_rests : {S : Type 0} (m : Meaning S) (s : ReplicaState) (n : ℕ) → may_append Trimmed s ≡ false → length_of Trimmed s.log < n
    → gap_commit m Trimmed n s ≡ still s
unfolding gap_commit
gap_rests m s n full past =
    let len : ℕ = length_of Trimmed s.log in
    no_gap m (nat_le n len) ((n == len + 1) && may_append Trimmed s) n s (above len n past)
    (back_fails (n == len + 1) (may_append Trimmed s) full)

pub found_rests : {S : Type 0} (m : Meaning S) (s : ReplicaState) (n : ℕ) (r : Request) → may_append Trimmed s ≡ false
    → found m Trimmed n r s ≡ still s
unfolding found
found_rests m s n r full =
    let next : Bool = n == length_of Trimmed s.log + 1 in
    no_message s _ (next && may_append Trimmed s) (back_fails next (may_append Trimmed s) full)

pub prepare_rests : {S : Type 0} (m : Meaning S) (s : ReplicaState) (l : Log)
    → NUMBER_END < s.next + (length_of Trimmed l - length_of Trimmed s.log) → sync_prepare m Trimmed l s ≡ still s
unfolding sync_prepare
prepare_rests m s l past =
    let last : ℕ = s.next + (length_of Trimmed l - length_of Trimmed s.log) in
    no_message s _ (nat_le last NUMBER_END) (above NUMBER_END last past)

pub begin_rests : {S : Type 0} (m : Meaning S) (s : ReplicaState) → NUMBER_END ≤ s.next → begin_gap m Trimmed s ≡ still s
begin_rests m s past = no_message s _ (nat_lt s.next NUMBER_END) (not_below s.next NUMBER_END past)

-- nothing is obeyed, so the sync point stays where it met the log's
obey_rests : (s : ReplicaState) (n : ℕ) → s.sync.prepared < n → moves.sync_commit n s ≡ still s
unfolding moves.sync_commit
obey_rests s n past = no_message s _ (nat_le n s.sync.prepared) (above s.sync.prepared n past)

pub commit_rests : {S : Type 0} (m : Meaning S) (s : ReplicaState) (n : ℕ) → PointsMeet s → s.sync.prepared < n
    → sync_commit m Trimmed n s ≡ still s
unfolding sync_commit
commit_rests m s n meet past =
    let z : ℕ = s.sync.sync_point in
    ap (λ (e : Effect). then_do e (trim_and_drain m Trimmed)) (obey_rests s n past)
    ∙ no_message s _ (may_trim s) (not_below s.log.sync_point z (omega (arith, meet)))

pub leader_rests : {S : Type 0} (m : Meaning S) (s : ReplicaState) → last_leader ≤ s.view.leader → suspect m Trimmed s ≡ still s
leader_rests m s past = no_message s _ (nat_lt s.view.leader last_leader) (not_below s.view.leader last_leader past)

-- ---- message numbers

no_row : {S : Type 0} (m : Meaning S) (b : Bool) (s : Replica) (a : Arrival) → b ≡ false → Stays s (row_if m b s a)
no_row m false s a e = refl
no_row m true s a e = absurd cc

pub row_ends : {S : Type 0} (m : Meaning S) (s : Replica) (a : Arrival) → LAST_MESSAGE ≤ s.messages → Stays s (row m s a)
row_ends m s a past = no_row m (nat_lt s.messages LAST_MESSAGE) s a (not_below s.messages LAST_MESSAGE past)

row_below : {S : Type 0} (m : Meaning S) (b : Bool) (s : Replica) (a : Arrival) → nat_lt s.messages LAST_MESSAGE ≡ b
    → s.messages < LAST_MESSAGE + 8 → (row_if m b s a).0.messages < LAST_MESSAGE + 8
row_below m false s a e below = below
row_below m true s a e below =
    let few = arrive_sends_few m Trimmed s.state a in
    let room : s.messages < LAST_MESSAGE = ltb-true s.messages LAST_MESSAGE e in
    omega (arith, few, room)

pub numbers_below : {S : Type 0} (m : Meaning S) (s : Replica) (a : Arrival) → s.messages < LAST_MESSAGE + 8
    → (row m s a).0.messages < LAST_MESSAGE + 8
numbers_below m s a below = row_below m (nat_lt s.messages LAST_MESSAGE) s a refl below
