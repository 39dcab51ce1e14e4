-- How many messages a row sends to other replicas, and that it keeps the configuration.
use Rattle.std.proofs.Common.{◌≡◌, ◌==◌, ◌≤◌, ℕ, zero, suc, ◌+◌, ◌-◌, Bool, true, false, Option, Some, None, refl, sym, ap, subst, ◌∙◌}
use Rattle.std.proofs.Common.{arith, List, [], ◌∷◌, ◌++◌, length, zero-add}
use Rattle.std.specs.Prelude.{⊤, not, map, max, nat_le, nat_lt, ◌&&◌}
use Rattle.std.proofs.lemmas.Bool.Decides.{nat_tests}
use Rattle.nop_types.specs.declared.limits.TheConstants.{NUMBER_END}
use Rattle.nop_types.specs.CheckpointedLogs.{slot_result}
use Rattle.nop_types.specs.Logs.{Log, Keeping, length_of, above}
use Rattle.nop_types.specs.Meaning.{Meaning}
use Rattle.nop_types.specs.PlainChanges.{plain}
use Rattle.nop_types.specs.Views.{is_view, join_of}
use Rattle.nop_types.specs.declared.view.View.{View}
use Rattle.nop_types.specs.declared.replica_state.Phase.{Phase}
use Rattle.nop_types.specs.declared.replica_state.Phase.TheVariants.{Normal, Change}
use Rattle.nop_types.specs.declared.replica_state.Vote.{Vote}
use Rattle.nop_types.specs.declared.replica_state.Vote.TheVariants.{Settled, Waiting}
use Rattle.nop_types.specs.declared.request.Request.{Request}
use Rattle.nop_types.specs.declared.request.Entry.{Entry}
use Rattle.nop_types.specs.declared.request.Entry.TheVariants.{NoOp, Req}
use Rattle.nop_types.specs.declared.datagram.Stamped.{Stamped}
use Rattle.nop_types.specs.declared.peer.Change as peer
use Rattle.nop_types.specs.declared.peer.Body.{Body}
use Rattle.nop_types.specs.declared.peer.Body.TheVariants as bodies
use Rattle.slot_votes.specs.Agreement.{Agreement}
use Rattle.log_merge.specs.Merging.{kept_changes, merged}
use Rattle.log_merge.specs.Starting.{start_of}
use Rattle.oum_receiver.specs.Front.{Front, Nothing, Message, Dropped}
use Rattle.oum_receiver.specs.Receiving.{front_of}
use Rattle.replica_log.specs.Answer.{Answer, Below, Found, GapAgain, Begin, answer_of}
use Rattle.replica_log.specs.Answer as answers
use Rattle.slot_votes.specs.Synchronisation.{vote_for}
use Rattle.view_change.specs.Gathering.{Gathering}
use Rattle.replica_state.specs.declared.sending.Sending.{Sending}
use Rattle.replica_state.specs.declared.sending.Sending.TheVariants.{ToClient, ToReplicas, Trims}
use Rattle.replica_state.specs.declared.state.ReplicaState.{ReplicaState}
use Rattle.replica_state.specs.State.{max_faults, leads, is_normal, drains, waits, has_room, may_append}
use Rattle.replica_state.specs.State.{may_adopt, may_trim}
use Rattle.replica_state.specs.Sends.{Effect, still, then_do, when, to_leader, to_all, to_all_if, message_count}
use Rattle.replica_state.specs.Replies.{reply_to, reply_if, leader_reply, reply_for, replies_to, replies_above}
use Rattle.replica_state.specs.Moves.{ask_if, gap_opened, open_gap, write_gap, add_gap, drain_drop, drain_at, drain_by, drain, entered}
use Rattle.replica_state.specs.Moves.{enter_as, enter, change_sent, adopted, adopt, open_with, open_view, open_if_enough, overlaid, overlay}
use Rattle.replica_state.specs.Moves.{open_sync, commit_if, count_sync_vote, queue, keep_change, count_gap_vote, logged, appended}
use Rattle.replica_state.specs.Moves.{begin_session, hear, sync_commit, trim}
use Rattle.replica_state.specs.Repeating.{gap_again, lookup_again, change_again, resend_by, resend, sync_if, sync}
use Rattle.replica_rows.specs.Rows as rows
use Rattle.replica_rows.specs.Messages.{Arrival, arrive}
use Rattle.replica_rows.proofs.EachRow.{change_in, EachRow, arrive_row}

pub count_append : (a b : List Sending) → message_count (a ++ b) ≡ message_count a + message_count b
count_append [] b = sym (zero-add (message_count b))
count_append (ToClient r ∷ a) b = count_append a b
count_append (ToReplicas dest p ∷ a) b = let rest = count_append a b in omega (arith, rest)
count_append (Trims first entries ∷ a) b = count_append a b

-- what comes of a state sends at most so many messages, and keeps the configuration
record Few (n : ℕ) (s : ReplicaState) (e : Effect) : Type 0 where
  few : message_count e.1 ≤ n
  config : e.0.config ≡ s.config

-- whatever the state
record AlwaysFew (n : ℕ) (f : ReplicaState → Effect) : Type 0 where
  at : (s : ReplicaState) → Few n s (f s)

more : {s : ReplicaState} {e : Effect} (i n : ℕ) → i ≤ n → Few i s e → Few n s e
more i n h w = record { few = omega (arith, h, w.few); config = w.config }

-- of another state with the same configuration
same : {s t : ReplicaState} {n : ℕ} {e : Effect} → t.config ≡ s.config → Few n t e → Few n s e
same e w = record { few = w.few; config = w.config ∙ e }

still_few : (n : ℕ) (s : ReplicaState) → Few n s (still s)
still_few n s = record { few = omega arith; config = refl }

changed_few : (n : ℕ) (s t : ReplicaState) → t.config ≡ s.config → Few n s (still t)
changed_few n s t e = record { few = omega arith; config = e }

then_few : {s : ReplicaState} {e : Effect} (f : ReplicaState → Effect) (i j n : ℕ) → i + j ≤ n → Few i s e → Few j e.0 (f e.0)
    → Few n s (then_do e f)
then_few {s} {e} f i j n h first second =
    let sum = count_append e.1 (f e.0).1 in
    let a = first.few in
    let b = second.few in
    record { few = omega (arith, h, sum, a, b); config = second.config ∙ first.config }

when_few : (n : ℕ) (b : Bool) (f : ReplicaState → Effect) (s : ReplicaState) → Few n s (f s) → Few n s (when b f s)
when_few n true f s h = h
when_few n false f s h = still_few n s

-- ---- replies are no messages to replicas

leader_none : (s : ReplicaState) (slot : ℕ) (r : Request) (o : Option (List ℕ)) → message_count (leader_reply s slot r o) ≡ 0
leader_none s slot r None = refl
leader_none s slot r (Some result) = refl

reply_none_if : {S : Type 0} (m : Meaning S) (k : Keeping) (b : Bool) (s : ReplicaState) (slot : ℕ) (r : Request)
    → message_count (reply_if m k b s slot r) ≡ 0
reply_none_if m k true s slot r = leader_none s slot r (slot_result m k s.log slot)
reply_none_if m k false s slot r = refl

reply_none : {S : Type 0} (m : Meaning S) (k : Keeping) (s : ReplicaState) (slot : ℕ) (r : Request)
    → message_count (reply_to m k s slot r) ≡ 0
unfolding reply_to
reply_none m k s slot r = reply_none_if m k (leads s) s slot r

entry_none : {S : Type 0} (m : Meaning S) (k : Keeping) (s : ReplicaState) (slot : ℕ) (e : Entry)
    → message_count (reply_for m k s slot e) ≡ 0
entry_none m k s slot NoOp = refl
entry_none m k s slot (Req r) = reply_none m k s slot r

replies_none : {S : Type 0} (m : Meaning S) (k : Keeping) (s : ReplicaState) (slot : ℕ) (l : List Entry)
    → message_count (replies_to m k s slot l) ≡ 0
replies_none m k s slot [] = refl
replies_none m k s slot (e ∷ l) =
    let sum = count_append (reply_for m k s slot e) (replies_to m k s (slot + 1) l) in
    let first = entry_none m k s slot e in
    let rest = replies_none m k s (slot + 1) l in
    omega (arith, sum, first, rest)

above_none : {S : Type 0} (m : Meaning S) (k : Keeping) (s : ReplicaState) (slot : ℕ) → message_count (replies_above m k s slot) ≡ 0
above_none m k s slot = replies_none m k s (slot + 1) (above k s.log slot)

-- ---- messages to all

all_if_few : (b : Bool) (s : ReplicaState) (body : Body) → message_count (to_all_if b s body) ≤ 1
all_if_few true s body = omega arith
all_if_few false s body = omega arith

all_few : (s t : ReplicaState) (body : Body) → t.config ≡ s.config → Few 1 s (t, to_all s body)
all_few s t body e = record { few = all_if_few (max_faults s == 0) s body; config = e }

leader_few : (s t u : ReplicaState) (body : Body) → t.config ≡ s.config → Few 1 s (t, to_leader u body)
leader_few s t u body e = record { few = omega arith; config = e }

-- ---- drains

replied_few : {S : Type 0} (m : Meaning S) (k : Keeping) (s t : ReplicaState) (slot : ℕ) (r : Request) → t.config ≡ s.config
    → Few 0 s (t, reply_to m k t slot r)
replied_few m k s t slot r e = let none = reply_none m k t slot r in record { few = omega (arith, none); config = e }

-- nobody has to vote, or the gap waits
votes_wanted : (f : ℕ) → (f == 0) ≡ false → nat_le f 0 ≡ false
votes_wanted f e = grind (arith, nat_tests, e)

no_drain : (k : Keeping) (s : ReplicaState) → waits s.gap ≡ true → drains k s ≡ false
no_drain k s w = at (is_normal s.status) (waits s.gap) w
  where
    at : (n b : Bool) → b ≡ true → (n && (not b && has_room k s)) ≡ false
    at true true e = refl
    at false true e = refl
    at n false e = absurd cc

gap_waits : (k : Keeping) (s : ReplicaState) → (max_faults s == 0) ≡ false → waits (gap_opened k s).gap ≡ true
gap_waits k s e = let more = votes_wanted (max_faults s) e in rw more

-- a gap that waits keeps the rest from being taken
record Rests (k : Keeping) (again : ReplicaState → Effect) : Type 0 where
  rests : (t : ReplicaState) → drains k t ≡ false → again t ≡ still t

gap_few_if : (k : Keeping) (b : Bool) (again : ReplicaState → Effect) (s : ReplicaState) → (max_faults s == 0) ≡ b → AlwaysFew 1 again
    → Rests k again
    → Few 1 s (then_do (open_gap k s) again)
unfolding open_gap
gap_few_if k true again s e few rests =
    let none : message_count (to_all s (bodies.GapCommit (length_of k s.log + 1))) ≡ 0 =
    ap (λ (b : Bool). message_count (to_all_if b s (bodies.GapCommit (length_of k s.log + 1)))) e in
    then_few again 0 1 1 (omega arith) (record { few = omega (arith, none); config = refl }) (few.at (gap_opened k s))
gap_few_if k false again s e few rests =
    then_few again 1 0 1 (omega arith) (all_few s (gap_opened k s) (bodies.GapCommit (length_of k s.log + 1)) refl)
    (subst (λ (x : Effect). Few 0 (gap_opened k s) x)
    (sym (rests.rests (gap_opened k s) (no_drain k (gap_opened k s) (gap_waits k s e))))
    (still_few 0 (gap_opened k s)))

ask_few : (k : Keeping) (b : Bool) (s : ReplicaState) → Few 1 s (ask_if k b s)
ask_few k true s = still_few 1 s
ask_few k false s = record { few = omega arith; config = refl }

drop_few : (k : Keeping) (b : Bool) (again : ReplicaState → Effect) (s : ReplicaState) → AlwaysFew 1 again → Rests k again
    → Few 1 s (drain_drop k again b s)
drop_few k true again s few rests = gap_few_if k (max_faults s == 0) again s refl few rests
drop_few k false again s few rests = ask_few k (s.asked == length_of k s.log + 1) s

drain_at_few : {S : Type 0} (m : Meaning S) (k : Keeping) (again : ReplicaState → Effect) (s : ReplicaState) (b : Bool) (front : Front)
    → AlwaysFew 1 again → Rests k again → Few 1 s (drain_at m k again s b front)
drain_at_few m k again s true (Message r) few rests =
    then_few again 0 1 1 (omega arith) (replied_few m k s (logged s r) (length_of k s.log + 1) r refl) (few.at (logged s r))
drain_at_few m k again s true Dropped few rests = drop_few k (leads s) again s few rests
drain_at_few m k again s true Nothing few rests = still_few 1 s
drain_at_few m k again s false front few rests = still_few 1 s

drain_rests : {S : Type 0} (m : Meaning S) (k : Keeping) (room : ℕ) → Rests k (drain_by m k room)
drain_rests m k zero = record { rests = λ t e. refl }
drain_rests m k (suc room) = record { rests = λ t e. ap (λ (b : Bool). drain_at m k (drain_by m k room) t b (front_of t.receiver)) e }

drain_by_few : {S : Type 0} (m : Meaning S) (k : Keeping) (room : ℕ) → AlwaysFew 1 (drain_by m k room)
drain_by_few m k zero = record { at = still_few 1 }
drain_by_few m k (suc room) = record {
  at = λ s. drain_at_few m k (drain_by m k room) s (drains k s) (front_of s.receiver) (drain_by_few m k room) (drain_rests m k room);
}

drain_few : {S : Type 0} (m : Meaning S) (k : Keeping) (s : ReplicaState) → Few 1 s (drain m k s)
unfolding drain
drain_few m k s = (drain_by_few m k _).at s

-- so many messages, and what waits is taken
and_drain : {S : Type 0} (m : Meaning S) (k : Keeping) {s : ReplicaState} {e : Effect} (i : ℕ) → Few i s e
    → Few (i + 1) s (then_do e (drain m k))
and_drain m k {s} {e} i h = then_few (drain m k) i 1 (i + 1) (omega arith) h (drain_few m k e.0)

-- what was passed moves out, and what waits is taken, where the sync point rose
and_rise : {S : Type 0} (m : Meaning S) (k : Keeping) {s : ReplicaState} {e : Effect} (i : ℕ) → Few i s e
    → Few (i + 1) s (then_do e (rows.trim_and_drain m k))
and_rise m k {s} {e} i h =
    then_few (rows.trim_and_drain m k) i 1 (i + 1) (omega arith) h
    (when_few 1 (may_trim e.0) (λ t. then_do (trim m k t) (drain m k)) e.0
    (and_drain m k {e = trim m k e.0} 0 (record { few = omega arith; config = refl })))

-- ---- views

change_sent_few : (s : ReplicaState) → Few 1 s (s, change_sent s)
change_sent_few s = record { few = omega arith; config = refl }

enter_as_few : (b : Bool) (s : ReplicaState) → Few 2 s (enter_as b s)
enter_as_few true s = more 1 2 (omega arith) (record { few = (all_few s s bodies.ViewChangeReq refl).few; config = refl })
enter_as_few false s =
    let sum = count_append (to_all s bodies.ViewChangeReq) (change_sent s) in
    let all = (all_few s s bodies.ViewChangeReq refl).few in
    record { few = omega (arith, sum, all); config = refl }

enter_few : (s : ReplicaState) (v : View) → Few 2 s (enter s v)
unfolding enter
enter_few s v = same refl (enter_as_few (leads (entered s v)) (entered s v))

adopt_few : {S : Type 0} (m : Meaning S) (k : Keeping) (s : ReplicaState) (v : View) (x : ℕ) (l : Log) → Few 1 s (adopt m k s v x l)
unfolding adopt
adopt_few m k s v x l =
    let none = above_none m k (adopted k s v x l) (adopted k s v x l).sync.sync_point in
    and_drain m k 0 (record { few = omega (arith, none); config = refl })

open_with_few : {S : Type 0} (m : Meaning S) (k : Keeping) (s : ReplicaState) (x : ℕ) (l : Log) → Few 2 s (open_with m k s x l)
open_with_few m k s x l =
    then_few (λ t. adopt m k t t.view x l) 1 1 2 (omega arith) (all_few s s (bodies.StartView x l) refl) (adopt_few m k s s.view x l)

open_if_few : {S : Type 0} (m : Meaning S) (k : Keeping) (o : Option (Gathering peer.Change)) (s : ReplicaState)
    → Few 2 s (open_if_enough m k o s)
open_if_few m k None s = still_few 2 s
open_if_few m k (Some g) s =
    when_few 2 (nat_lt g.f (length g.changes)) (open_view m k g) s
    (open_with_few m k s (start_of g.view (map plain g.changes)).next (merged k (kept_changes g.changes)))

enter_view_few : {S : Type 0} (m : Meaning S) (k : Keeping) (s : ReplicaState) (v : View) → Few 4 s (rows.enter_view m k v s)
unfolding rows.enter_view
enter_view_few m k s v =
    then_few (λ t. open_if_enough m k t.changes t) 2 2 4 (omega arith) (enter_few s v)
    (open_if_few m k (enter s v).0.changes (enter s v).0)

enter_and_drain_few : {S : Type 0} (m : Meaning S) (k : Keeping) (v : View) (s : ReplicaState) → Few 5 s (rows.enter_and_drain m k v s)
enter_and_drain_few m k v s = and_drain m k 4 (enter_view_few m k s v)

-- ---- rows

stamped_if_few : {S : Type 0} (m : Meaning S) (k : Keeping) (b : Bool) (s : ReplicaState) (p : Stamped)
    → Few 5 s (rows.stamped_if m k b p s)
stamped_if_few m k true s p =
    same refl (enter_and_drain_few m k (record { leader = s.view.leader; session = p.session }) (begin_session s p))
stamped_if_few m k false s p = more 1 5 (omega arith) (and_drain m k 0 (changed_few 0 s (queue s p).0 refl))

stamped_few : {S : Type 0} (m : Meaning S) (k : Keeping) (s : ReplicaState) (p : Stamped) → Few 5 s (rows.stamped m k p s)
unfolding rows.stamped
stamped_few m k s p = stamped_if_few m k (nat_lt s.view.session p.session) s p

request_few : {S : Type 0} (m : Meaning S) (k : Keeping) (s : ReplicaState) (v : View) → Few 5 s (rows.view_change_request m k v s)
request_few m k s v = when_few 5 (not (is_view (join_of s.view v) s.view)) _ s (enter_and_drain_few m k (join_of s.view v) s)

gather_few : {S : Type 0} (m : Meaning S) (k : Keeping) (o : Option (Gathering peer.Change)) (c : peer.Change) (s : ReplicaState)
    → Few 2 s (rows.gather m k o c s)
gather_few m k None c s = still_few 2 s
gather_few m k (Some g) c s =
    then_few (λ t. open_if_enough m k t.changes t) 0 2 2 (omega arith) (changed_few 0 s (keep_change s g c).0 refl)
    (open_if_few m k (keep_change s g c).0.changes (keep_change s g c).0)

gather_by_few : {S : Type 0} (m : Meaning S) (k : Keeping) (status : Phase) (c : peer.Change) (s : ReplicaState)
    → Few 2 s (rows.gather_by m k status c s)
gather_by_few m k Change c s = gather_few m k s.changes c s
gather_by_few m k Normal c s = record { few = omega arith; config = refl }

view_change_few : {S : Type 0} (m : Meaning S) (k : Keeping) (s : ReplicaState) (v : View) (c : peer.Change)
    → Few 7 s (rows.view_change m k v c s)
unfolding rows.view_change
view_change_few m k s v c =
    let t : ReplicaState = (rows.view_change_request m k v s).0 in
    then_few (rows.take_change m k v c) 5 2 7 (omega arith) (request_few m k s v)
    (when_few 2 (is_view v t.view && leads t) _ t (gather_by_few m k t.status c t))

start_view_few : {S : Type 0} (m : Meaning S) (k : Keeping) (s : ReplicaState) (q : ℕ) (v : View) (x : ℕ) (l : Log)
    → Few 1 s (rows.start_view m k q v x l s)
unfolding rows.start_view
start_view_few m k s q v x l = when_few 1 (may_adopt k s q v l) _ s (adopt_few m k s v x l)

gap_commit_if_few : {S : Type 0} (m : Meaning S) (k : Keeping) (a b : Bool) (n : ℕ) (s : ReplicaState)
    → Few 2 s (rows.gap_commit_if m k a b n s)
gap_commit_if_few m k true b n s = and_drain m k 1 (leader_few s (write_gap k (hear s) n).0 (hear s) (bodies.GapRep n) refl)
gap_commit_if_few m k false true n s =
    and_drain m k 1 (leader_few s (add_gap k (hear s)).0 (hear s) (bodies.GapRep (length_of k s.log + 1)) refl)
gap_commit_if_few m k false false n s = still_few 2 s

gap_commit_few : {S : Type 0} (m : Meaning S) (k : Keeping) (n : ℕ) (s : ReplicaState) → Few 2 s (rows.gap_commit m k n s)
unfolding rows.gap_commit
gap_commit_few m k n s = gap_commit_if_few m k (nat_le n (length_of k s.log)) ((n == length_of k s.log + 1) && may_append k s) n s

found_few : {S : Type 0} (m : Meaning S) (k : Keeping) (n : ℕ) (r : Request) (s : ReplicaState) → Few 1 s (rows.found m k n r s)
unfolding rows.found
found_few m k n r s =
    let t : ReplicaState = appended (hear s) (Req r) in
    when_few 1 ((n == length_of k s.log + 1) && may_append k s) _ s
    (and_drain m k 0 (replied_few m k s t (length_of k s.log + 1) r refl))

overlay_few : {S : Type 0} (m : Meaning S) (k : Keeping) (s : ReplicaState) (l : Log) → Few 1 s (overlay m k s l)
unfolding overlay
overlay_few m k s l =
    let from : ℕ = max (length_of k s.log) (overlaid k s l).sync.sync_point in
    let none = above_none m k (overlaid k s l) from in
    let sum = count_append (replies_above m k (overlaid k s l) from) (to_leader s (bodies.SyncRep (length_of k l))) in
    record { few = omega (arith, none, sum); config = refl }

prepare_few : {S : Type 0} (m : Meaning S) (k : Keeping) (l : Log) (s : ReplicaState) → Few 2 s (rows.sync_prepare m k l s)
unfolding rows.sync_prepare
prepare_few m k l s =
    when_few 2 (nat_le (s.next + (length_of k l - length_of k s.log)) NUMBER_END)
    (λ t. then_do (overlay m k (hear t) l) (drain m k)) s
    (and_drain m k 1 (same refl (overlay_few m k (hear s) l)))

commit_few : (n : ℕ) (s : ReplicaState) → Few 0 s (sync_commit n s)
unfolding sync_commit
commit_few n s = when_few 0 (nat_le n s.sync.prepared) _ s (record { few = omega arith; config = refl })

commit_row_few : {S : Type 0} (m : Meaning S) (k : Keeping) (n : ℕ) (s : ReplicaState) → Few 1 s (rows.sync_commit m k n s)
unfolding rows.sync_commit
commit_row_few m k n s = and_rise m k 0 (commit_few n s)

open_gap_few : (k : Keeping) (s : ReplicaState) → Few 1 s (open_gap k s)
unfolding open_gap
open_gap_few k s = all_few s (gap_opened k s) (bodies.GapCommit (length_of k s.log + 1)) refl

lookup_by_few : {S : Type 0} (m : Meaning S) (k : Keeping) (r : Answer) (q n : ℕ) (s : ReplicaState)
    → Few 2 s (rows.slot_lookup_by m k r q n s)
lookup_by_few m k Below q n s = record { few = omega arith; config = refl }
lookup_by_few m k (Found r) q n s = record { few = omega arith; config = refl }
lookup_by_few m k GapAgain q n s = record { few = omega arith; config = refl }
lookup_by_few m k Begin q n s =
    when_few 2 (nat_lt s.next NUMBER_END) (λ t. then_do (open_gap k t) (drain m k)) s (and_drain m k 1 (open_gap_few k s))
lookup_by_few m k answers.Nothing q n s = still_few 2 s

lookup_few : {S : Type 0} (m : Meaning S) (k : Keeping) (q n : ℕ) (s : ReplicaState) → Few 2 s (rows.slot_lookup m k q n s)
unfolding rows.slot_lookup
lookup_few m k q n s = lookup_by_few m k (answer_of k s.log (waits s.gap) n) q n s

gap_reply_at_few : {S : Type 0} (m : Meaning S) (k : Keeping) (o : Option Agreement) (q n : ℕ) (s : ReplicaState)
    → Few 1 s (rows.gap_reply_at m k o q n s)
gap_reply_at_few m k None q n s = still_few 1 s
gap_reply_at_few m k (Some g) q n s = when_few 1 (g.slot == n) _ s (and_drain m k 0 (changed_few 0 s (count_gap_vote s g q).0 refl))

gap_reply_few : {S : Type 0} (m : Meaning S) (k : Keeping) (q n : ℕ) (s : ReplicaState) → Few 1 s (rows.gap_reply m k q n s)
unfolding rows.gap_reply
gap_reply_few m k q n s = gap_reply_at_few m k s.gap q n s

commit_if_few : (s t : ReplicaState) (n : ℕ) (v : Vote) → t.config ≡ s.config → Few 1 s (t, commit_if s n v)
commit_if_few s t n Settled e = all_few s t (bodies.SyncCommit n) e
commit_if_few s t n Waiting e = record { few = omega arith; config = e }

sync_reply_few : {S : Type 0} (m : Meaning S) (k : Keeping) (q n : ℕ) (s : ReplicaState) → Few 2 s (rows.sync_reply m k q n s)
unfolding rows.sync_reply
sync_reply_few m k q n s =
    and_rise m k 1 (commit_if_few s (count_sync_vote s q n).0 n (vote_for s.sync q n) refl)

-- ---- ticks

suspect_few : {S : Type 0} (m : Meaning S) (k : Keeping) (s : ReplicaState) → Few 8 s (rows.suspect m k s)
suspect_few m k s =
    when_few 8 (nat_lt s.view.leader rows.last_leader) (rows.enter_and_drain m k (rows.next_leader s.view)) s
    (more 5 8 (omega arith) (enter_and_drain_few m k (rows.next_leader s.view) s))

gap_again_few : (o : Option Agreement) (s : ReplicaState) → Few 1 s (gap_again o s)
gap_again_few None s = still_few 1 s
gap_again_few (Some g) s = all_few s s (bodies.GapCommit g.slot) refl

lookup_again_few : (k : Keeping) (front : Front) (s : ReplicaState) → Few 1 s (lookup_again k front s)
lookup_again_few k Nothing s = still_few 1 s
lookup_again_few k (Message r) s = still_few 1 s
lookup_again_few k Dropped s = when_few 1 (has_room k s) _ s (record { few = omega arith; config = refl })

change_again_few : (b : Bool) (s : ReplicaState) → Few 1 s (change_again b s)
change_again_few true s = still_few 1 s
change_again_few false s = change_sent_few s

resend_by_few : (k : Keeping) (status : Phase) (b : Bool) (s : ReplicaState) → Few 2 s (resend_by k status b s)
resend_by_few k Change b s = then_few (change_again b) 1 1 2 (omega arith) (all_few s s bodies.ViewChangeReq refl) (change_again_few b s)
resend_by_few k Normal true s = more 1 2 (omega arith) (gap_again_few s.gap s)
resend_by_few k Normal false s = more 1 2 (omega arith) (lookup_again_few k (front_of s.receiver) s)

resend_few : (k : Keeping) (s : ReplicaState) → Few 2 s (resend k s)
unfolding resend
resend_few k s = resend_by_few k s.status (leads s) s

sync_if_few : (k : Keeping) (b : Bool) (s : ReplicaState) → Few 1 s (sync_if k b s)
sync_if_few k true s = all_few s (open_sync k s).0 (bodies.SyncPrepare s.log) refl
sync_if_few k false s = all_few s s (bodies.SyncCommit s.sync.sync_point) refl

sync_few : (k : Keeping) (s : ReplicaState) → Few 1 s (sync k s)
unfolding sync
sync_few k s =
    when_few 1 (is_normal s.status && (leads s && not (waits s.gap)))
    (λ t. sync_if k (nat_lt t.sync.sync_point (length_of k t.log)) t) s
    (sync_if_few k (nat_lt s.sync.sync_point (length_of k s.log)) s)

sync_row_few : {S : Type 0} (m : Meaning S) (k : Keeping) (s : ReplicaState) → Few 2 s (rows.sync m k s)
unfolding rows.sync
sync_row_few m k s = and_rise m k 1 (sync_few k s)

-- ---- all that arrives

each_few : {S : Type 0} (m : Meaning S) (k : Keeping) → EachRow m k (λ s. ⊤) (λ p. ⊤) (λ p. ⊤) (Few 8)
each_few m k = record {
  nothing = λ s i. still_few 8 s;
  stamped = λ s p i f. more 5 8 (omega arith) (stamped_few m k s p);
  request = λ s p i g. more 5 8 (omega arith) (request_few m k s p.view);
  view_change = λ s p u x l i g. more 7 8 (omega arith) (view_change_few m k s p.view (change_in p u x l));
  start_view = λ s p x l i g. more 1 8 (omega arith) (start_view_few m k s p.sender p.view x l);
  gap_commit = λ s p n i g. more 2 8 (omega arith) (gap_commit_few m k n s);
  found = λ s p n r i g. more 1 8 (omega arith) (found_few m k n r s);
  sync_prepare = λ s p l i g. more 2 8 (omega arith) (prepare_few m k l s);
  sync_commit = λ s p n i g. more 1 8 (omega arith) (commit_row_few m k n s);
  slot_lookup = λ s p n i g. more 2 8 (omega arith) (lookup_few m k p.sender n s);
  gap_reply = λ s p n i g. more 1 8 (omega arith) (gap_reply_few m k p.sender n s);
  sync_reply = λ s p n i g. more 2 8 (omega arith) (sync_reply_few m k p.sender n s);
  suspect = λ s i. suspect_few m k s;
  unheard = λ s i. changed_few 8 s (record s { heard = false }) refl;
  resend = λ s i. more 2 8 (omega arith) (resend_few k s);
  sync = λ s i. more 2 8 (omega arith) (sync_row_few m k s);
}

arrive_few : {S : Type 0} (m : Meaning S) (k : Keeping) (s : ReplicaState) (a : Arrival) → Few 8 s (arrive m k s a)
arrive_few m k s a = arrive_row m k _ _ _ (Few 8) (each_few m k) s a tt (λ p e. tt) (λ p e is. tt)

pub arrive_sends_few : {S : Type 0} (m : Meaning S) (k : Keeping) (s : ReplicaState) (a : Arrival) → message_count (arrive m k s a).1 ≤ 8
arrive_sends_few m k s a = (arrive_few m k s a).few

pub arrive_keeps_config : {S : Type 0} (m : Meaning S) (k : Keeping) (s : ReplicaState) (a : Arrival) → (arrive m k s a).0.config ≡ s.config
arrive_keeps_config m k s a = (arrive_few m k s a).config
