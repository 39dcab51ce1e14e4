-- The moves of which the rows of a replica are made. Each says what becomes of the state and what is sent; the rows say when it
-- is made.
use Rattle.std.specs.Prelude.{ℕ, zero, suc, ◌+◌, ◌-◌, List, [], ◌∷◌, ◌++◌, length, map, Bool, true, false, cond, not, Option, Some, None}
use Rattle.std.specs.Prelude.{nat_le, nat_lt, max, ◌==◌, ◌&&◌}
use Rattle.nop_types.specs.declared.limits.TheConstants.{MAX_SLOTS}
use Rattle.nop_types.specs.Meaning.{Meaning}
use Rattle.nop_types.specs.CheckpointedLogs as checkpointed
use Rattle.nop_types.specs.Logs as logs
use Rattle.nop_types.specs.Logs.{Log, Keeping, length_of, unsynced, between, whole, first, with_noop}
use Rattle.nop_types.specs.PlainChanges.{plain}
use Rattle.nop_types.specs.declared.view.View.{View}
use Rattle.nop_types.specs.declared.replica_state.Phase.TheVariants as phases
use Rattle.nop_types.specs.declared.replica_state.Vote.{Vote}
use Rattle.nop_types.specs.declared.replica_state.Vote.TheVariants.{Settled, Waiting}
use Rattle.nop_types.specs.declared.request.Request.{Request}
use Rattle.nop_types.specs.declared.request.Entry.{Entry}
use Rattle.nop_types.specs.declared.request.Entry.TheVariants.{NoOp, Req}
use Rattle.nop_types.specs.declared.datagram.Stamped.{Stamped}
use Rattle.nop_types.specs.declared.peer.Change.{Change}
use Rattle.nop_types.specs.declared.peer.Body.TheVariants as bodies
use Rattle.slot_votes.specs.Agreement.{Agreement, gap_vote_counted}
use Rattle.log_merge.specs.Merging.{kept_changes, merged}
use Rattle.log_merge.specs.Starting.{start_of}
use Rattle.oum_receiver.specs.Front.{Front, Nothing, Message, Dropped}
use Rattle.oum_receiver.specs.Receiving as receiving
use Rattle.oum_receiver.specs.Receiving.{Receiving, offered, front_of, front_taken, advanced}
use Rattle.slot_votes.specs.Synchronisation as synchronisation
use Rattle.slot_votes.specs.Synchronisation.{cleared, raised, with_round, committed, vote_for}
use Rattle.view_change.specs.Gathering as gathering
use Rattle.view_change.specs.Gathering.{Gathering, change_sender}
use Rattle.replica_state.specs.declared.sending.Sending.{Sending}
use Rattle.replica_state.specs.declared.sending.Sending.TheVariants.{Trims}
use Rattle.replica_state.specs.declared.state.ReplicaState.{ReplicaState}
use Rattle.replica_state.specs.State.{max_faults, leads, drains, waiting, waiting_in}
use Rattle.replica_state.specs.Sends.{Effect, still, then_do, when, to_replica, to_leader, to_all}
use Rattle.replica_state.specs.Replies.{reply_to, replies_above}

-- ---- the leader is heard

-- a row that is taken shows that the leader is there
abbrev pub hear : ReplicaState → ReplicaState
hear s = record s { heard = true }

-- ---- the receiver

-- a packet is offered
abbrev pub queue : ReplicaState → Stamped → Effect
queue s p = still (record s { receiver = offered s.receiver p })

-- a packet of a greater session: the receiver begins that session with it, and the view is left
abbrev pub begin_session : ReplicaState → Stamped → ReplicaState
begin_session s p = record s { status = phases.Change; receiver = offered (receiving.opened p.session 1) p }

-- the view that such a packet makes a replica enter
abbrev pub session_view : ReplicaState → Stamped → View
session_view s p = record { leader = s.view.leader; session = p.session }

-- ---- the next slot

-- the request in front is logged
abbrev pub logged : ReplicaState → Request → ReplicaState
logged s r = record s { log = logs.appended s.log (Req r); next = s.next + 1; receiver = front_taken s.receiver }

abbrev pub take_front : {S : Type 0} → Meaning S → Keeping → ReplicaState → Request → Effect
take_front m k s r = (logged s r, reply_to m k (logged s r) (length_of k s.log + 1) r)

-- an entry that did not come through the receiver
abbrev pub appended : ReplicaState → Entry → ReplicaState
appended s e = record s { log = logs.appended s.log e; next = s.next + 1; receiver = advanced s.receiver (s.next + 1) }

-- a follower logs a request that it missed
abbrev pub fill : {S : Type 0} → Meaning S → Keeping → ReplicaState → Request → Effect
fill m k s r = (appended s (Req r), reply_to m k (appended s (Req r)) (length_of k s.log + 1) r)

-- ---- gaps

-- a follower asks its leader for the next slot, once
abbrev pub ask_if : Keeping → Bool → ReplicaState → Effect
ask_if k true s = still s
ask_if k false s = (record s { asked = length_of k s.log + 1 }, to_leader s (bodies.SlotLookup (length_of k s.log + 1)))

abbrev pub ask : Keeping → ReplicaState → Effect
ask k s = ask_if k (s.asked == length_of k s.log + 1) s

-- a leader puts a NO-OP into the next slot, and tells all
abbrev pub gap_opened : Keeping → ReplicaState → ReplicaState
gap_opened k s = record (appended s NoOp) { gap = waiting_in (length_of k s.log + 1) (max_faults s) }

unfoldable pub open_gap : Keeping → ReplicaState → Effect
open_gap k s = (gap_opened k s, to_all s (bodies.GapCommit (length_of k s.log + 1)))

-- a follower puts a NO-OP into a slot that it has, unless the slot is synchronised
abbrev pub gap_written : Keeping → ReplicaState → ℕ → ReplicaState
gap_written k s n = record s { log = cond (nat_le n s.sync.sync_point) s.log (with_noop k s.log n) }

abbrev pub write_gap : Keeping → ReplicaState → ℕ → Effect
write_gap k s n = (gap_written k s n, to_leader s (bodies.GapRep n))

-- or into the next one
abbrev pub add_gap : Keeping → ReplicaState → Effect
add_gap k s = (appended s NoOp, to_leader s (bodies.GapRep (length_of k s.log + 1)))

-- a leader counts a vote; the gap is closed at enough of them
abbrev pub count_gap_vote : ReplicaState → Agreement → ℕ → Effect
count_gap_vote s g q = still (record s { gap = waiting (gap_vote_counted g q) })

-- ---- what is in front is taken

-- a leader opens a gap at a drop and goes on; a follower asks and stops
abbrev pub drain_drop : Keeping → (ReplicaState → Effect) → Bool → ReplicaState → Effect
drain_drop k again true s = then_do (open_gap k s) again
drain_drop k again false s = ask k s

abbrev pub drain_at : {S : Type 0} → Meaning S → Keeping → (ReplicaState → Effect) → ReplicaState → Bool → Front → Effect
drain_at m k again s true (Message r) = then_do (take_front m k s r) again
drain_at m k again s true Dropped = drain_drop k again (leads s) s
drain_at m k again s true Nothing = still s
drain_at m k again s false front = still s

abbrev pub drain_by : {S : Type 0} → Meaning S → Keeping → ℕ → ReplicaState → Effect
drain_by m k zero s = still s
drain_by m k (suc room) s = drain_at m k (drain_by m k room) s (drains k s) (front_of s.receiver)

-- at most as often as the log has room
unfoldable pub drain : {S : Type 0} → Meaning S → Keeping → ReplicaState → Effect
drain m k s = drain_by m k (MAX_SLOTS - unsynced k s.log) s

-- ---- a greater view is entered

-- a session that the receiver is not in yet begins there
abbrev pub listening : ReplicaState → View → Receiving
listening s v = cond (nat_lt s.view.session v.session && not (s.receiver.session == v.session)) (receiving.opened v.session 1) s.receiver

-- nothing of the view that is left stays, and the replica listens for the leader of the new one
abbrev pub left : ReplicaState → ReplicaState
left s = record s { gap = None; sync = cleared s.sync; changes = None; asked = 0; heard = true }

abbrev pub entered : ReplicaState → View → ReplicaState
entered s v = record (left s) { view = v; status = phases.Change; receiver = listening s v }

-- what a replica tells the leader of the view that it enters
abbrev pub own_change : ReplicaState → Change
own_change s = record { sender = s.number; last_normal = s.last_normal; next = s.next; log = s.log }

abbrev pub change_sent : ReplicaState → List Sending
change_sent s = to_leader s (bodies.ViewChange s.last_normal s.next s.log)

abbrev pub enter_as : Bool → ReplicaState → Effect
enter_as true s = (record s { changes = Some (gathering.entered s.view (max_faults s) (own_change s)) }, to_all s bodies.ViewChangeReq)
enter_as false s = (s, to_all s bodies.ViewChangeReq ++ change_sent s)

-- the leader keeps its own change, another sends it
unfoldable pub enter : ReplicaState → View → Effect
enter s v = enter_as (leads (entered s v)) (entered s v)

-- ---- a view starts

-- the receiver goes to the number, in the session of the view
abbrev pub listening_from : ReplicaState → View → ℕ → Receiving
listening_from s v x = cond (nat_lt s.receiver.session v.session) (receiving.opened v.session x) (advanced s.receiver x)

-- part is taken in a view from what it starts with: of the own log what is synchronised stays, unless more is in the other one
abbrev pub adopted : Keeping → ReplicaState → View → ℕ → Log → ReplicaState
adopted k s v x l = record (left s) {
  view = v;
  status = phases.Normal;
  last_normal = v;
  log = logs.adopted k l s.log;
  next = x;
  base = length_of k (logs.adopted k l s.log);
  receiver = listening_from s v x;
  sync = raised (cleared s.sync) l.sync_point;
}

-- each request above the sync point is answered once more
unfoldable pub adopt : {S : Type 0} → Meaning S → Keeping → ReplicaState → View → ℕ → Log → Effect
adopt m k s v x l =
    then_do (adopted k s v x l, replies_above m k (adopted k s v x l) (adopted k s v x l).sync.sync_point) (drain m k)

-- the leader tells all what its view starts with, and adopts it
abbrev pub open_with : {S : Type 0} → Meaning S → Keeping → ReplicaState → ℕ → Log → Effect
open_with m k s x l = then_do (s, to_all s (bodies.StartView x l)) (λ t. adopt m k t t.view x l)

abbrev pub open_view : {S : Type 0} → Meaning S → Keeping → Gathering Change → ReplicaState → Effect
open_view m k g s = open_with m k s (start_of g.view (map plain g.changes)).next (merged k (kept_changes g.changes))

-- the view is opened where enough changes are there
abbrev pub open_if_enough : {S : Type 0} → Meaning S → Keeping → Option (Gathering Change) → ReplicaState → Effect
open_if_enough m k None s = still s
open_if_enough m k (Some g) s = when (nat_lt g.f (length g.changes)) (open_view m k g) s

-- the leader keeps the change of another
abbrev pub keep_change : ReplicaState → Gathering Change → Change → Effect
keep_change s g c = still (record s { changes = Some (gathering.change_added change_sender g c) })

-- how many entries a late replica is sent: those that the view started with, and those that are synchronised
abbrev pub start_len : ReplicaState → ℕ
start_len s = max s.base s.sync.sync_point

-- the leader tells a late replica what the view started with
abbrev pub resend_start : Keeping → ReplicaState → ℕ → Effect
resend_start k s q =
    (s, to_replica s q (bodies.StartView (s.next - (length_of k s.log - start_len s)) (first k s.log (start_len s))))

-- ---- sync points

-- a follower takes the entries of its leader's log, and keeps its own ones above the end of that
abbrev pub overlaid : Keeping → ReplicaState → Log → ReplicaState
overlaid k s l = record s {
  log = logs.overlaid k l s.log;
  next = s.next + (length_of k l - length_of k s.log);
  receiver = advanced s.receiver (s.next + (length_of k l - length_of k s.log));
  sync = raised (synchronisation.taken s.sync (length_of k l)) l.sync_point;
}

-- the requests that are new are answered, where they are above the sync point
unfoldable pub overlay : {S : Type 0} → Meaning S → Keeping → ReplicaState → Log → Effect
overlay m k s l = (
  overlaid k s l,
  replies_above m k (overlaid k s l) (max (length_of k s.log) (overlaid k s l).sync.sync_point)
      ++ to_leader s (bodies.SyncRep (length_of k l)),
)

-- a follower's sync point rises to what its leader says
abbrev pub obey : ReplicaState → ℕ → Effect
obey s n = still (record s { sync = committed s.sync n })

-- where so much is prepared
unfoldable pub sync_commit : ℕ → ReplicaState → Effect
sync_commit n s = when (nat_le n s.sync.prepared) (λ t. obey (hear t) n) s

-- a leader sends its log, and waits for votes
abbrev pub open_sync : Keeping → ReplicaState → Effect
open_sync k s = (record s { sync = with_round s.sync (length_of k s.log) }, to_all s (bodies.SyncPrepare s.log))

-- or says again what is synchronised
abbrev pub repeat_commit : ReplicaState → Effect
repeat_commit s = (s, to_all s (bodies.SyncCommit s.sync.sync_point))

-- a leader tells a replica that asks for a synchronised slot all that is synchronised
abbrev pub send_synced : Keeping → ReplicaState → ℕ → Effect
send_synced k s q = (s, to_replica s q (bodies.SyncPrepare (first k s.log s.sync.sync_point)))

abbrev pub commit_if : ReplicaState → ℕ → Vote → List Sending
commit_if s n Settled = to_all s (bodies.SyncCommit n)
commit_if s n Waiting = []

-- the sync point of the log becomes that for which votes are counted
abbrev pub log_trimmed : {S : Type 0} → Meaning S → Keeping → ReplicaState → ReplicaState
log_trimmed m k s = record s { log = checkpointed.raised m k s.log s.sync.sync_point }

-- the entries between the two, as a log without a checkpoint
abbrev pub trimmed_entries : Keeping → ReplicaState → Log
trimmed_entries k s = whole 0 (between k s.log s.sync.sync_point)

-- and these entries move out of the log, where it is trimmed
abbrev pub trim : {S : Type 0} → Meaning S → Keeping → ReplicaState → Effect
trim m k s = (log_trimmed m k s, Trims (s.log.sync_point + 1) (trimmed_entries k s) ∷ [])

-- a leader counts a vote; at enough of them its sync point rises, and it tells all
abbrev pub count_sync_vote : ReplicaState → ℕ → ℕ → Effect
count_sync_vote s q n = (record s { sync = synchronisation.sync_vote_counted s.sync q n }, commit_if s n (vote_for s.sync q n))
