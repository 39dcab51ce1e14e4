-- Moves keep a replica's state within its ranges, and what was executed.
use Rattle.std.proofs.Common.{◌≡◌, ◌<◌, ◌≤◌, ◌+◌, ◌-◌, ℕ, Bool, true, false, List, [], ◌++◌, length, take, refl, sym, ap}
use Rattle.std.proofs.Common.{subst, ◌∙◌, arith, append_assoc, append-nil}
use Rattle.std.specs.Prelude.{cond, max, not, ◌==◌, ◌&&◌, nat_le, nat_lt, IfSome, IsSome, is_some}
use Rattle.std.specs.Prelude.{Option, Some, None, Result, Ok, Err, OnOk}
use Rattle.std.specs.List.{AllByRecursion}
use Rattle.std.proofs.lemmas.Bool.{ltb-true, lt-ltb, le-ltb, and_parts}
use Rattle.std.proofs.lemmas.Bool.Decides.{nat_tests}
use Rattle.nop_types.specs.declared.host.Host.{Ghosts}
use Rattle.nop_types.specs.declared.limits.TheConstants.{MAX_SLOTS, MAX_LENGTH, NUMBER_END}
use Rattle.nop_types.specs.declared.request.Request.{Request}
use Rattle.nop_types.specs.declared.request.Entry.{Entry}
use Rattle.nop_types.specs.declared.request.Entry.TheVariants.{NoOp, Req}
use Rattle.nop_types.specs.Logs as logs
use Rattle.nop_types.specs.Logs.{Log, Keeping, Whole, Trimmed, length_of, unsynced, with_noop}
use Rattle.nop_types.specs.CheckpointedLogs.{loads}
use Rattle.nop_types.specs.Ranges.{EntryFits, RequestFits, LogIsIn, LogFits, SlotFits, ViewFits, NextFits, ChangeIsIn, ChangeFits}
use Rattle.slot_votes.specs.Agreement.{Agreement, begun}
use Rattle.slot_votes.specs.Votes.{vote_of}
use Rattle.nop_types.specs.declared.replica_state.Phase.{Phase}
use Rattle.nop_types.specs.declared.replica_state.Phase.TheVariants.{Normal, Change}
use Rattle.nop_types.specs.declared.replica_state.Vote.{Vote}
use Rattle.nop_types.specs.declared.replica_state.Vote.TheVariants.{Settled, Waiting}
use Rattle.nop_types.specs.declared.view.View.{View}
use Rattle.nop_types.specs.declared.datagram.Stamped.{Stamped}
use Rattle.nop_types.specs.declared.peer.Change as peer
use Rattle.lemmas.proofs.Slots.{length-set_slot}
use Rattle.oum_receiver.specs.declared.verdict.Verdict.{Verdict}
use Rattle.oum_receiver.specs.declared.verdict.Verdict.TheVariants as verdicts
use Rattle.oum_receiver.specs.Receiving.{Receiving, judged, offered, verdict_of}
use Rattle.slot_votes.specs.Synchronisation.{Synchronisation, with_round, committed}
use Rattle.slot_votes.specs.Synchronisation as synchronisation
use Rattle.view_change.specs.Gathering as gathering
use Rattle.view_change.specs.Gathering.{Gathering, change_added, change_sender}
use Rattle.executor.specs.Running.{Running, reached}
use Rattle.executor.specs.Undoing.{HasExecuted}
use Rattle.executor.proofs.PrefixLemmas.{executed_append, executed_noop, executed_other}
use Rattle.replica_log.proofs.Adopted.{adopted_point, overlaid_point}
use Rattle.replica_log.proofs.InRanges.{append_fits, noop_fits, adopt_fits, overlay_fits, length-overlaid_in}
use Rattle.replica_state.specs.declared.state.ReplicaState.{ReplicaState}
use Rattle.replica_state.specs.State.{may_append, drains, has_room, may_trim, leads, max_faults, waits, is_normal, unless_settled}
use Rattle.replica_state.specs.Moves.{begin_session, appended, gap_opened, gap_written, ask_if, ask, logged, adopted, overlaid}
use Rattle.replica_state.specs.Moves.{queue, entered, enter_as, own_change, hear, obey, sync_commit, count_sync_vote, log_trimmed}
use Rattle.replica_state.specs.Repeating.{sync_if, sync}
use Rattle.replica_rows.specs.Gathering.{kept_by}
use Rattle.replica_state.specs.Within.{IsIn, IsWithin}
use Rattle.replica_state.specs.Sends.{Effect, still, then_do, when}
use Rattle.replica_state.specs.declared.sending.Sending.{Sending}
use Rattle.replica_rows.specs.declared.member.Member.{Member}
use Rattle.replica_rows.specs.Trimming.{trim_log}
use Rattle.replica_rows.specs.Within.{ChangeLoads, LogsLoad, Executes, Runs, IsRunning, Does}
use Rattle.replica_rows.proofs.Opening.{counted_fits}
use Rattle.replica_rows.proofs.Fields.{length-appended, SyncFits, sync_of, sync_longer, with_receiver, with_asked, with_heard, with_sync, risen_within}
use Rattle.replica_rows.proofs.Fields.{with_round_fits, committed_fits, counted_in_fits, with_round_grows, committed_grows, counted_grows}

-- ---- at Ok

pub on_ok : {A E : Type 0} (r : Result A E) (P Q : Type 0) → (P → Q) → OnOk r P → OnOk r Q
on_ok (Ok a) P Q f p = f p
on_ok (Err e) P Q f p = p

pub always_ok : {A E : Type 0} (r : Result A E) (P : Type 0) → P → OnOk r P
always_ok (Ok a) P p = p
always_ok (Err e) P p = tt

pub on_ok_both : {A E : Type 0} (r : Result A E) (P Q R : Type 0) → (P → Q → R) → OnOk r P → OnOk r Q → OnOk r R
on_ok_both (Ok a) P Q R f p q = f p q
on_ok_both (Err e) P Q R f p q = p

pub sent_on : {A : Type 0} (old a mid b new : List A) → mid ≡ old ++ a → new ≡ mid ++ b → new ≡ old ++ (a ++ b)
sent_on old a mid b new first then = then ∙ ap (λ xs. xs ++ b) first ∙ append_assoc old a b

-- ---- one row after the other

-- what comes of a row does not depend on how it is written
pub does_as : {H U : Type 0} (host : Ghosts H U) (old new : Member H U) (f h : ReplicaState → Effect) → f old.state ≡ h old.state
    → Does host old new f → Does host old new h
does_as host old new f h same does = record {
  runs = does.runs;
  state = does.state ∙ ap (λ (e : Effect). e.0) same;
  sends = does.sends ∙ ap (λ (e : Effect). old.sends ++ e.1) same;
}

-- nor on what was done to the state before it
pub does_of : {H U : Type 0} (host : Ghosts H U) (old mid new : Member H U) (f h : ReplicaState → Effect) → mid.sends ≡ old.sends
    → f mid.state ≡ h old.state → Does host mid new f → Does host old new h
does_of host old mid new f h sends same does = record {
  runs = does.runs;
  state = does.state ∙ ap (λ (e : Effect). e.0) same;
  sends =
      does.sends
      ∙ ap (λ (xs : List Sending). xs ++ (f mid.state).1) sends
      ∙ ap (λ (e : Effect). old.sends ++ e.1) same;
}

-- a row that does nothing
pub does_nothing : {H U : Type 0} (host : Ghosts H U) (old : Member H U) (h : ReplicaState → Effect) → h old.state ≡ still old.state
    → IsRunning host old → Does host old old h
does_nothing host old h same runs = record {
  runs = runs;
  state = sym (ap (λ (e : Effect). e.0) same);
  sends = sym (append-nil old.sends) ∙ sym (ap (λ (e : Effect). old.sends ++ e.1) same);
}

-- one row after the other
pub does_then : {H U : Type 0} (host : Ghosts H U) (old mid new : Member H U) (f h : ReplicaState → Effect) → Does host old mid f
    → Does host mid new h → Does host old new (λ s. then_do (f s) h)
does_then host old mid new f h first next = record {
  runs = next.runs;
  state = next.state ∙ ap (λ (s : ReplicaState). (h s).0) first.state;
  sends =
      sent_on old.sends (f old.state).1 mid.sends (h mid.state).1 new.sends first.sends next.sends
      ∙ ap (λ (s : ReplicaState). old.sends ++ ((f old.state).1 ++ (h s).1)) first.state;
}

pub waiting_fits : (g : Agreement) → SlotFits g.slot → (v : Vote) → IfSome (unless_settled g v) (λ g. SlotFits g.slot)
waiting_fits g fits Settled = tt
waiting_fits g fits Waiting = fits

-- ---- an entry is appended

status_is : (p : Phase) → is_normal p ≡ true → p ≡ Normal
status_is Normal e = refl
status_is Change e = absurd cc

-- where the receiver has a next number, so has the log
pub may_open : (k : Keeping) (s : ReplicaState) → IsIn k s → drains k s ≡ true → s.receiver.next < NUMBER_END → may_append k s ≡ true
may_open k s w may more =
    let tests = and_parts (is_normal s.status) (not (waits s.gap) && has_room k s) may in
    let room = (and_parts (not (waits s.gap)) (has_room k s) tests.1).1 in
    let same = w.receiver (status_is s.status tests.0) in
    ap (λ (b : Bool). b && nat_lt s.next NUMBER_END) room ∙ lt-ltb _ _ (omega (arith, same, more))

room_of : (k : Keeping) (s : ReplicaState) → has_room k s ≡ true → length_of k s.log < MAX_LENGTH
room_of k s room = ltb-true _ _ (and_parts (nat_lt (unsynced k s.log) MAX_SLOTS) (nat_lt (length_of k s.log) MAX_LENGTH) room).1

pub append_within : (k : Keeping) (s : ReplicaState) (e : Entry) → IsIn k s → EntryFits e → may_append k s ≡ true → IsIn k (appended s e)
append_within k s e w fits may =
    let tests = and_parts (has_room k s) (nat_lt s.next NUMBER_END) may in
    let more : s.next < NUMBER_END = ltb-true _ _ tests.1 in
    let low = w.next.low in
    let base = w.base in
    let start = w.start in
    let len = length-appended k s.log e in
    let sync = sync_longer (length_of k s.log) (length_of k (logs.appended s.log e)) s.sync (omega (arith, len)) (sync_of k s w) in
    record {
      number = w.number;
      few = w.few;
      view = w.view;
      last_normal = w.last_normal;
      log = append_fits k s.log e w.log fits tests.0;
      next = record { low = omega arith; high = omega (arith, more) };
      base = omega (arith, len, base);
      start = omega (arith, len, start);
      receiver = λ _. refl;
      gap = w.gap;
      points = w.points;
      sync_point = sync.sync_point;
      syncing = sync.syncing;
      prepared = sync.prepared;
      changes = w.changes;
    }

pub open_gap_within : (k : Keeping) (s : ReplicaState) → IsIn k s → may_append k s ≡ true → IsIn k (gap_opened k s)
open_gap_within k s w may =
    let a = append_within k s NoOp w tt may in
    let room = room_of k s (and_parts (has_room k s) (nat_lt s.next NUMBER_END) may).0 in
    record {
      number = a.number;
      few = a.few;
      view = a.view;
      last_normal = a.last_normal;
      log = a.log;
      next = a.next;
      base = a.base;
      start = a.start;
      receiver = a.receiver;
      gap =
          waiting_fits (begun (length_of k s.log + 1) (max_faults s))
          (record { low = omega arith; high = omega (arith, room) })
          (vote_of (max_faults s) []);
      points = a.points;
      sync_point = a.sync_point;
      syncing = a.syncing;
      prepared = a.prepared;
      changes = a.changes;
    }

pub logged_within : (k : Keeping) (s : ReplicaState) (r : Request) → IsIn k s → RequestFits r → drains k s ≡ true → s.next < NUMBER_END
    → IsIn k (logged s r)
logged_within k s r w fits d more =
    let room = (and_parts (not (waits s.gap)) (has_room k s) (and_parts (is_normal s.status) _ d).1).1 in
    let low = w.next.low in
    let base = w.base in
    let start = w.start in
    let len = length-appended k s.log (Req r) in
    let sync = sync_longer (length_of k s.log) (length_of k (logs.appended s.log (Req r))) s.sync (omega (arith, len)) (sync_of k s w) in
    record {
      number = w.number;
      few = w.few;
      view = w.view;
      last_normal = w.last_normal;
      log = append_fits k s.log (Req r) w.log fits room;
      next = record { low = omega arith; high = omega (arith, more) };
      base = omega (arith, len, base);
      start = omega (arith, len, start);
      receiver = λ e. ap (λ n. n + 1) (w.receiver e);
      gap = w.gap;
      points = w.points;
      sync_point = sync.sync_point;
      syncing = sync.syncing;
      prepared = sync.prepared;
      changes = w.changes;
    }

-- ---- a slot becomes a NO-OP

length-noop : (k : Keeping) (l : Log) (n : ℕ) → length_of k (with_noop k l n) ≡ length_of k l
length-noop Whole l n = length-set_slot l.entries n NoOp
length-noop Trimmed l n = ap (λ i. l.sync_point + i) (length-set_slot l.entries (n - l.sync_point) NoOp)

-- a log in its ranges, of the same length and with the same sync point
record Fits (k : Keeping) (n point : ℕ) (l : Log) : Type 0 where
  log : LogIsIn k l
  len : length_of k l ≡ n
  log_point : l.sync_point ≡ point

unless_fits : (k : Keeping) (b : Bool) (n : ℕ) (l : Log) → LogIsIn k l
    → Fits k (length_of k l) l.sync_point (cond b l (with_noop k l n))
unless_fits k true n l fits = record { log = fits; len = refl; log_point = refl }
unless_fits k false n l fits = record { log = noop_fits k l n fits; len = length-noop k l n; log_point = refl }

pub noop_within : (k : Keeping) (s : ReplicaState) (n : ℕ) → IsIn k s → IsIn k (gap_written k s n)
noop_within k s n w =
    let new = unless_fits k (nat_le n s.sync.sync_point) n s.log w.log in
    let same = new.len in
    let base = w.base in
    let start = w.start in
    let sync = sync_longer (length_of k s.log) (length_of k (gap_written k s n).log) s.sync (omega (arith, same)) (sync_of k s w) in
    record {
      number = w.number;
      few = w.few;
      view = w.view;
      last_normal = w.last_normal;
      log = new.log;
      next = w.next;
      base = omega (arith, same, base);
      start = omega (arith, same, start);
      receiver = w.receiver;
      gap = w.gap;
      points = new.log_point ∙ w.points;
      sync_point = sync.sync_point;
      syncing = sync.syncing;
      prepared = sync.prepared;
      changes = w.changes;
    }

-- a synchronised slot stays as it is
pub noop_stays : (k : Keeping) (s : ReplicaState) (n : ℕ) → n ≤ s.sync.sync_point → s ≡ gap_written k s n
noop_stays k s n le =
    let synced : nat_le n s.sync.sync_point ≡ true = grind (arith, nat_tests, le) in
    ap (λ (b : Bool). record s { log = cond b s.log (with_noop k s.log n) }) (sym synced)

-- one above is written
pub noop_writes : (k : Keeping) (s t u : ReplicaState) (n : ℕ) → t ≡ s → u ≡ record t { log = with_noop k t.log n }
    → s.sync.sync_point < n → u ≡ gap_written k s n
noop_writes k s t u n same is above =
    let free : nat_le n s.sync.sync_point ≡ false = grind (arith, nat_tests, above) in
    is
    ∙ ap (λ (p : ReplicaState). record p { log = with_noop k p.log n }) same
    ∙ ap (λ (b : Bool). record s { log = cond b s.log (with_noop k s.log n) }) (sym free)

-- ---- views

judged_next : (v : Verdict) (r : Receiving) (p : Stamped) → (judged v r p).next ≡ r.next
judged_next verdicts.Queued r p = refl
judged_next _ r p = refl

queued_within : (k : Keeping) (s : ReplicaState) (p : Stamped) → IsIn k s → IsIn k (queue s p).0
queued_within k s p w =
    with_receiver k s (offered s.receiver p) w (λ normal. judged_next (verdict_of s.receiver p) s.receiver p ∙ w.receiver normal)

entered_within : (k : Keeping) (s : ReplicaState) (v : View) → IsIn k s → ViewFits v → IsIn k (entered s v)
entered_within k s v w view = record {
  number = w.number;
  few = w.few;
  view = view;
  last_normal = w.last_normal;
  log = w.log;
  next = w.next;
  base = w.base;
  start = w.start;
  receiver = λ e. absurd cc;
  gap = tt;
  points = w.points;
  sync_point = w.sync_point;
  syncing = tt;
  prepared = omega arith;
  changes = tt;
}

from_next : (b : Bool) (r q : Receiving) (x : ℕ) → r.next ≡ x → q.next ≡ x → (cond b r q).next ≡ x
from_next true r q x e f = e
from_next false r q x e f = f

pub adopted_within : (k : Keeping) (s : ReplicaState) (v : View) (x : ℕ) (l : Log) → IsIn k s → ViewFits v → NextFits x → LogIsIn k l
    → IsIn k (adopted k s v x l)
adopted_within k s v x l w view next log_fits =
    let low = next.low in
    let log = adopt_fits k l s.log log_fits w.log in
    let points = w.points in
    let point : (logs.adopted k l s.log).sync_point ≡ max s.sync.sync_point l.sync_point =
    adopted_point l s.log ∙ ap (λ (n : ℕ). max n l.sync_point) points in
    let within = log.point in
    record {
      number = w.number;
      few = w.few;
      view = view;
      last_normal = view;
      log = log;
      next = next;
      base = omega arith;
      start = omega (arith, low);
      receiver = λ _. from_next (nat_lt s.receiver.session v.session) _ _ x refl refl;
      gap = tt;
      points = point;
      sync_point = omega (arith, point, within);
      syncing = tt;
      prepared = omega arith;
      changes = tt;
    }

pub begun_within : (k : Keeping) (s : ReplicaState) (p : Stamped) → IsIn k s → IsIn k (begin_session s p)
begun_within k s p w = record {
  number = w.number;
  few = w.few;
  view = w.view;
  last_normal = w.last_normal;
  log = w.log;
  next = w.next;
  base = w.base;
  start = w.start;
  receiver = λ e. absurd cc;
  gap = w.gap;
  points = w.points;
  sync_point = w.sync_point;
  syncing = w.syncing;
  prepared = w.prepared;
  changes = w.changes;
}

pub with_changes : (k : Keeping) (s : ReplicaState) (o : Option (Gathering peer.Change)) → IsIn k s
    → IfSome o (λ g. AllByRecursion (ChangeIsIn k) g.changes) → IsIn k (record s { changes = o })
with_changes k s o w fits = record {
  number = w.number;
  few = w.few;
  view = w.view;
  last_normal = w.last_normal;
  log = w.log;
  next = w.next;
  base = w.base;
  start = w.start;
  receiver = w.receiver;
  gap = w.gap;
  points = w.points;
  sync_point = w.sync_point;
  syncing = w.syncing;
  prepared = w.prepared;
  changes = fits;
}

pub gathers_within : (k : Keeping) (s : ReplicaState) (g : Gathering peer.Change) → IsIn k s → AllByRecursion (ChangeIsIn k) g.changes
    → IsIn k (record s { changes = Some g })
gathers_within k s g w fits = with_changes k s (Some g) w fits

-- ---- the leader's log is laid over

pub overlaid_within : (k : Keeping) (s : ReplicaState) (l : Log) → IsIn k s → LogIsIn k l
    → s.next + (length_of k l - length_of k s.log) ≤ NUMBER_END → IsIn k (overlaid k s l)
overlaid_within k s l w log_fits high =
    let log = overlay_fits k l s.log log_fits w.log in
    let len = length-overlaid_in k l s.log log_fits w.log in
    let points = w.points in
    let point : (logs.overlaid k l s.log).sync_point ≡ max s.sync.sync_point l.sync_point =
    overlaid_point l s.log ∙ ap (λ (n : ℕ). max n l.sync_point) points in
    let within = log.point in
    let low = w.next.low in
    let base = w.base in
    let start = w.start in
    let prepared = w.prepared in
    let sync = sync_longer (length_of k s.log) (length_of k (logs.overlaid k l s.log)) s.sync (omega (arith, len)) (sync_of k s w) in
    record {
      number = w.number;
      few = w.few;
      view = w.view;
      last_normal = w.last_normal;
      log = log;
      next = record { low = omega arith; high = high };
      base = omega (arith, len, base);
      start = omega (arith, len, base, start);
      receiver = λ _. refl;
      gap = w.gap;
      points = point;
      sync_point = omega (arith, point, within);
      syncing = sync.syncing;
      prepared = omega (arith, len, prepared);
      changes = w.changes;
    }

-- ---- the sync point moves

-- the synchronisation alone moved, beside whether the leader is heard; its sync point is in the log, and did not fall
pub record Moves (k : Keeping) (s t : ReplicaState) : Type 0 where
  pub sync : Synchronisation
  pub heard : Bool
  pub is : t ≡ record s { sync = sync; heard = heard }
  pub fits : SyncFits (length_of k s.log) sync
  pub grows : s.sync.sync_point ≤ sync.sync_point

unmoved : (k : Keeping) (s : ReplicaState) → IsIn k s → Moves k s s
unmoved k s w = record { sync = s.sync; heard = s.heard; is = refl; fits = sync_of k s w; grows = omega arith }

pub sync_moves : (k : Keeping) (s t : ReplicaState) → t ≡ (sync k s).0 → IsIn k s → Moves k s t
unfolding sync
sync_moves k s t is w = rw is (at (is_normal s.status && (leads s && not (waits s.gap))))
  where
    by : (b : Bool) → Moves k s (sync_if k b s).0
    by true = record {
      sync = with_round s.sync (length_of k s.log);
      heard = s.heard;
      is = refl;
      fits = with_round_fits (length_of k s.log) s.sync (length_of k s.log) (sync_of k s w) (omega arith);
      grows = with_round_grows s.sync (length_of k s.log);
    }
    by false = unmoved k s w

    at : (b : Bool) → Moves k s (when b (λ t. sync_if k (nat_lt t.sync.sync_point (length_of k t.log)) t) s).0
    at true = by (nat_lt s.sync.sync_point (length_of k s.log))
    at false = unmoved k s w

pub commit_moves : (k : Keeping) (n : ℕ) (s t : ReplicaState) → t ≡ (sync_commit n s).0 → IsIn k s → Moves k s t
unfolding sync_commit
commit_moves k n s t is w = rw is (at (nat_le n s.sync.prepared))
  where
    at : (b : Bool) → Moves k s (when b (λ t. obey (hear t) n) s).0
    at true = record {
      sync = committed s.sync n;
      heard = true;
      is = refl;
      fits = committed_fits (length_of k s.log) s.sync n (sync_of k s w);
      grows = committed_grows s.sync n;
    }
    at false = unmoved k s w

pub vote_moves : (k : Keeping) (q n : ℕ) (s t : ReplicaState) → t ≡ (count_sync_vote s q n).0 → IsIn k s → Moves k s t
vote_moves k q n s t is w = record {
  sync = synchronisation.sync_vote_counted s.sync q n;
  heard = s.heard;
  is = is;
  fits = counted_in_fits (length_of k s.log) s.sync s.sync.syncing q n (sync_of k s w) w.syncing;
  grows = counted_grows s.sync s.sync.syncing q n;
}

-- ---- another log comes in

-- one with a greater sync point comes with its checkpoint
pub further_begun : (l own : Log) → LogFits l → own.sync_point < l.sync_point → IsSome (logs.further l own).checkpoint
further_begun l own log_fits less =
    ap (λ (b : Bool). is_some (cond b l own).checkpoint) (lt-ltb own.sync_point l.sync_point less)
    ∙ log_fits.checkpoint.0
    ∙ lt-ltb 0 l.sync_point (omega (arith, less))

-- ---- what was executed

module _ {H U : Type 0} (host : Ghosts H U) where
  pub append_runs : (s t : ReplicaState) (x : Running H U) (e : Entry) → t ≡ appended s e → Runs host s x → EntryFits e
      → may_append Trimmed s ≡ true → Runs host t x
  append_runs s t x e is r fits may =
      rw is (record {
        within = append_within Trimmed s e r.within fits may;
        loads = record { own = r.loads.own; gathered = r.loads.gathered };
        run = executed_append host.state host.meaning host.undo_of s.log x e r.run;
      })

  pub open_gap_runs : (s t : ReplicaState) (x : Running H U) → t ≡ gap_opened Trimmed s → Runs host s x → may_append Trimmed s ≡ true
      → Runs host t x
  open_gap_runs s t x is r may =
      rw is (record {
        within = open_gap_within Trimmed s r.within may;
        loads = record { own = r.loads.own; gathered = r.loads.gathered };
        run = executed_append host.state host.meaning host.undo_of s.log x NoOp r.run;
      })

  pub logged_runs : (s t : ReplicaState) (x : Running H U) (r : Request) → t ≡ logged s r → Runs host s x → RequestFits r
      → drains Trimmed s ≡ true
      → s.next < NUMBER_END → Runs host t x
  logged_runs s t x r is h fits d more =
      rw is (record {
        within = logged_within Trimmed s r h.within fits d more;
        loads = record { own = h.loads.own; gathered = h.loads.gathered };
        run = executed_append host.state host.meaning host.undo_of s.log x (Req r) h.run;
      })

  pub noop_runs : (s t : ReplicaState) (x : Running H U) (n : ℕ) → t ≡ record s { log = with_noop Trimmed s.log n } → Runs host s x
      → reached x ≤ s.sync.sync_point → s.sync.sync_point < n → Runs host t x
  noop_runs s t x n is r behind above =
      let free : nat_le n s.sync.sync_point ≡ false = grind (arith, nat_tests, above) in
      let same : gap_written Trimmed s n ≡ record s { log = with_noop Trimmed s.log n } =
      ap (λ (b : Bool). record s { log = cond b s.log (with_noop Trimmed s.log n) }) free in
      rw is (record {
        within = subst IsWithin same (noop_within Trimmed s n r.within);
        loads = record { own = r.loads.own; gathered = r.loads.gathered };
        run = executed_noop host.state host.meaning host.undo_of s.log x n r.run (omega (arith, behind, above));
      })

  -- what is executed up to the sync point is so of each log with the same checkpoint
  begins : (l log : Log) (x : Running H U) → HasExecuted host.state host.meaning host.undo_of l x → reached x ≤ l.sync_point
      → log.sync_point ≡ l.sync_point → log.checkpoint ≡ l.checkpoint → HasExecuted host.state host.meaning host.undo_of log x
  begins l log x run behind point checkpoint =
      let base = run.base in
      let none : length x.undos ≡ 0 = omega (arith, base, behind) in
      executed_other host.state host.meaning host.undo_of l log x run point checkpoint
      (ap (λ n. take n log.entries) none ∙ sym (ap (λ n. take n l.entries) none))

  -- ---- another log comes in

  -- where its sync point is not greater, the own checkpoint stays
  near : (l own : Log) → l.sync_point ≤ own.sync_point → logs.further l own ≡ own
  near l own le = ap (λ (b : Bool). cond b l own) (le-ltb own.sync_point l.sync_point le)

  pub further_loads : (l own : Log) → loads host.meaning l ≡ true → loads host.meaning own ≡ true
      → loads host.meaning (logs.further l own) ≡ true
  further_loads l own h g = at (nat_lt own.sync_point l.sync_point)
    where
      at : (b : Bool) → loads host.meaning (cond b l own) ≡ true
      at true = h
      at false = g

  pub overlaid_runs : (s t : ReplicaState) (x : Running H U) (l : Log) → t ≡ overlaid Trimmed s l → IsWithin s
      → LogsLoad host.meaning s → LogFits l → loads host.meaning l ≡ true
      → s.next + (length_of Trimmed l - length_of Trimmed s.log) ≤ NUMBER_END
      → HasExecuted host.state host.meaning host.undo_of t.log x → Runs host t x
  overlaid_runs s t x l is w load log_fits loaded high run =
      rw is (record {
        within = overlaid_within Trimmed s l w log_fits high;
        loads = record { own = further_loads l s.log loaded load.own; gathered = load.gathered };
        run = subst (λ (p : ReplicaState). HasExecuted host.state host.meaning host.undo_of p.log x) is run;
      })

  pub overlaid_near : (s t : ReplicaState) (x : Running H U) (l : Log) → t ≡ overlaid Trimmed s l → Runs host s x
      → LogFits l → loads host.meaning l ≡ true → s.next + (length_of Trimmed l - length_of Trimmed s.log) ≤ NUMBER_END
      → l.sync_point ≤ s.log.sync_point → reached x ≤ s.log.sync_point → Runs host t x
  overlaid_near s t x l is r log_fits loaded high le behind =
      let own = near l s.log le in
      overlaid_runs s t x l is r.within r.loads log_fits loaded high
      (begins s.log t.log x r.run behind
      (ap (λ (p : ReplicaState). p.log.sync_point) is ∙ ap (λ (g : Log). g.sync_point) own)
      (ap (λ (p : ReplicaState). p.log.checkpoint) is ∙ ap (λ (g : Log). g.checkpoint) own))

  pub adopted_runs : (s t : ReplicaState) (x : Running H U) (v : View) (n : ℕ) (l : Log) → t ≡ adopted Trimmed s v n l → IsWithin s
      → LogsLoad host.meaning s → ViewFits v → NextFits n → LogFits l → loads host.meaning l ≡ true
      → HasExecuted host.state host.meaning host.undo_of t.log x → Runs host t x
  adopted_runs s t x v n l is w load view next log_fits loaded run =
      rw is (record {
        within = adopted_within Trimmed s v n l w view next log_fits;
        loads = record { own = further_loads l s.log loaded load.own; gathered = tt };
        run = subst (λ (p : ReplicaState). HasExecuted host.state host.meaning host.undo_of p.log x) is run;
      })

  pub adopted_near : (s t : ReplicaState) (x : Running H U) (v : View) (n : ℕ) (l : Log) → t ≡ adopted Trimmed s v n l → Runs host s x
      → ViewFits v → NextFits n → LogFits l → loads host.meaning l ≡ true → l.sync_point ≤ s.log.sync_point
      → reached x ≤ s.log.sync_point → Runs host t x
  adopted_near s t x v n l is r view next log_fits loaded le behind =
      let own = near l s.log le in
      adopted_runs s t x v n l is r.within r.loads view next log_fits loaded
      (begins s.log t.log x r.run behind
      (ap (λ (p : ReplicaState). p.log.sync_point) is ∙ ap (λ (g : Log). g.sync_point) own)
      (ap (λ (p : ReplicaState). p.log.checkpoint) is ∙ ap (λ (g : Log). g.checkpoint) own))

  -- ---- other moves

  pub heard_runs : (s : ReplicaState) (x : Running H U) (b : Bool) → Runs host s x → Runs host (record s { heard = b }) x
  heard_runs s x b r = record {
    within = with_heard Trimmed s b r.within;
    loads = record { own = r.loads.own; gathered = r.loads.gathered };
    run = r.run;
  }

  pub queued_runs : (s t : ReplicaState) (x : Running H U) (p : Stamped) → t ≡ (queue s p).0 → Runs host s x → Runs host t x
  queued_runs s t x p is r =
      rw is (record {
        within = queued_within Trimmed s p r.within;
        loads = record { own = r.loads.own; gathered = r.loads.gathered };
        run = r.run;
      })

  pub entered_runs : (s t : ReplicaState) (x : Running H U) (v : View) → t ≡ entered s v → Runs host s x → ViewFits v → Runs host t x
  entered_runs s t x v is r view =
      rw is (record { within = entered_within Trimmed s v r.within view; loads = record { own = r.loads.own; gathered = tt }; run = r.run })

  pub unmoved_runs : (s t : ReplicaState) (x : Running H U) → t ≡ s → Runs host s x → Runs host t x
  unmoved_runs s t x is r = rw is r

  -- its own change is in its ranges, and loads as its log does
  pub gathering_runs : (s t : ReplicaState) (x : Running H U) → t ≡ (enter_as true s).0 → Runs host s x → Runs host t x
  gathering_runs s t x is r =
      let w = r.within in
      let number = w.number in
      let few = w.few in
      let change : ChangeFits (own_change s) =
      record { sender = omega (arith, number, few); rest = record { view = w.last_normal; number = w.next; log_fits = w.log } } in
      rw is (record {
        within = gathers_within Trimmed s (gathering.entered s.view (max_faults s) (own_change s)) w (change, tt);
        loads = record { own = r.loads.own; gathered = (r.loads.own, tt) };
        run = r.run;
      })

  pub begun_runs : (s t : ReplicaState) (x : Running H U) (p : Stamped) → t ≡ begin_session s p → Runs host s x → Runs host t x
  begun_runs s t x p is r =
      rw is (record {
        within = begun_within Trimmed s p r.within;
        loads = record { own = r.loads.own; gathered = r.loads.gathered };
        run = r.run;
      })

  pub kept_runs : (s t : ReplicaState) (x : Running H U) (o : Option (Gathering peer.Change)) (c : peer.Change) → o ≡ s.changes → t ≡ kept_by s o c
      → Runs host s x → ChangeFits c → ChangeLoads host.meaning c → Runs host t x
  kept_runs s t x None c e is r fits load = rw is r
  kept_runs s t x (Some g) c e is r fits load =
      let all = subst (λ (o : Option (Gathering peer.Change)). IfSome o (λ g. AllByRecursion ChangeFits g.changes)) (sym e) r.within.changes in
      let each =
      subst (λ (o : Option (Gathering peer.Change)). IfSome o (λ g. AllByRecursion (ChangeLoads host.meaning) g.changes)) (sym e)
      r.loads.gathered in
      rw is (record {
        within = gathers_within Trimmed s (change_added change_sender g c) r.within (counted_fits ChangeFits g c all fits);
        loads = record { own = r.loads.own; gathered = counted_fits (ChangeLoads host.meaning) g c each load };
        run = r.run;
      })

  pub ask_runs : (s t : ReplicaState) (x : Running H U) → t ≡ (ask Trimmed s).0 → Runs host s x → Runs host t x
  ask_runs s t x is r = rw is (at (s.asked == length_of Trimmed s.log + 1))
    where
      at : (b : Bool) → Runs host (ask_if Trimmed b s).0 x
      at true = r
      at false = record {
        within = with_asked Trimmed s (length_of Trimmed s.log + 1) r.within;
        loads = record { own = r.loads.own; gathered = r.loads.gathered };
        run = r.run;
      }

  -- ---- the sync point moves, and the log is trimmed

  pub moved_executes : (s t : ReplicaState) (x : Running H U) → Runs host s x → Moves Trimmed s t → Executes host t.log x
  moved_executes s t x r h =
      subst (λ (p : ReplicaState). Executes host p.log x) (sym h.is)
      (record { fits = r.within.log; loads = r.loads.own; run = r.run })

  pub moved_there : (s t : ReplicaState) → Moves Trimmed s t → t.sync.sync_point ≤ length_of Trimmed t.log
  moved_there s t h =
      subst (λ (p : ReplicaState). p.sync.sync_point ≤ length_of Trimmed p.log) (sym h.is) h.fits.sync_point

  -- by whether the sync point passed that of the log
  trims_by : (s : ReplicaState) (x : Synchronisation) (y : Running H U) (b : Bool) → may_trim (record s { sync = x }) ≡ b → IsWithin s
      → LogsLoad host.meaning s → SyncFits (length_of Trimmed s.log) x → s.sync.sync_point ≤ x.sync_point
      → let p : ReplicaState = record s { sync = x } in
      let u : ReplicaState = cond b (log_trimmed host.meaning Trimmed p) p in Executes host u.log y → Runs host u y
  trims_by s x y true rose w load fits grows e = record {
    within = risen_within host.meaning Trimmed s x w fits grows e.fits;
    loads = record { own = e.loads; gathered = load.gathered };
    run = e.run;
  }
  trims_by s x y false stayed w load fits grows e = record {
    within = let points = w.points in with_sync Trimmed s x w fits (grind (arith, nat_tests, stayed, points, grows));
    loads = record { own = e.loads; gathered = load.gathered };
    run = e.run;
  }

  pub trimmed_runs : (s t u : ReplicaState) (x y : Running H U) → Runs host s x → Moves Trimmed s t → u ≡ trim_log host.meaning t
      → Executes host u.log y → Runs host u y
  trimmed_runs s t u x y r h is e =
      let q : ReplicaState = record s { heard = h.heard } in
      let p : ReplicaState = record q { sync = h.sync } in
      let same : u ≡ trim_log host.meaning p = is ∙ ap (trim_log host.meaning) h.is in
      let load : LogsLoad host.meaning q = record { own = r.loads.own; gathered = r.loads.gathered } in
      rw same
      (trims_by q h.sync y (may_trim p) refl (with_heard Trimmed s h.heard r.within) load h.fits h.grows
      (subst (λ (v : ReplicaState). Executes host v.log y) same e))
