-- A state of which fields change stays in its ranges, and so do its sync point and rounds.
use Rattle.std.proofs.Common.{◌≡◌, ◌≤◌, ◌+◌, ◌-◌, ℕ, Bool, true, false, cond, Option, Some, None, [], ◌∷◌, refl, sym, ◌∙◌, arith}
use Rattle.std.proofs.Common.{length-append, length-drop}
use Rattle.std.specs.Prelude.{◌==◌, nat_lt, nat_le, max, IfSome}
use Rattle.std.proofs.lemmas.Bool.Decides.{nat_tests}
use Rattle.nop_types.specs.declared.replica_state.Phase.TheVariants.{Normal}
use Rattle.nop_types.specs.declared.replica_state.Vote.{Vote}
use Rattle.nop_types.specs.declared.replica_state.Vote.TheVariants.{Settled, Waiting}
use Rattle.nop_types.specs.declared.request.Entry.{Entry}
use Rattle.nop_types.specs.CheckpointedLogs as checkpointed
use Rattle.nop_types.specs.Logs as logs
use Rattle.nop_types.specs.Logs.{Log, Keeping, Whole, Trimmed, length_of}
use Rattle.nop_types.specs.Meaning.{Meaning}
use Rattle.nop_types.specs.Ranges.{LogIsIn, SlotFits}
use Rattle.slot_votes.specs.Agreement.{Agreement}
use Rattle.oum_receiver.specs.Receiving.{Receiving}
use Rattle.slot_votes.specs.Synchronisation.{Synchronisation, Round}
use Rattle.slot_votes.specs.Synchronisation as synchronisation
use Rattle.replica_state.specs.declared.state.ReplicaState.{ReplicaState}
use Rattle.replica_state.specs.Moves.{log_trimmed}
use Rattle.replica_state.specs.Within.{IsIn}

-- ---- the length of a log

pub length-appended : (k : Keeping) (l : Log) (e : Entry) → length_of k (logs.appended l e) ≡ length_of k l + 1
length-appended Whole l e = length-append l.entries (e ∷ [])
length-appended Trimmed l e = omega (arith, length-append l.entries (e ∷ []))

-- it stays where the sync point rises within it
pub length-raised : {S : Type 0} (m : Meaning S) (k : Keeping) (l : Log) (n : ℕ) → l.sync_point ≤ n → n ≤ length_of k l
    → length_of k (checkpointed.raised m k l n) ≡ length_of k l
length-raised m Whole l n low high = refl
length-raised m Trimmed l n low high = omega (arith, low, high, length-drop (n - l.sync_point) l.entries)

-- ---- changes of fields

-- what a synchronisation says is of a log of length n
pub record SyncFits (n : ℕ) (x : Synchronisation) : Type 0 where
  pub sync_point : x.sync_point ≤ n
  pub syncing : IfSome x.syncing (λ r. r.len ≤ n)
  pub prepared : x.prepared ≤ n

pub sync_of : (k : Keeping) (s : ReplicaState) → IsIn k s → SyncFits (length_of k s.log) s.sync
sync_of k s w = record { sync_point = w.sync_point; syncing = w.syncing; prepared = w.prepared }

-- and so of a longer one
pub sync_longer : (n len : ℕ) (x : Synchronisation) → n ≤ len → SyncFits n x → SyncFits len x
sync_longer n len x le fits =
    let low = fits.sync_point in
    let high = fits.prepared in
    record { sync_point = omega (arith, le, low); syncing = at x.syncing fits.syncing; prepared = omega (arith, le, high) }
  where
    at : (o : Option Round) → IfSome o (λ r. r.len ≤ n) → IfSome o (λ r. r.len ≤ len)
    at None h = tt
    at (Some r) h = omega (arith, le, h)

with_each : (k : Keeping) (s : ReplicaState) (x : Receiving) (o : Option Agreement) (n : ℕ) (b : Bool) → IsIn k s
    → (s.status ≡ Normal → x.next ≡ s.next) → IfSome o (λ g. SlotFits g.slot)
    → IsIn k (record s { receiver = x; gap = o; asked = n; heard = b })
with_each k s x o n b w next gap = record {
  number = w.number;
  few = w.few;
  view = w.view;
  last_normal = w.last_normal;
  log = w.log;
  next = w.next;
  base = w.base;
  start = w.start;
  receiver = next;
  gap = gap;
  points = w.points;
  sync_point = w.sync_point;
  syncing = w.syncing;
  prepared = w.prepared;
  changes = w.changes;
}

pub with_receiver : (k : Keeping) (s : ReplicaState) (x : Receiving) → IsIn k s → (s.status ≡ Normal → x.next ≡ s.next)
    → IsIn k (record s { receiver = x })
with_receiver k s x w next = with_each k s x s.gap s.asked s.heard w next w.gap

pub with_gap : (k : Keeping) (s : ReplicaState) (o : Option Agreement) → IsIn k s → IfSome o (λ g. SlotFits g.slot)
    → IsIn k (record s { gap = o })
with_gap k s o w fits = with_each k s s.receiver o s.asked s.heard w w.receiver fits

pub with_asked : (k : Keeping) (s : ReplicaState) (n : ℕ) → IsIn k s → IsIn k (record s { asked = n })
with_asked k s n w = with_each k s s.receiver s.gap n s.heard w w.receiver w.gap

pub with_heard : (k : Keeping) (s : ReplicaState) (b : Bool) → IsIn k s → IsIn k (record s { heard = b })
with_heard k s b w = with_each k s s.receiver s.gap s.asked b w w.receiver w.gap

-- another synchronisation with the same sync point
pub with_sync : (k : Keeping) (s : ReplicaState) (x : Synchronisation) → IsIn k s → SyncFits (length_of k s.log) x
    → x.sync_point ≡ s.sync.sync_point → IsIn k (record s { sync = x })
with_sync k s x w fits same = record {
  number = w.number;
  few = w.few;
  view = w.view;
  last_normal = w.last_normal;
  log = w.log;
  next = w.next;
  base = w.base;
  start = w.start;
  receiver = w.receiver;
  gap = w.gap;
  points = w.points ∙ sym same;
  sync_point = fits.sync_point;
  syncing = fits.syncing;
  prepared = fits.prepared;
  changes = w.changes;
}

-- or one with a greater sync point, and the log is trimmed
pub risen_within : {S : Type 0} (m : Meaning S) (k : Keeping) (s : ReplicaState) (x : Synchronisation) → IsIn k s
    → SyncFits (length_of k s.log) x → s.sync.sync_point ≤ x.sync_point → LogIsIn k (checkpointed.raised m k s.log x.sync_point)
    → IsIn k (log_trimmed m k (record s { sync = x }))
risen_within m k s x w fits low log =
    let points = w.points in
    let high = fits.sync_point in
    let len = length-raised m k s.log x.sync_point (omega (arith, points, low)) high in
    let base = w.base in
    let start = w.start in
    let sync = sync_longer (length_of k s.log) (length_of k (checkpointed.raised m k s.log x.sync_point)) x (omega (arith, len)) fits in
    record {
      number = w.number;
      few = w.few;
      view = w.view;
      last_normal = w.last_normal;
      log = log;
      next = w.next;
      base = omega (arith, len, base);
      start = omega (arith, len, start);
      receiver = w.receiver;
      gap = w.gap;
      points = raised_point m k s.log x.sync_point;
      sync_point = sync.sync_point;
      syncing = sync.syncing;
      prepared = sync.prepared;
      changes = w.changes;
    }
  where
    raised_point : {S : Type 0} (m : Meaning S) (k : Keeping) (l : Log) (n : ℕ) → (checkpointed.raised m k l n).sync_point ≡ n
    raised_point m Whole l n = refl
    raised_point m Trimmed l n = refl

-- ---- rounds

pub with_round_fits : (n : ℕ) (s : Synchronisation) (len : ℕ) → SyncFits n s → len ≤ n → SyncFits n (synchronisation.with_round s len)
with_round_fits n s len fits le = at (nat_lt s.sync_point len)
  where
    alone : (b : Bool) → SyncFits n (synchronisation.begun b s len)
    alone true = record { sync_point = le; syncing = tt; prepared = fits.prepared }
    alone false = record { sync_point = fits.sync_point; syncing = le; prepared = fits.prepared }

    at : (b : Bool) → SyncFits n (cond b (synchronisation.begun (s.f == 0) s len) s)
    at true = alone (s.f == 0)
    at false = fits

pub committed_fits : (n : ℕ) (s : Synchronisation) (len : ℕ) → SyncFits n s → SyncFits n (synchronisation.committed s len)
committed_fits n s len fits = at (nat_le len s.prepared) refl
  where
    at : (b : Bool) → nat_le len s.prepared ≡ b → SyncFits n (cond b (record s { sync_point = max s.sync_point len }) s)
    at true e =
        let low = fits.sync_point in
        let high = fits.prepared in
        record { sync_point = grind (arith, nat_tests, e, low, high); syncing = fits.syncing; prepared = fits.prepared }
    at false e = fits

round_fits : (n : ℕ) (x : Round) (q len : ℕ) → x.len ≤ n → (synchronisation.with_vote_for x q len).len ≤ n
round_fits n x q len le = at (x.len == len)
  where
    at : (b : Bool) → (cond b (record x { votes = Rattle.slot_votes.specs.Votes.with_vote x.votes q }) x).len ≤ n
    at true = le
    at false = le

closed_fits : (n : ℕ) (s : Synchronisation) (x : Round) (v : Vote) → SyncFits n s → x.len ≤ n → SyncFits n (synchronisation.closed s x v)
closed_fits n s x Settled fits le =
    let low = fits.sync_point in record { sync_point = omega (arith, low, le); syncing = tt; prepared = fits.prepared }
closed_fits n s x Waiting fits le = record { sync_point = fits.sync_point; syncing = le; prepared = fits.prepared }

pub counted_in_fits : (n : ℕ) (s : Synchronisation) (o : Option Round) (q len : ℕ) → SyncFits n s → IfSome o (λ r. r.len ≤ n)
    → SyncFits n (synchronisation.counted_in s o q len)
counted_in_fits n s None q len fits le = fits
counted_in_fits n s (Some x) q len fits le =
    closed_fits n s (synchronisation.with_vote_for x q len) (synchronisation.round_vote s.f x q len) fits (round_fits n x q len le)

-- ---- the sync point never falls

pub with_round_grows : (s : Synchronisation) (len : ℕ) → s.sync_point ≤ (synchronisation.with_round s len).sync_point
with_round_grows s len = at (nat_lt s.sync_point len) refl
  where
    alone : (b : Bool) → s.sync_point ≤ len → s.sync_point ≤ (synchronisation.begun b s len).sync_point
    alone true le = le
    alone false le = omega arith

    at : (b : Bool) → nat_lt s.sync_point len ≡ b → s.sync_point ≤ (cond b (synchronisation.begun (s.f == 0) s len) s).sync_point
    at true e = alone (s.f == 0) (grind (arith, nat_tests, e))
    at false e = omega arith

pub committed_grows : (s : Synchronisation) (len : ℕ) → s.sync_point ≤ (synchronisation.committed s len).sync_point
committed_grows s len = at (nat_le len s.prepared)
  where
    at : (b : Bool) → s.sync_point ≤ (cond b (record s { sync_point = max s.sync_point len }) s).sync_point
    at true = omega arith
    at false = omega arith

pub counted_grows : (s : Synchronisation) (o : Option Round) (q len : ℕ) → s.sync_point ≤ (synchronisation.counted_in s o q len).sync_point
counted_grows s None q len = omega arith
counted_grows s (Some x) q len = at (synchronisation.with_vote_for x q len) (synchronisation.round_vote s.f x q len)
  where
    at : (y : Round) (v : Vote) → s.sync_point ≤ (synchronisation.closed s y v).sync_point
    at y Settled = omega arith
    at y Waiting = omega arith
