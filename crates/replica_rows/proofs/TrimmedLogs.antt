-- The log is trimmed to its sync point: it stays in its ranges, loads, and is executed.
use Rattle.std.proofs.Common.{◌≡◌, ◌≤◌, ◌<◌, ◌+◌, ◌-◌, ℕ, zero, suc, Bool, true, cond, None, List, [], ◌∷◌, Some, drop, sym, ap, ◌∙◌, subst, arith, length-drop}
use Rattle.std.specs.List.{AllByRecursion}
use Rattle.std.proofs.lemmas.Bool.{lt-ltb, le-ltb}
use Rattle.std.proofs.lemmas.Bool.Decides.{nat_tests}
use Rattle.nop_types.specs.declared.host.Host.{Ghosts}
use Rattle.nop_types.specs.declared.request.Entry.{Entry}
use Rattle.nop_types.specs.Checkpoints.{Checkpoint, CheckpointFits, checkpoint_of}
use Rattle.nop_types.specs.CheckpointedLogs.{loads_by, executed, raised}
use Rattle.nop_types.specs.Logs.{Log, Trimmed, length_of, above}
use Rattle.nop_types.specs.Meaning.{Meaning}
use Rattle.nop_types.specs.Ranges.{EntryFits, LogFits}
use Rattle.executor.specs.Running.{Running}
use Rattle.executor.specs.Undoing.{HasExecuted}
use Rattle.replica_state.specs.declared.state.ReplicaState.{ReplicaState}
use Rattle.replica_state.specs.Moves.{log_trimmed, trimmed_entries}
use Rattle.replica_rows.specs.declared.trimming.TrimmedEntries.{TrimmedEntries}
use Rattle.replica_rows.specs.Trimming.{trim_log, trimmed_by}
use Rattle.replica_rows.specs.Within.{Executes}

all_dropped : (n : ℕ) (l : List Entry) → AllByRecursion EntryFits l → AllByRecursion EntryFits (drop n l)
all_dropped zero l h = h
all_dropped (suc n) [] h = tt
all_dropped (suc n) (e ∷ l) h = all_dropped n l h.1

-- the log from a slot on, with a checkpoint of what comes before
abbrev pub from_slot : Log → ℕ → Checkpoint → Log
from_slot l n c = record { sync_point = n; checkpoint = Some c; entries = above Trimmed l n }

from_slot_fits : (l : Log) (n : ℕ) (c : Checkpoint) → LogFits l → l.sync_point < n → n ≤ length_of Trimmed l → CheckpointFits c
    → LogFits (from_slot l n c)
from_slot_fits l n c fits low high saved =
    let len = length-drop (n - l.sync_point) l.entries in
    let room = fits.room in
    let limit = fits.limit in
    record {
      entries = all_dropped (n - l.sync_point) l.entries fits.entries;
      room = omega (arith, len, room);
      limit = omega (arith, len, low, high, limit);
      point = omega arith;
      checkpoint = (grind (arith, nat_tests, low), saved);
    }

-- ---- by whether the sync point passed that of the log

pub stays : {S : Type 0} (m : Meaning S) (s : ReplicaState) → s.sync.sync_point ≤ s.log.sync_point → s ≡ trim_log m s
stays m s le = ap (λ (b : Bool). cond b (log_trimmed m Trimmed s) s) (sym (le-ltb _ _ le))

pub trims_none : (s : ReplicaState) → s.sync.sync_point ≤ s.log.sync_point → None ≡ trimmed_by s
trims_none s le =
    let trimmed : TrimmedEntries = record { first = s.log.sync_point + 1; entries = trimmed_entries Trimmed s } in
    ap (λ (b : Bool). cond b (Some trimmed) None) (sym (le-ltb _ _ le))

-- the log begins at the sync point, with the checkpoint of what is executed up to there
pub trims_with : {S : Type 0} (m : Meaning S) (s t : ReplicaState) (c : Checkpoint) (i : ℕ) → s.log.sync_point < s.sync.sync_point
    → c ≡ checkpoint_of m (executed m Trimmed s.log i) → i ≡ s.sync.sync_point
    → t ≡ record s { log = from_slot s.log s.sync.sync_point c } → t ≡ trim_log m s
trims_with m s t c i less made here is =
    is
    ∙ ap (λ (d : Checkpoint). record s { log = from_slot s.log s.sync.sync_point d })
    (made ∙ ap (λ (j : ℕ). checkpoint_of m (executed m Trimmed s.log j)) here)
    ∙ ap (λ (b : Bool). cond b (log_trimmed m Trimmed s) s) (sym (lt-ltb _ _ less))

pub trims_some : (s : ReplicaState) (trimmed : TrimmedEntries) → s.log.sync_point < s.sync.sync_point → trimmed.first ≡ s.log.sync_point + 1
    → trimmed.entries ≡ trimmed_entries Trimmed s → Some trimmed ≡ trimmed_by s
trims_some s trimmed less from is =
    let whole : TrimmedEntries = record { first = s.log.sync_point + 1; entries = trimmed_entries Trimmed s } in
    ap (λ (n : ℕ). Some (record trimmed { first = n })) from
    ∙ ap (λ (l : Log). Some (record whole { entries = l })) is
    ∙ ap (λ (b : Bool). cond b (Some whole) None) (sym (lt-ltb _ _ less))

-- ---- what is executed

-- of what is executed up to a slot, i
pub raised_executes : {H U : Type 0} (host : Ghosts H U) (l new : Log) (n i : ℕ) (c : Checkpoint) (x : Running H U) → LogFits l
    → l.sync_point < n → n ≤ length_of Trimmed l → CheckpointFits c → loads_by host.meaning (Some c) ≡ true
    → c ≡ checkpoint_of host.meaning (executed host.meaning Trimmed l i) → i ≡ n
    → HasExecuted host.state host.meaning host.undo_of (raised host.meaning Trimmed l i) x → new ≡ from_slot l n c → Executes host new x
raised_executes host l new n i c x fits low high saved loads made here run is =
    let same : from_slot l n c ≡ raised host.meaning Trimmed l i =
    ap (λ (d : Checkpoint). from_slot l n d) made
    ∙ ap (λ (j : ℕ). from_slot l j (checkpoint_of host.meaning (executed host.meaning Trimmed l i))) (sym here) in
    rw is (record {
      fits = from_slot_fits l n c fits low high saved;
      loads = loads;
      run = subst (λ (k : Log). HasExecuted host.state host.meaning host.undo_of k x) (sym same) run;
    })
