-- What is executed of a log in its ranges leaves short results, and a checkpoint in its ranges.
use Rattle.std.proofs.Common.{◌≡◌, ℕ, zero, suc, ◌-◌, ◌≤◌, ◌<◌, Bool, true, false, cond, List, [], ◌∷◌, length, take, drop, Option}
use Rattle.std.proofs.Common.{Some, None, refl, sym, subst, arith, length-drop}
use Rattle.std.specs.Prelude.{◌&&◌, nat_le, nat_lt, IfSome, option_map}
use Rattle.std.specs.List.{AllByRecursion}
use Rattle.std.specs.Option.{unwrap_or}
use Rattle.std.specs.FinMap as finite
use Rattle.std.proofs.lemmas.Bool.{and_from, and_parts, le-leb}
use Rattle.std.proofs.lemmas.Bool.Decides.{nat_tests}
use Rattle.nop_types.specs.declared.limits.TheConstants.{MAX_RESULT_BYTES, MAX_HOST_BYTES, MAX_SERVED}
use Rattle.nop_types.specs.declared.request.Entry.{Entry}
use Rattle.nop_types.specs.declared.request.Entry.TheVariants.{NoOp, Req}
use Rattle.nop_types.specs.Bounds.{Bounds}
use Rattle.nop_types.specs.CheckpointedLogs.{beginning, executed, kept_result, raised}
use Rattle.nop_types.specs.Checkpoints.{Checkpoint, checkpoint_of, are_saved, CheckpointFits, KeepsTo}
use Rattle.nop_types.specs.Execution.{Executed, opening, execute, exec, takes, enter_kept, exec_kept}
use Rattle.nop_types.specs.Logs.{Log, Whole, Trimmed, length_of, upto, entry_at}
use Rattle.nop_types.specs.Meaning.{Meaning}
use Rattle.nop_types.specs.Ranges.{EntryFits, LogIsIn}
use Rattle.lemmas.proofs.Prefixes.{all-take, all-drop}
use Rattle.execution_laws.proofs.Tables.{exec_is_by_kept}
use Rattle.trimming.specs.Trimming.{checkpoint_at, trim}
use Rattle.trimming.proofs.Executions.{has_checkpoint}
use Rattle.trimming.proofs.Logs.{length_trims}
use Rattle.trimming.proofs.Tables.{TableFits, empty_fits, loaded_fits, with_result_fits, kept_result_is_short}
use Rattle.trimming.proofs.Tables.{entries_are_few, entries_are_saved, entries_as_saved}

module _ {S : Type 0} (m : Meaning S) (IsSound : S → Type 0) (keeps : KeepsTo m IsSound) where
  record Fits (x : Executed S) : Type 0 where
    host : IsSound x.host
    table : TableFits x.table

  enter_fits : (x : Executed S) (e : Entry) → EntryFits e → Fits x → Fits (enter_kept m x e)
  enter_fits x NoOp r h = h
  enter_fits x (Req r) fits h = on (takes x.table r) refl
    where
      on : (b : Bool) → takes x.table r ≡ b → Fits (cond b (execute m x r) x)
      on true t = record {
        host = keeps.stays x.host r.op h.host;
        table =
            with_result_fits x.table r.client (record { id = r.id; result = m.answer x.host r.op }) fits.client fits.id_low fits.id
            (keeps.short x.host r.op h.host) h.table t;
      }
      on false t = h

  exec_fits : (x : Executed S) (es : List Entry) → AllByRecursion EntryFits es → Fits x → Fits (exec_kept m x es)
  exec_fits x [] fits h = h
  exec_fits x (e ∷ es) fits h = exec_fits (enter_kept m x e) es fits.1 (enter_fits x e fits.0 h)

  opening_fits : Fits (opening m)
  opening_fits = record { host = keeps.opens; table = empty_fits }

  beginning_fits : (o : Option Checkpoint) → IfSome o CheckpointFits → Fits (beginning m o)
  beginning_fits None h = opening_fits
  beginning_fits (Some c) h = on (m.loaded c.host) refl
    where
      on : (o : Option S) → m.loaded c.host ≡ o
          → Fits (unwrap_or (option_map (λ host. record { host = host; table = finite.from_entries c.clients }) o) (opening m))
      on None e = opening_fits
      on (Some s) e =
          let within = and_parts (nat_le (length c.host) MAX_HOST_BYTES) _ h.limits in
          let clients = and_parts (nat_le (length c.clients) MAX_SERVED) (are_saved 0 c.clients) within.1 in
          record { host = (keeps.only c.host s e).0; table = loaded_fits c.clients clients.0 clients.1 h.clients }

  executed_fits : (l : Log) (n : ℕ) → LogIsIn Trimmed l → Fits (executed m Trimmed l n)
  executed_fits l n h =
      exec_fits (beginning m l.checkpoint) (upto Trimmed l n) (all-take EntryFits (n - l.sync_point) l.entries h.entries)
      (beginning_fits l.checkpoint h.checkpoint.1)

  checkpoint_fits : (x : Executed S) → Fits x → CheckpointFits (checkpoint_of m x)
  checkpoint_fits x h =
      let c : Checkpoint = checkpoint_of m x in
      record {
        limits =
            and_from (nat_le (length c.host) MAX_HOST_BYTES) (nat_le (length c.clients) MAX_SERVED && are_saved 0 c.clients)
            (le-leb (length c.host) MAX_HOST_BYTES (keeps.fits x.host h.host))
            (and_from (nat_le (length c.clients) MAX_SERVED) (are_saved 0 c.clients) (entries_are_few x.table h.table)
            (entries_are_saved x.table h.table));
        clients =
            entries_as_saved x.table h.table;
      }

  -- ---- of a trimmed log

  kept_is_short : (x : Executed S) (o : Option Entry) (result : List ℕ) → Fits x → kept_result x o ≡ Some result
      → length result ≤ MAX_RESULT_BYTES
  kept_is_short x None result h e = absurd cc
  kept_is_short x (Some NoOp) result h e = absurd cc
  kept_is_short x (Some (Req r)) result h e = kept_result_is_short x.table r.client r.id result h.table e

  raised_is_in : (l : Log) (n : ℕ) → LogIsIn Trimmed l → l.sync_point < n → n ≤ length_of Trimmed l
      → LogIsIn Trimmed (raised m Trimmed l n)
  raised_is_in l n h low high =
      let k : ℕ = n - l.sync_point in
      let len : length (drop k l.entries) ≡ length l.entries - k = length-drop k l.entries in
      record {
        entries = all-drop EntryFits k l.entries h.entries;
        room = omega (arith, len, h.room, low, high);
        limit = omega (arith, len, h.limit, low, high);
        point = omega arith;
        checkpoint = (
          let more : nat_lt 0 n ≡ true = grind (arith, nat_tests, low) in sym more,
          checkpoint_fits (executed m Trimmed l n) (executed_fits l n h),
        );
      }

  pub trimmed_keep_bounds : Bounds m Trimmed
  trimmed_keep_bounds = record {
    short = λ l slot result h e. kept_is_short (executed m Trimmed l slot) (entry_at Trimmed l slot) result (executed_fits l slot h) e;
    raised = raised_is_in;
  }

  -- ---- a whole log is trimmed

  exec_of_log_fits : (es : List Entry) → AllByRecursion EntryFits es → Fits (exec m es)
  exec_of_log_fits es h = subst Fits (sym (exec_is_by_kept m es)) (exec_fits (opening m) es h opening_fits)

  trimmed_checkpoint_fits : (n : ℕ) (es : List Entry) → AllByRecursion EntryFits es → IfSome (checkpoint_at m n es) CheckpointFits
  trimmed_checkpoint_fits zero es h = tt
  trimmed_checkpoint_fits (suc i) es h =
      checkpoint_fits (exec m (take (suc i) es)) (exec_of_log_fits (take (suc i) es) (all-take EntryFits (suc i) es h))

  pub trimmed_is_in : (l : Log) → LogIsIn Whole l → LogIsIn Trimmed (trim m l)
  trimmed_is_in l h =
      let len : length_of Trimmed (trim m l) ≡ length_of Whole l = length_trims m l h.point in
      record {
        entries = all-drop EntryFits l.sync_point l.entries h.entries;
        room = omega (arith, len, h.room);
        limit = omega (arith, len, h.limit);
        point = omega (arith, len, h.point);
        checkpoint = (has_checkpoint m l, trimmed_checkpoint_fits l.sync_point l.entries h.entries);
      }
