-- An execution goes on from a checkpoint.
use Rattle.std.proofs.Common.{◌≡◌, ℕ, zero, suc, ◌-◌, ◌≤◌, ◌<◌, Bool, true, false, cond, List, [], ◌∷◌, ◌++◌, take, drop, Option}
use Rattle.std.proofs.Common.{Some, None, is_some, refl, sym, ap, ◌∙◌, arith, length-drop}
use Rattle.std.specs.Prelude.{slice_get, nat_lt, option_map}
use Rattle.std.specs.Option.{unwrap_or}
use Rattle.std.specs.FinMap as finite
use Rattle.std.proofs.lemmas.Bool.Decides.{nat_tests}
use Rattle.nop_types.specs.declared.request.Entry.{Entry}
use Rattle.nop_types.specs.declared.request.Entry.TheVariants.{NoOp, Req}
use Rattle.nop_types.specs.Meaning.{Meaning}
use Rattle.nop_types.specs.Lists.{slot_of}
use Rattle.nop_types.specs.Execution.{Executed, opening, execute, exec, takes, enter_kept, exec_kept, result_at}
use Rattle.nop_types.specs.Checkpoints.{Checkpoint, checkpoint_of, loaded_of, KeepsTo}
use Rattle.nop_types.specs.Logs.{Log, Keeping, Whole, Trimmed, length_of, upto, entry_at}
use Rattle.nop_types.specs.CheckpointedLogs.{loads, beginning, executed, kept_result, slot_result, raised}
use Rattle.execution_laws.proofs.Results.{result_is_kept}
use Rattle.execution_laws.proofs.Saving.{execs_are_sound, checkpoint_loads as execution_loads, checkpoints_load as exec_loads}
use Rattle.execution_laws.proofs.Steps.{exec_kept_of_append}
use Rattle.execution_laws.proofs.Tables.{exec_goes_on}
use Rattle.trimming.specs.Trimming.{checkpoint_at, trim}
use Rattle.trimming.proofs.Lists.{take-to, slot_of-drop}

module _ {S : Type 0} (m : Meaning S) where
  -- there is a checkpoint exactly where something is trimmed
  pub has_checkpoint : (l : Log) → is_some (trim m l).checkpoint ≡ nat_lt 0 l.sync_point
  has_checkpoint l = on l.sync_point
    where
      on : (n : ℕ) → is_some (checkpoint_at m n l.entries) ≡ nat_lt 0 n
      on zero = let no : nat_lt 0 0 ≡ is_some (checkpoint_at m 0 l.entries) = grind (arith, nat_tests) in sym no
      on (suc i) = let yes : nat_lt 0 (suc i) ≡ true = grind (arith, nat_tests) in sym yes

  result_of_entry : (log : List Entry) (n : ℕ) (o : Option Entry) → slot_of log n ≡ o
      → kept_result (exec m (take n log)) o ≡ result_at m log n
  result_of_entry log zero None e = refl
  result_of_entry log zero (Some x) e = absurd cc
  result_of_entry log (suc i) None e = let h : slice_get log i ≡ None = e in rw h refl
  result_of_entry log (suc i) (Some NoOp) e = let h : slice_get log i ≡ Some NoOp = e in rw h refl
  result_of_entry log (suc i) (Some (Req r)) e = sym (result_is_kept m log (suc i) r e)

  -- a slot that is not kept has no result
  pub no_result_below : (l : Log) (n : ℕ) → n ≤ l.sync_point → slot_result m Trimmed l n ≡ None
  no_result_below l n h =
      let e : n - l.sync_point ≡ 0 = omega (arith, h) in
      ap (λ (k : ℕ). kept_result (executed m Trimmed l n) (slot_of l.entries k)) e

  pub raise_keeps_entry : (l : Log) (n k : ℕ) → l.sync_point ≤ n → n < k
      → entry_at Trimmed (raised m Trimmed l n) k ≡ entry_at Trimmed l k
  raise_keeps_entry l n k low h =
      let s : ℕ = l.sync_point in
      ap (λ (j : ℕ). slot_of (drop (n - s) l.entries) j) (let e : k - n ≡ k - s - (n - s) = omega (arith, low, h) in e)
      ∙ slot_of-drop (n - s) (k - s) l.entries (omega (arith, low, h))

  pub raise_keeps_length : (l : Log) (n : ℕ) → l.sync_point ≤ n → n ≤ length_of Trimmed l
      → length_of Trimmed (raised m Trimmed l n) ≡ length_of Trimmed l
  raise_keeps_length l n low h = omega (arith, low, h, length-drop (n - l.sync_point) l.entries)

module _ {S : Type 0} (m : Meaning S) (IsSound : S → Type 0) (keeps : KeepsTo m IsSound) where
  pub checkpoint_loads : (l : Log) → loads m (trim m l) ≡ true
  checkpoint_loads l = on l.sync_point
    where
      on : (n : ℕ) → loads m (record (trim m l) { checkpoint = checkpoint_at m n l.entries }) ≡ true
      on zero = refl
      on (suc i) = ap is_some (exec_loads m IsSound keeps (take (suc i) l.entries))

  begins : (n : ℕ) (l : List Entry) → beginning m (checkpoint_at m n l) ≡ exec m (take n l)
  begins zero l = refl
  begins (suc i) l = ap (λ (o : Option (Executed S)). unwrap_or o (opening m)) (exec_loads m IsSound keeps (take (suc i) l))

  pub beginning_is_exec : (l : Log) → beginning m (trim m l).checkpoint ≡ exec m (take l.sync_point l.entries)
  beginning_is_exec l = begins l.sync_point l.entries

  -- from the checkpoint on, the execution up to a slot is that of the whole log
  pub executed_trims : (l : Log) (n : ℕ) → l.sync_point ≤ n → executed m Trimmed (trim m l) n ≡ executed m Whole l n
  executed_trims l n h =
      ap (λ (x : Executed S). exec_kept m x (take (n - l.sync_point) (drop l.sync_point l.entries))) (begins l.sync_point l.entries)
      ∙ sym (exec_goes_on m (take l.sync_point l.entries) (take (n - l.sync_point) (drop l.sync_point l.entries)))
      ∙ ap (exec m) (take-to n l.sync_point l.entries h)

  -- above the sync point each slot has the same result
  pub result_trims : (l : Log) (n : ℕ) → l.sync_point < n → slot_result m Trimmed (trim m l) n ≡ slot_result m Whole l n
  result_trims l n h =
      ap (λ (x : Executed S). kept_result x (entry_at Trimmed (trim m l) n)) (executed_trims l n (omega (arith, h)))
      ∙ ap (kept_result (exec m (take n l.entries))) (slot_of-drop l.sync_point n l.entries h)
      ∙ result_of_entry m l.entries n (slot_of l.entries n) refl

  -- ---- any log, whatever its checkpoint is

  beginning_is_sound : (o : Option Checkpoint) → IsSound (beginning m o).host
  beginning_is_sound None = keeps.opens
  beginning_is_sound (Some c) = on (m.loaded c.host) refl
    where
      on : (o : Option S) → m.loaded c.host ≡ o
          → IsSound (unwrap_or (option_map (λ host. record { host = host; table = finite.from_entries c.clients }) o) (opening m)).host
      on None e = keeps.opens
      on (Some s) e = (keeps.only c.host s e).0

  sound_with_entry : (x : Executed S) (e : Entry) → IsSound x.host → IsSound (enter_kept m x e).host
  sound_with_entry x NoOp h = h
  sound_with_entry x (Req r) h = on (takes x.table r)
    where
      on : (b : Bool) → IsSound (cond b (execute m x r) x).host
      on true = keeps.stays x.host r.op h
      on false = h

  sound_from : (x : Executed S) (log : List Entry) → IsSound x.host → IsSound (exec_kept m x log).host
  sound_from x [] h = h
  sound_from x (e ∷ log) h = sound_from (enter_kept m x e) log (sound_with_entry x e h)

  -- its execution leaves the host in a state that ops lead to
  pub executed_is_sound : (k : Keeping) (l : Log) (n : ℕ) → IsSound (executed m k l n).host
  executed_is_sound Whole l n = execs_are_sound m IsSound keeps (take n l.entries)
  executed_is_sound Trimmed l n = sound_from (beginning m l.checkpoint) (upto Trimmed l n) (beginning_is_sound l.checkpoint)

  saved_loads : (l : Log) (n : ℕ) → loaded_of m (checkpoint_of m (executed m Trimmed l n)) ≡ Some (executed m Trimmed l n)
  saved_loads l n = execution_loads m IsSound keeps (executed m Trimmed l n) (executed_is_sound Trimmed l n)

  -- what a log has above a slot is the same after its sync point rose to there
  pub raised_loads : (l : Log) (n : ℕ) → loads m (raised m Trimmed l n) ≡ true
  raised_loads l n = ap is_some (saved_loads l n)

  pub raise_keeps_executed : (l : Log) (n k : ℕ) → l.sync_point ≤ n → n ≤ k
      → executed m Trimmed (raised m Trimmed l n) k ≡ executed m Trimmed l k
  raise_keeps_executed l n k low h =
      let s : ℕ = l.sync_point in
      let prefix : List Entry = take (n - s) l.entries in
      let rest : List Entry = take (k - n) (drop (n - s) l.entries) in
      let parts : prefix ++ rest ≡ take (k - s) l.entries =
      ap (λ (j : ℕ). prefix ++ take j (drop (n - s) l.entries)) (let e : k - n ≡ k - s - (n - s) = omega (arith, low, h) in e)
      ∙ take-to (k - s) (n - s) l.entries (omega (arith, low, h)) in
      ap (λ (o : Option (Executed S)). exec_kept m (unwrap_or o (opening m)) rest) (saved_loads l n)
      ∙ sym (exec_kept_of_append m (beginning m l.checkpoint) prefix rest)
      ∙ ap (exec_kept m (beginning m l.checkpoint)) parts

  pub raise_keeps_result : (l : Log) (n k : ℕ) → l.sync_point ≤ n → n < k
      → slot_result m Trimmed (raised m Trimmed l n) k ≡ slot_result m Trimmed l k
  raise_keeps_result l n k low h =
      ap (λ (x : Executed S). kept_result x (entry_at Trimmed (raised m Trimmed l n) k))
      (raise_keeps_executed l n k low (omega (arith, h)))
      ∙ ap (kept_result (executed m Trimmed l k)) (raise_keeps_entry m l n k low h)
