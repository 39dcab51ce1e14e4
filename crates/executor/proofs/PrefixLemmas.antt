-- What was executed of a log that changes above the executed slots.
use Rattle.std.proofs.Common.{◌≡◌, ℕ, ◌-◌, zero, suc, ◌<◌, ◌≤◌, List, ◌∷◌, [], ◌++◌, length, take, Option, Some, sym, ap, subst, ◌∙◌, arith}
use Rattle.std.proofs.Common.{length-take, take-take}
use Rattle.std.specs.Prelude.{slice_get}
use Rattle.std.proofs.lemmas.List.{take-append-le, take-set-le}
use Rattle.nop_types.specs.declared.request.Entry.{Entry}
use Rattle.nop_types.specs.declared.request.Entry.TheVariants.{NoOp}
use Rattle.nop_types.specs.Meaning.{Meaning}
use Rattle.nop_types.specs.Execution.{Executed, exec_kept}
use Rattle.nop_types.specs.Checkpoints.{Checkpoint}
use Rattle.nop_types.specs.CheckpointedLogs.{beginning}
use Rattle.nop_types.specs.Logs.{Log, Trimmed, length_of, appended, with_noop}
use Rattle.nop_types.specs.Slots.{set_slot}
use Rattle.lemmas.proofs.Places.{slice_get-take}
use Rattle.executor.specs.declared.slot_undo.SlotUndo.{SlotUndo}
use Rattle.executor.specs.Running.{Running, reached, execution}
use Rattle.executor.specs.Undoing.{slot_undo_of, IsExecuted, HasExecuted}

module _ {S U : Type 0} (m : Meaning S) (undo_of : S → List ℕ → U) (begun : Executed S) (entries : List Entry) where
  pub on_prefix : (other : List Entry) (x : Executed S) (undos : List (Option (SlotUndo U))) → IsExecuted m undo_of begun entries x undos
      → take (length undos) other ≡ take (length undos) entries → IsExecuted m undo_of begun other x undos
  on_prefix other x undos h e = record {
    kept = h.kept;
    within =
        let w = h.within in
        let a = length-take (length undos) other in
        let b = length-take (length undos) entries in
        let c = ap length e in
        omega arith;
    execution = h.execution ∙ ap (exec_kept m begun) (sym e);
    undoing =
        λ i d less is. h.undoing i d less (same_entry i less ∙ is)
        ∙ ap (λ (t : List Entry). Some (slot_undo_of undo_of (exec_kept m begun t) d)) (same_prefix i less);
  }
    where
      same_entry : (i : ℕ) → i < length undos → slice_get entries i ≡ slice_get other i
      same_entry i less =
          sym (slice_get-take entries (length undos) i less) ∙ ap (λ (t : List Entry). slice_get t i) (sym e)
          ∙ slice_get-take other (length undos) i less

      same_prefix : (i : ℕ) → i < length undos → take i entries ≡ take i other
      same_prefix i less =
          sym (take-take i (length undos) entries (omega arith)) ∙ ap (take i) (sym e) ∙ take-take i (length undos) other (omega arith)

  pub on_append : (more : List Entry) (x : Executed S) (undos : List (Option (SlotUndo U))) → IsExecuted m undo_of begun entries x undos
      → IsExecuted m undo_of begun (entries ++ more) x undos
  on_append more x undos h = on_prefix (entries ++ more) x undos h (take-append-le (length undos) entries more h.within)

  pub on_slot : (slot : ℕ) (e : Entry) (x : Executed S) (undos : List (Option (SlotUndo U)))
      → IsExecuted m undo_of begun entries x undos → length undos < slot → IsExecuted m undo_of begun (set_slot entries slot e) x undos
  on_slot zero e x undos h less = h
  on_slot (suc i) e x undos h less = on_prefix (set_slot entries (suc i) e) x undos h (take-set-le (length undos) entries i e (omega arith))

-- ---- of an executor and a trimmed log

module _ {H S U : Type 0} (state : H → S) (m : Meaning S) (undo_of : S → List ℕ → U) where
  pub reached_within : (log : Log) (r : Running H U) → HasExecuted state m undo_of log r → reached r ≤ length_of Trimmed log
  reached_within log r h = let b = h.base in let w = h.run.within in omega arith

  pub executed_append : (log : Log) (r : Running H U) (e : Entry) → HasExecuted state m undo_of log r
      → HasExecuted state m undo_of (appended log e) r
  executed_append log r e h = record {
    base = h.base;
    run = on_append m undo_of (beginning m log.checkpoint) log.entries (e ∷ []) (execution (state r.host) r.table) r.undos h.run;
  }

  pub executed_noop : (log : Log) (r : Running H U) (n : ℕ) → HasExecuted state m undo_of log r → reached r < n
      → HasExecuted state m undo_of (with_noop Trimmed log n) r
  executed_noop log r n h less = record {
    base = h.base;
    run =
        on_slot m undo_of (beginning m log.checkpoint) log.entries (n - log.sync_point) NoOp (execution (state r.host) r.table) r.undos
        h.run
        (let b = h.base in omega arith);
  }

  pub executed_other : (log other : Log) (r : Running H U) → HasExecuted state m undo_of log r → other.sync_point ≡ log.sync_point
      → other.checkpoint ≡ log.checkpoint → take (length r.undos) other.entries ≡ take (length r.undos) log.entries
      → HasExecuted state m undo_of other r
  executed_other log other r h point checkpoint prefix = record {
    base = h.base ∙ sym point;
    run =
        subst (λ (c : Option Checkpoint). IsExecuted m undo_of (beginning m c) other.entries (execution (state r.host) r.table) r.undos)
        (sym checkpoint)
        (on_prefix m undo_of (beginning m log.checkpoint) log.entries other.entries (execution (state r.host) r.table) r.undos h.run prefix);
  }
