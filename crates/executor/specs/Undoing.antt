-- What undoes the slots of an execution.
use Rattle.std.specs.Prelude.{◌≡◌, ◌<◌, ◌≤◌, ℕ, List, Option, Some, None, length, take, slice_get, if◌then◌else◌, IfSome}
use Rattle.std.specs.List.{AllByRecursion}
use Rattle.nop_types.specs.declared.request.Entry.{Entry}
use Rattle.nop_types.specs.declared.request.Entry.TheVariants.{NoOp, Req}
use Rattle.nop_types.specs.Meaning.{Meaning}
use Rattle.nop_types.specs.Tables.{Table, kept_for}
use Rattle.nop_types.specs.CheckpointedLogs.{beginning}
use Rattle.nop_types.specs.Execution.{Executed, exec_kept, takes}
use Rattle.nop_types.specs.Logs.{Log}
use Rattle.client_table.specs.Table.{former_of, unkept, AllKept, MayReturn}
use Rattle.executor.specs.declared.slot_undo.SlotUndo.{SlotUndo}
use Rattle.executor.specs.Running.{Running, execution}

-- what undoes an entry: nothing where it does nothing, else what undoes the op, and what takes its result out of the table again
abbrev pub slot_undo_of : {S U : Type 0} → (S → List ℕ → U) → Executed S → Entry → Option (SlotUndo U)
slot_undo_of undo_of x NoOp = None
slot_undo_of undo_of x (Req r) =
    if takes x.table r then Some (record { undo = undo_of x.host r.op; kept = former_of x.table r.client r.id }) else None

-- the execution before a slot, by what undoes it
abbrev pub undone_by : {S U : Type 0} → (S → U → S) → Executed S → Option (SlotUndo U) → Executed S
undone_by undone x None = x
undone_by undone x (Some slot_undo) = record { host = undone x.host slot_undo.undo; table = unkept x.table slot_undo.kept }

-- from where an execution began, where each client has what may be kept, as many first entries as there are undos were executed: x is
-- what that left, and each has what undoes its entry
pub record IsExecuted {S U : Type 0} (m : Meaning S) (undo_of : S → List ℕ → U) (begun : Executed S) (entries : List Entry)
    (x : Executed S) (undos : List (Option (SlotUndo U))) : Type 0 where
  pub kept : AllKept begun.table
  pub within : length undos ≤ length entries
  pub execution : x ≡ exec_kept m begun (take (length undos) entries)
  pub undoing : (i : ℕ) (e : Entry) → i < length undos → slice_get entries i ≡ Some e
      → slice_get undos i ≡ Some (slot_undo_of undo_of (exec_kept m begun (take i entries)) e)

-- the executor has executed a trimmed log up to some slot, from its checkpoint on
pub record HasExecuted {H U S : Type 0} (state : H → S) (m : Meaning S) (undo_of : S → List ℕ → U) (log : Log)
    (r : Running H U) : Type 0 where
  pub base : r.base ≡ log.sync_point
  pub run : IsExecuted m undo_of (beginning m log.checkpoint) log.entries (execution (state r.host) r.table) r.undos

-- the host has the room to undo a slot
abbrev pub UndoFits : {U : Type 0} → (U → Type 0) → Option (SlotUndo U) → Type 0
UndoFits fits slot_undo = IfSome slot_undo (λ s. fits s.undo)

abbrev pub UndosFit : {U : Type 0} → (U → Type 0) → List (Option (SlotUndo U)) → Type 0
UndosFit fits undos = AllByRecursion (UndoFits fits) undos

-- the result of a slot may be taken out of the table again
abbrev pub MayUnkeep : {U : Type 0} → Table → Option (SlotUndo U) → Type 0
MayUnkeep table slot_undo = IfSome slot_undo (λ s. MayReturn (kept_for table s.kept.client) s.kept.id s.kept.removed)
