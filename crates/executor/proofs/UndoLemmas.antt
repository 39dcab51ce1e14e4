-- One slot of an execution, forward and back.
use Rattle.std.proofs.Common.{Option, ◌≡◌, ℕ, Bool, true, false, cond, List, [], ◌∷◌, Some, None, refl}
use Rattle.std.specs.Prelude.{◌&&◌, length, nat_le, IfSome}
use Rattle.std.specs.Option.{option_map, unwrap_or}
use Rattle.std.proofs.lemmas.Bool.{and_parts}
use Rattle.nop_types.specs.declared.limits.TheConstants.{MAX_HOST_BYTES, MAX_SERVED, WINDOW}
use Rattle.nop_types.specs.declared.request.Request.{Request}
use Rattle.nop_types.specs.declared.request.Entry.{Entry}
use Rattle.nop_types.specs.declared.request.Entry.TheVariants.{NoOp, Req}
use Rattle.nop_types.specs.Meaning.{Meaning}
use Rattle.std.specs.FinMap as finite
use Rattle.nop_types.specs.declared.checkpoint.Answered.{Answered}
use Rattle.nop_types.specs.Tables.{Table, kept_for, is_new_to, serves, with_result}
use Rattle.nop_types.specs.Execution.{Executed, opening, execute, enter_kept, exec_kept, takes}
use Rattle.nop_types.specs.Checkpoints.{Checkpoint, CheckpointFits, are_saved}
use Rattle.nop_types.specs.CheckpointedLogs.{beginning}
use Rattle.client_table.specs.Table.{former_of, unkept, AllKept}
use Rattle.client_table.specs.Laws.{unkept_is_before, may_return, all_kept_with, none_kept, saved_kept}
use Rattle.executor.specs.declared.slot_undo.SlotUndo.{SlotUndo}
use Rattle.executor.specs.Running.{execution}
use Rattle.executor.specs.Undoing.{slot_undo_of, undone_by, MayUnkeep}

-- a fresh host and an empty table open an execution
pub opens : {S : Type 0} (m : Meaning S) (s : S) (t : Table) → s ≡ m.opening → t ≡ finite.empty → execution s t ≡ opening m
opens m s t host table = λ i. execution (host i) (table i)

module _ {S : Type 0} (m : Meaning S) (s : S) (t : Table) (r : Request) where
  -- a request that is taken is executed
  pub enters : (s' : S) (t' : Table) (a : List ℕ) (e : Entry) → e ≡ Req r → takes t r ≡ true
      → s' ≡ m.after s r.op → a ≡ m.answer s r.op → t' ≡ with_result WINDOW t r.client (record { id = r.id; result = a })
      → execution s' t' ≡ enter_kept m (execution s t) e
  enters s' t' a e is takes after answer table = rw (is, takes, after, table, answer) refl

-- a host and a table that were put back are the execution before the slot
pub leaves : {S U : Type 0} (undone : S → U → S) (s s' : S) (t t' : Table) (o : Option (SlotUndo U)) (slot_undo : SlotUndo U)
    → o ≡ Some slot_undo → s' ≡ undone s slot_undo.undo → t' ≡ unkept t slot_undo.kept
    → execution s' t' ≡ undone_by undone (execution s t) o
leaves undone s s' t t' o slot_undo is host table = rw is (λ i. execution (host i) (table i))

module _ {S : Type 0} (m : Meaning S) (x : Executed S) where
  -- what a request is answered with, where it is executed
  abbrev answered : Request → Answered
  answered r = record { id = r.id; result = m.answer x.host r.op }

  -- a request that is taken has a new id
  is_new : (r : Request) → takes x.table r ≡ true → is_new_to WINDOW (kept_for x.table r.client) r.id ≡ true
  is_new r e = (and_parts (serves x.table r.client) (is_new_to WINDOW (kept_for x.table r.client) r.id) e).1

  -- each client has what may be kept, after an entry
  pub entered_kept : (e : Entry) → AllKept x.table → AllKept (enter_kept m x e).table
  entered_kept NoOp all = all
  entered_kept (Req r) all = on (takes x.table r) refl
    where
      on : (b : Bool) → takes x.table r ≡ b → AllKept (cond b (execute m x r) x).table
      on true e = all_kept_with x.table r.client (answered r) all (is_new r e)
      on false e = all

-- after any entries
pub exec_all_kept : {S : Type 0} (m : Meaning S) (x : Executed S) (entries : List Entry) → AllKept x.table
    → AllKept (exec_kept m x entries).table
exec_all_kept m x [] all = all
exec_all_kept m x (e ∷ entries) all = exec_all_kept m (enter_kept m x e) entries (entered_kept m x e all)

-- and where an execution begins
module _ {S : Type 0} (m : Meaning S) where
  opening_kept : AllKept (opening m).table
  opening_kept = none_kept

  pub beginning_kept : (o : Option Checkpoint) → IfSome o CheckpointFits → AllKept (beginning m o).table
  beginning_kept None h = opening_kept
  beginning_kept (Some c) h = on (m.loaded c.host)
    where
      saved : are_saved 0 c.clients ≡ true
      saved =
          (and_parts (nat_le (length c.clients) MAX_SERVED) (are_saved 0 c.clients)
          (and_parts (nat_le (length c.host) MAX_HOST_BYTES) (nat_le (length c.clients) MAX_SERVED && are_saved 0 c.clients) h.limits).1).1

      on : (o : Option S)
          → AllKept (unwrap_or (option_map (λ host. record { host = host; table = finite.from_entries c.clients }) o) (opening m)).table
      on None = opening_kept
      on (Some host) = saved_kept c.clients saved

module _ {S U : Type 0} (m : Meaning S) (undo_of : S → List ℕ → U) (x : Executed S) (all : AllKept x.table) where
  back_if : (undone : S → U → S) → ((s : S) (op : List ℕ) → undone (m.after s op) (undo_of s op) ≡ s) → (r : Request) (b : Bool)
      → takes x.table r ≡ b → undone_by undone (cond b (execute m x r) x)
      (cond b (Some (record { undo = undo_of x.host r.op; kept = former_of x.table r.client r.id })) None) ≡ x
  back_if undone undoes r true e =
      λ i. execution (undoes x.host r.op i)
      (unkept_is_before x.table r.client (answered m x r) all (is_new m x r e) i)
  back_if undone undoes r false e = refl

  -- an entry is undone by what its slot keeps
  back : (undone : S → U → S) → ((s : S) (op : List ℕ) → undone (m.after s op) (undo_of s op) ≡ s) → (e : Entry)
      → undone_by undone (enter_kept m x e) (slot_undo_of undo_of x e) ≡ x
  back undone undoes NoOp = refl
  back undone undoes (Req r) = back_if undone undoes r (takes x.table r) refl

  returns_if : (r : Request) (b : Bool) → takes x.table r ≡ b
      → MayUnkeep {U = U} (cond b (execute m x r) x).table
      (cond b (Some (record { undo = undo_of x.host r.op; kept = former_of x.table r.client r.id })) None)
  returns_if r true e = may_return x.table r.client (answered m x r) all (is_new m x r e)
  returns_if r false e = tt

  -- and that may be done
  pub may_unkeep : (e : Entry) → MayUnkeep (enter_kept m x e).table (slot_undo_of undo_of x e)
  may_unkeep NoOp = tt
  may_unkeep (Req r) = returns_if r (takes x.table r) refl

pub goes_back : {S U : Type 0} (m : Meaning S) (undo_of : S → List ℕ → U) (undone : S → U → S)
    → ((s : S) (op : List ℕ) → undone (m.after s op) (undo_of s op) ≡ s) → (x : Executed S) (e : Entry) → AllKept x.table
    → undone_by undone (enter_kept m x e) (slot_undo_of undo_of x e) ≡ x
goes_back m undo_of undone undoes x e all = back m undo_of x all undone undoes e
