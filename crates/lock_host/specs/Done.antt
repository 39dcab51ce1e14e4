-- An op that was done on the locks.
use Rattle.std.specs.Prelude.{◌≡◌, ℕ, ◌≤◌, List, length}
use Rattle.nop_types.specs.declared.limits.TheConstants.{MAX_RESULT_BYTES}
use Rattle.lock_host.specs.declared.undo.LockUndo.{LockUndo}
use Rattle.lock_host.specs.Locks.{Locks, Step}

-- the op gave this answer, left these locks and is undone by this record, as the step says
pub record IsStep (answer : List ℕ) (locks : Locks) (undo : LockUndo) (s : Step) : Type 0 where
  pub answers : answer ≡ s.answer
  pub short : length answer ≤ MAX_RESULT_BYTES
  pub leaves : locks ≡ s.locks
  pub undoes : undo ≡ s.undo
