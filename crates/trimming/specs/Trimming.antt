-- What becomes of a whole log that is trimmed.
use Rattle.std.specs.Prelude.{ℕ, zero, suc, List, take, drop, Option, Some, None}
use Rattle.nop_types.specs.declared.request.Entry.{Entry}
use Rattle.nop_types.specs.Meaning.{Meaning}
use Rattle.nop_types.specs.Execution.{exec}
use Rattle.nop_types.specs.Checkpoints.{Checkpoint, checkpoint_of}
use Rattle.nop_types.specs.Logs.{Log}

module _ {S : Type 0} (m : Meaning S) where
  -- what is in place of the first n entries; of none, nothing
  abbrev pub checkpoint_at : ℕ → List Entry → Option Checkpoint
  checkpoint_at zero l = None
  checkpoint_at (suc i) l = Some (checkpoint_of m (exec m (take (suc i) l)))

  -- the checkpoint is the execution of the entries up to the sync point, and the other entries are kept
  abbrev pub trim : Log → Log
  trim l = record { sync_point = l.sync_point; checkpoint = checkpoint_at l.sync_point l.entries; entries = drop l.sync_point l.entries }
