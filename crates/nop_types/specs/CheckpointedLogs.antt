-- What the execution of a log leaves, where a checkpoint may be in place of its first entries.
use Rattle.std.specs.Prelude.{ℕ, List, Option, Some, None, Bool, true, is_some}
use Rattle.std.specs.Option.{unwrap_or}
use Rattle.nop_types.specs.declared.request.Entry.{Entry}
use Rattle.nop_types.specs.declared.request.Entry.TheVariants.{NoOp, Req}
use Rattle.nop_types.specs.Meaning.{Meaning}
use Rattle.nop_types.specs.Tables.{kept_for, result_kept}
use Rattle.nop_types.specs.Execution.{Executed, opening, exec, exec_kept, result_at}
use Rattle.nop_types.specs.Checkpoints.{Checkpoint, checkpoint_of, loaded_of}
use Rattle.nop_types.specs.Logs.{Log, Keeping, Whole, Trimmed, upto, above, entry_at}

-- what is kept for an entry, if it is a request
abbrev pub kept_result : {S : Type 0} → Executed S → Option Entry → Option (List ℕ)
kept_result x None = None
kept_result x (Some NoOp) = None
kept_result x (Some (Req r)) = result_kept (kept_for x.table r.client) r.id

module _ {S : Type 0} (m : Meaning S) where
  abbrev pub loads_by : Option Checkpoint → Bool
  loads_by None = true
  loads_by (Some c) = is_some (loaded_of m c)

  -- there is no checkpoint, or one that loads
  abbrev pub loads : Log → Bool
  loads l = loads_by l.checkpoint

  -- where an execution goes on from: what the checkpoint loads; the opening, where there is none, or none that loads
  abbrev pub beginning : Option Checkpoint → Executed S
  beginning None = opening m
  beginning (Some c) = unwrap_or (loaded_of m c) (opening m)

  -- what the slots up to n leave, n not below the sync point
  abbrev pub executed : Keeping → Log → ℕ → Executed S
  executed Whole l n = exec m (upto Whole l n)
  executed Trimmed l n = exec_kept m (beginning l.checkpoint) (upto Trimmed l n)

  -- the result at a slot
  abbrev pub slot_result : Keeping → Log → ℕ → Option (List ℕ)
  slot_result Whole l n = result_at m l.entries n
  slot_result Trimmed l n = kept_result (executed Trimmed l n) (entry_at Trimmed l n)

  -- the sync point rises to n; the checkpoint of a trimmed log with it, and the entries up to there go
  abbrev pub raised : Keeping → Log → ℕ → Log
  raised Whole l n = record l { sync_point = n }
  raised Trimmed l n = record {
    sync_point = n;
    checkpoint = Some (checkpoint_of m (executed Trimmed l n));
    entries = above Trimmed l n;
  }
