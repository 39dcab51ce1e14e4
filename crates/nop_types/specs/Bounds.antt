-- What the ranges of logs and replies rest on, for a service.
use Rattle.std.specs.Prelude.{◌≡◌, ◌≤◌, ◌<◌, ℕ, List, length, Some}
use Rattle.nop_types.specs.declared.limits.TheConstants.{MAX_RESULT_BYTES}
use Rattle.nop_types.specs.Meaning.{Meaning}
use Rattle.nop_types.specs.Logs.{Log, Keeping, length_of}
use Rattle.nop_types.specs.CheckpointedLogs as logs
use Rattle.nop_types.specs.CheckpointedLogs.{slot_result}
use Rattle.nop_types.specs.Ranges.{LogIsIn}

-- of logs that are kept whole or trimmed: a result fits a reply, and a log whose sync point rises stays in its ranges
pub record Bounds {S : Type 0} (m : Meaning S) (k : Keeping) : Type 0 where
  pub short : (l : Log) (slot : ℕ) (result : List ℕ) → LogIsIn k l → slot_result m k l slot ≡ Some result → length result ≤ MAX_RESULT_BYTES
  pub raised : (l : Log) (n : ℕ) → LogIsIn k l → l.sync_point < n → n ≤ length_of k l → LogIsIn k (logs.raised m k l n)
