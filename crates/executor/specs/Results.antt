-- What a kept answer says of the last slot that was executed.
use Rattle.std.specs.Prelude.{◌≡◌, ℕ, List, Option, Some}
use Rattle.nop_types.specs.declared.request.Request.{Request}
use Rattle.nop_types.specs.declared.request.Entry.TheVariants.{Req}
use Rattle.nop_types.specs.CheckpointedLogs.{slot_result}
use Rattle.nop_types.specs.Meaning.{Meaning}
use Rattle.nop_types.specs.Legality.{IsOf}
use Rattle.nop_types.specs.Logs.{Log, Trimmed, entry_at}

-- of a trimmed log that was executed up to a slot: the answer to a request is the result at that slot, where the request stands there
abbrev pub IsResult : {S : Type 0} → Meaning S → Log → ℕ → ℕ → ℕ → Option (List ℕ) → Type 0
IsResult m log slot client id answer =
    (r : Request) → entry_at Trimmed log slot ≡ Some (Req r) → IsOf client id r → answer ≡ slot_result m Trimmed log slot
