-- How an op is spelled in bytes.
use Rattle.std.specs.Prelude.{◌≡◌, ℕ, ◌<◌, ◌^◌, List, ◌∷◌, ◌++◌, ◌⊎◌}
use Rattle.saved_fields.specs.Numbers.{number_bytes}
use Rattle.lock_host.specs.declared.op.TheConstants.{ACQUIRE, RELEASE, INSPECT}
use Rattle.lock_host.specs.declared.op.LockOp.{LockOp}
use Rattle.lock_host.specs.declared.op.LockOp.TheVariants.{Acquire, Release, Inspect, Bad}
use Rattle.lock_host.specs.Fields.{NameFits, name_bytes}
use Rattle.lock_host.specs.Op.{read_op}

-- the bytes spell the op; no bytes spell `Bad`
abbrev pub Spells : LockOp → List ℕ → Type 0
Spells (Acquire name owner) bytes = NameFits name × NameFits owner × (bytes ≡ ACQUIRE ∷ (name_bytes name ++ name_bytes owner))
Spells (Release name owner token) bytes =
    NameFits name × NameFits owner × (token < 2 ^ 64) × (bytes ≡ RELEASE ∷ (name_bytes name ++ (name_bytes owner ++ number_bytes token)))
Spells (Inspect name) bytes = NameFits name × (bytes ≡ INSPECT ∷ name_bytes name)
Spells Bad bytes = ⊥

-- what is spelled is read
abbrev pub ReadsSpelled : Type 0
ReadsSpelled = (op : LockOp) (bytes : List ℕ) → Spells op bytes → read_op bytes ≡ op

-- what is read is spelled, or is no op
abbrev pub ReadsOnlySpelled : Type 0
ReadsOnlySpelled = (bytes : List ℕ) → (read_op bytes ≡ Bad) ⊎ Spells (read_op bytes) bytes
