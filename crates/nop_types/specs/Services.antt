-- A service whose answers to bytes are bytes, and the op that reads a key.
use Rattle.std.specs.Prelude.{◌≡◌, ℕ, ◌<◌, List, ◌∷◌, ◌++◌, length, Some, slice_index}
use Rattle.std.specs.Int.{w16, to_be_bytes}
use Rattle.nop_types.specs.Histories.{answer_at}
use Rattle.nop_types.specs.Lists.{Has}
use Rattle.nop_types.specs.Meaning.{Meaning}
use Rattle.nop_types.specs.declared.request.Request.{Request}

-- each number is a byte
abbrev pub IsBytes : List ℕ → Type 0
IsBytes bytes = (i : ℕ) → slice_index bytes i < 256

-- each op is bytes
abbrev pub OpsAreBytes : List Request → Type 0
OpsAreBytes rs = (r : Request) → Has rs r → IsBytes r.op

-- and so is each answer, then
abbrev pub AnswersAreBytes : {S : Type 0} → Meaning S → Type 0
AnswersAreBytes m = (rs : List Request) (i : ℕ) (result : List ℕ) → OpsAreBytes rs → answer_at m rs i ≡ Some result → IsBytes result

-- the op that asks a service for a key: G, the key's length in two bytes, and the key
unfoldable pub get_of : List ℕ → List ℕ
get_of key = 71 ∷ to_be_bytes w16 (length key) ++ key
