-- The ops and results of the lock service as words.
use Rattle.std.specs.Prelude.{◌≡◌, ℕ, List, [], ◌∷◌, length, Bool, Option, Some, None, codes, decimal, nat_le, ◌&&◌, if◌then◌else◌}
use Rattle.line_fields.specs.Fields.{is_text, number_of}
use Rattle.op_text.specs.Words.{bytes_of, word_of}
use Rattle.lock_host.specs.declared.name.TheConstants.{MAX_NAME_BYTES}
use Rattle.lock_host.specs.declared.op.TheConstants.{ACQUIRE, RELEASE, INSPECT}
use Rattle.lock_host.specs.declared.op.LockOp.{LockOp}
use Rattle.lock_host.specs.declared.op.LockOp.TheVariants.{Acquire, Release, Inspect, Bad}
use Rattle.lock_host.specs.Spelling.{Spells}
use Rattle.op_table.specs.declared.table.FieldShape.{FieldShape}
use Rattle.op_table.specs.declared.table.FieldShape.TheVariants.{Number, Rest, Text}
use Rattle.op_table.specs.Shapes as table
use Rattle.op_table.specs.Shapes.{AnswerShape, OpShape}
use Rattle.saved_fields.specs.Lists.{◌>>=◌}

-- ---- the table

abbrev pub a_name : FieldShape
a_name = Text 1 MAX_NAME_BYTES

abbrev pub acquire_shape : OpShape
acquire_shape = record { name = codes "acquire"; kind = ACQUIRE; fields = a_name ∷ a_name ∷ [] }

abbrev pub release_shape : OpShape
release_shape = record { name = codes "release"; kind = RELEASE; fields = a_name ∷ a_name ∷ Number ∷ [] }

abbrev pub inspect_shape : OpShape
inspect_shape = record { name = codes "inspect"; kind = INSPECT; fields = a_name ∷ [] }

abbrev pub lock_ops : List OpShape
lock_ops = acquire_shape ∷ release_shape ∷ inspect_shape ∷ []

abbrev pub lock_answers : List AnswerShape
lock_answers =
    record { name = codes "granted"; fields = Number ∷ [] }
    ∷ record { name = codes "held"; fields = Number ∷ Rest ∷ [] }
    ∷ []

abbrev pub op_of : List (List ℕ) → Option (List ℕ)
op_of words = table.op_of lock_ops words

abbrev pub words_of : List ℕ → Option (List (List ℕ))
words_of op = table.words_of lock_ops op

abbrev pub result_words : List ℕ → List (List ℕ)
result_words result = table.result_words lock_answers result

-- ---- what it means

abbrev pub fits_name : List ℕ → Bool
fits_name name = nat_le 1 (length name) && nat_le (length name) MAX_NAME_BYTES

-- the name that a word stands for
unfoldable pub name_of : List ℕ → Option (List ℕ)
name_of word = do
  name ← bytes_of word
  if fits_name name then Some name else None

abbrev pub acquire_of : List (List ℕ) → Option LockOp
acquire_of (lock ∷ owner ∷ []) = do
  l ← name_of lock
  o ← name_of owner
  Some (Acquire l o)
acquire_of _ = None

abbrev pub release_of : List (List ℕ) → Option LockOp
release_of (lock ∷ owner ∷ token ∷ []) = do
  l ← name_of lock
  o ← name_of owner
  t ← number_of token
  Some (Release l o t)
release_of _ = None

abbrev pub inspect_of : List (List ℕ) → Option LockOp
inspect_of (lock ∷ []) = do
  l ← name_of lock
  Some (Inspect l)
inspect_of _ = None

-- the op that the words name
abbrev pub named : List (List ℕ) → Option LockOp
named [] = None
named (word ∷ words) =
    if is_text (codes "acquire") word then acquire_of words
    else if is_text (codes "release") word then release_of words
    else if is_text (codes "inspect") word then inspect_of words
    else None

-- the words name an op that the bytes spell
abbrev pub Names : Option LockOp → List ℕ → Type 0
Names o bytes = (op : LockOp) × (o ≡ Some op) × Spells op bytes

abbrev pub IsNamed : List (List ℕ) → List ℕ → Type 0
IsNamed words bytes = Names (named words) bytes

abbrev pub words_in : LockOp → Option (List (List ℕ))
words_in (Acquire name owner) = Some (codes "acquire" ∷ word_of name ∷ word_of owner ∷ [])
words_in (Release name owner token) = Some (codes "release" ∷ word_of name ∷ word_of owner ∷ decimal token ∷ [])
words_in (Inspect name) = Some (codes "inspect" ∷ word_of name ∷ [])
words_in Bad = None
