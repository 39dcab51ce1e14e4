-- The ops and results of the key-value service as words.
use Rattle.std.specs.Prelude.{ℕ, List, [], ◌∷◌, ◌++◌, Option, Some, None, codes, ◌==◌, ◌||◌, if◌then◌else◌}
use Rattle.std.specs.Option.{option_and_then}
use Rattle.line_fields.specs.Fields.{is_text}
use Rattle.op_text.specs.Words.{bytes_of, word_of}
use Rattle.kv_host.specs.Op.{Op, Get, Put, Delete, Swap, Bad, read_op}
use Rattle.kv_spelling.specs.Spell.{spell}
pub use Rattle.nop_types.specs.Options.{◌>>=◌}

-- ---- from words

abbrev pub key_op : List ℕ → List ℕ → Option Op
key_op word key =
    if is_text (codes "get") word then Some (Get key) else if is_text (codes "delete") word then Some (Delete key) else None

abbrev pub value_op : List ℕ → List ℕ → List ℕ → Option Op
value_op word key value = if is_text (codes "put") word then Some (Put key value) else None

abbrev pub swap_op : List ℕ → List ℕ → List ℕ → List ℕ → Option Op
swap_op word key old new =
    if is_text (codes "compare-and-set") word || is_text (codes "swap") word then Some (Swap key old new) else None

-- the op that the words name
unfoldable pub named : List (List ℕ) → Option Op
named (word ∷ key ∷ []) = do
  k ← bytes_of key
  key_op word k
named (word ∷ key ∷ value ∷ []) = do
  k ← bytes_of key
  v ← bytes_of value
  value_op word k v
named (word ∷ key ∷ old ∷ new ∷ []) = do
  k ← bytes_of key
  o ← bytes_of old
  n ← bytes_of new
  swap_op word k o n
named words = None

-- ---- to bytes

-- the bytes that spell the op that words name, where its fields have lengths that an op may have
abbrev pub op_of : List (List ℕ) → Option (List ℕ)
op_of words = option_and_then spell (named words)

-- ---- to words

abbrev pub words_in : Op → Option (List (List ℕ))
words_in (Get key) = Some (codes "get" ∷ word_of key ∷ [])
words_in (Put key value) = Some (codes "put" ∷ word_of key ∷ word_of value ∷ [])
words_in (Delete key) = Some (codes "delete" ∷ word_of key ∷ [])
words_in (Swap key old new) = Some (codes "compare-and-set" ∷ word_of key ∷ word_of old ∷ word_of new ∷ [])
words_in Bad = None

abbrev pub words_of : List ℕ → Option (List (List ℕ))
words_of op = words_in (read_op op)

-- a value after `=`, or the result as a word
abbrev pub result_words : List ℕ → List (List ℕ)
result_words [] = word_of [] ∷ []
result_words (b ∷ value) = if b == 61 then (codes "=" ++ word_of value) ∷ [] else word_of (b ∷ value) ∷ []
