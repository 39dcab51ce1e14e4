-- Results of the lock service from words, the other way of `result_words` of `lock_text`.
use Rattle.std.specs.Prelude.{ℕ, List, [], ◌∷◌, ◌++◌, Option, Some, None, codes, if◌then◌else◌}
use Rattle.line_fields.specs.Fields.{is_text, number_of}
use Rattle.op_text.specs.Words.{bytes_of}
use Rattle.saved_fields.specs.Numbers.{number_bytes}
pub use Rattle.nop_types.specs.Options.{◌>>=◌}

-- `granted` and a token
abbrev pub granted_of : List ℕ → List ℕ → Option (List ℕ)
granted_of word token = do
  n ← number_of token
  if is_text (codes "granted") word then Some (codes "granted" ++ number_bytes n) else None

-- `held`, a token, and the word of an owner
abbrev pub held_of : List ℕ → List ℕ → List ℕ → Option (List ℕ)
held_of word token owner = do
  n ← number_of token
  o ← bytes_of owner
  if is_text (codes "held") word then Some ((codes "held" ++ number_bytes n) ++ o) else None

unfoldable pub result_of : List (List ℕ) → Option (List ℕ)
result_of (word ∷ []) = bytes_of word
result_of (word ∷ token ∷ []) = granted_of word token
result_of (word ∷ token ∷ owner ∷ []) = held_of word token owner
result_of words = None
