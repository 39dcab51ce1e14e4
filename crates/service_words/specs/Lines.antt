-- A line in words, and a line in hexadecimal.
use Rattle.std.specs.Prelude.{ℕ, ◌+◌, List, [], ◌∷◌, ◌++◌, take, drop, Option, Some, None, slice_get}
use Rattle.std.specs.Prelude.{if◌then◌else◌}
use Rattle.std.specs.Option.{option_and_then}
use Rattle.line_fields.specs.Fields.{fields, is_text}
use Rattle.line_fields.specs.Fields as digits
use Rattle.op_text.specs.Words.{text_of, word_of}
use Rattle.op_text.specs.Words as words
use Rattle.transcript_text.specs.Transcript.{hex_text}
use Rattle.service_words.specs.Rows.{row_of}
use Rattle.service_words.specs.declared.direction.Direction.{Direction}
use Rattle.service_words.specs.declared.direction.Direction.TheVariants.{ToWords, ToHex}
use Rattle.service_words.specs.declared.row.Row.{Row}
use Rattle.service_words.specs.declared.row.Kind.{Kind}
use Rattle.service_words.specs.declared.row.Kind.TheVariants.{Op, Answer, Key}
pub use Rattle.nop_types.specs.Options.{◌>>=◌}

-- how a service writes its ops and results
pub record Texts : Type 0 where
  pub op_of : List (List ℕ) → Option (List ℕ)
  pub words_of : List ℕ → Option (List (List ℕ))
  pub result_words : List ℕ → List (List ℕ)
  pub result_of : List (List ℕ) → Option (List ℕ)

abbrev pub texts : (List (List ℕ) → Option (List ℕ)) → (List ℕ → Option (List (List ℕ))) → (List ℕ → List (List ℕ))
    → (List (List ℕ) → Option (List ℕ)) → Texts
texts op words result back = record { op_of = op; words_of = words; result_words = result; result_of = back }

-- the line whose fields these are, or else the line itself
abbrev pub line_or : List ℕ → Option (List (List ℕ)) → List ℕ
line_or line None = line
line_or line (Some fs) = text_of fs

-- the word of a key; no bytes are none
abbrev pub key_words : List ℕ → Option (List (List ℕ))
key_words [] = None
key_words (b ∷ key) = Some (word_of (b ∷ key) ∷ [])

-- the key that the first word stands for
abbrev pub key_in : List (List ℕ) → Option (List ℕ)
key_in [] = None
key_in (word ∷ more) = words.bytes_of word

-- what follows the words that stand for bytes: all that follow are of an op or a result, the first one of a key
abbrev pub behind : Kind → List (List ℕ) → List (List ℕ)
behind Op ws = []
behind Answer ws = []
behind Key ws = drop 1 ws

module _ (t : Texts) where
  -- the words of bytes; none of those that are no op, or of a key without bytes
  abbrev pub shown : Kind → List ℕ → Option (List (List ℕ))
  shown Op bytes = t.words_of bytes
  shown Answer bytes = Some (t.result_words bytes)
  shown Key bytes = key_words bytes

  -- the digits at a place, as words
  abbrev pub with_words : List (List ℕ) → Row → Option (List (List ℕ))
  with_words fs r = do
    field ← slice_get fs r.place
    bytes ← digits.bytes_of field
    ws ← shown r.kind bytes
    Some ((take r.place fs ++ ws) ++ drop (r.place + 1) fs)

  -- the bytes that words stand for: all that follow are of an op or a result, the first one of a key
  abbrev pub named : Kind → List (List ℕ) → Option (List ℕ)
  named Op ws = t.op_of ws
  named Answer ws = t.result_of ws
  named Key ws = key_in ws

  -- the words from a place on, as digits
  abbrev pub with_hex : List (List ℕ) → Row → Option (List (List ℕ))
  with_hex fs r = do
    bytes ← named r.kind (drop r.place fs)
    Some ((take r.place fs ++ hex_text bytes ∷ []) ++ behind r.kind (drop r.place fs))

  unfoldable pub in_hex : List ℕ → List ℕ
  in_hex line = line_or line (option_and_then (with_hex (fields line)) (row_of (fields line)))

  -- the words of its op, result or key in place of digits
  unfoldable pub shown_line : List ℕ → List ℕ
  shown_line line = line_or line (option_and_then (with_words (fields line)) (row_of (fields line)))

  -- a line in words, where these give the line back
  unfoldable pub in_words : List ℕ → List ℕ
  in_words line = if is_text line (in_hex (shown_line line)) then shown_line line else line

  abbrev pub translated : Direction → List ℕ → List ℕ
  translated ToWords line = in_words line
  translated ToHex line = in_hex line
