-- Ops and answers by a table: which fields follow a kind, or the first bytes of an answer, and their words.
use Rattle.std.specs.Prelude.{◌≡◌, ℕ, List, [], ◌∷◌, ◌++◌, length, take, drop, decimal, nat_le, Option, Some, None, option_map, unwrap_or}
use Rattle.std.specs.Prelude.{Bool, true, false, ◌==◌, ◌&&◌, not, if◌then◌else◌}
use Rattle.std.specs.List.{list_any}
use Rattle.line_fields.specs.Fields.{is_text, number_of}
use Rattle.nop_types.specs.declared.limits.TheConstants.{MAX_OP_BYTES}
use Rattle.op_text.specs.Words.{bytes_of, word_of}
use Rattle.saved_fields.specs.Lists.{◌>>=◌}
use Rattle.saved_fields.specs.Numbers.{number_at, number_bytes}
use Rattle.saved_fields.specs.Texts.{text_at, text_bytes}
use Rattle.op_table.specs.declared.table.AnswerRow.{AnswerRow}
use Rattle.op_table.specs.declared.table.FieldShape.{FieldShape}
use Rattle.op_table.specs.declared.table.FieldShape.TheVariants.{Number, Text, Rest}
use Rattle.op_table.specs.declared.table.OpRow.{OpRow}

pub record OpShape : Type 0 where
  pub name : List ℕ
  pub kind : ℕ
  pub fields : List FieldShape

pub record AnswerShape : Type 0 where
  pub name : List ℕ
  pub fields : List FieldShape

abbrev pub op_shape : OpRow → OpShape
op_shape row = record { name = row.name.now; kind = row.kind; fields = row.fields.now }

abbrev pub answer_shape : AnswerRow → AnswerShape
answer_shape row = record { name = row.name.now; fields = row.fields.now }

-- ---- from words

abbrev pub by_name : List OpShape → List ℕ → Option OpShape
by_name [] word = None
by_name (s ∷ shapes) word = if is_text s.name word then Some s else by_name shapes word

-- the bytes of the field for which the word stands
unfoldable pub field_of : FieldShape → List ℕ → Option (List ℕ)
field_of Number word = option_map number_bytes (number_of word)
field_of (Text least most) word = do
  text ← bytes_of word
  if nat_le least (length text) && nat_le (length text) most then Some (text_bytes text) else None
field_of Rest word = bytes_of word

-- the bytes of the fields, where there are as many words
unfoldable pub fields_of : List FieldShape → List (List ℕ) → Option (List ℕ)
fields_of [] [] = Some []
fields_of (f ∷ fields) (word ∷ words) = do
  prefix ← field_of f word
  rest ← fields_of fields words
  Some (prefix ++ rest)
fields_of _ _ = None

unfoldable pub op_of : List OpShape → List (List ℕ) → Option (List ℕ)
op_of shapes [] = None
op_of shapes (word ∷ words) = do
  shape ← by_name shapes word
  fields ← fields_of shape.fields words
  if nat_le (length (shape.kind ∷ fields)) MAX_OP_BYTES then Some (shape.kind ∷ fields) else None

-- ---- to words

abbrev pub by_kind : List OpShape → ℕ → Option OpShape
by_kind [] kind = None
by_kind (s ∷ shapes) kind = if s.kind == kind then Some s else by_kind shapes kind

-- the word of a field, and what follows the field
unfoldable pub word_at : FieldShape → List ℕ → Option (List ℕ × List ℕ)
word_at Number bytes = option_map (λ n. (decimal n.0, n.1)) (number_at bytes)
word_at (Text least most) bytes = do
  text ← text_at most bytes
  if nat_le least (length text.0) then Some (word_of text.0, text.1) else None
word_at Rest bytes = Some (word_of bytes, [])

-- the words of the fields, where nothing follows
unfoldable pub words_at : List FieldShape → List ℕ → Option (List (List ℕ))
words_at [] [] = Some []
words_at [] (b ∷ bytes) = None
words_at (f ∷ fields) bytes = do
  word ← word_at f bytes
  words ← words_at fields word.1
  Some (word.0 ∷ words)

unfoldable pub named_words : List OpShape → List ℕ → Option (List (List ℕ))
named_words shapes [] = None
named_words shapes (kind ∷ fields) = do
  shape ← by_kind shapes kind
  words ← words_at shape.fields fields
  Some (shape.name ∷ words)

-- the name of the op and the words of its fields, where it is not too long
unfoldable pub words_of : List OpShape → List ℕ → Option (List (List ℕ))
words_of shapes op = if nat_le (length op) MAX_OP_BYTES then named_words shapes op else None

-- the first bytes of an answer as a word, where there are some
abbrev pub name_words : List ℕ → List (List ℕ)
name_words [] = []
name_words (c ∷ name) = (c ∷ name) ∷ []

-- the words of an answer that is as this row says
unfoldable pub row_words : AnswerShape → List ℕ → Option (List (List ℕ))
row_words s result =
    if is_text s.name (take (length s.name) result)
    then option_map (λ words. name_words s.name ++ words) (words_at s.fields (drop (length s.name) result))
    else None

-- an answer that is as no row says is one word
unfoldable pub result_words : List AnswerShape → List ℕ → List (List ℕ)
result_words [] result = word_of result ∷ []
result_words (s ∷ shapes) result = unwrap_or (row_words s result) (result_words shapes result)

-- ---- what a call puts into a list of words

-- the word, and what follows its field
abbrev pub PutsWord : List (List ℕ) → List (List ℕ) → Option (List ℕ) → Option (List ℕ × List ℕ) → Type 0
PutsWord old new rest None = rest ≡ None
PutsWord old new rest (Some x) = (rest ≡ Some x.1) × (new ≡ old ++ x.0 ∷ [])

-- all of the words, or none that count
abbrev pub PutsWords : List (List ℕ) → List (List ℕ) → Bool → Option (List (List ℕ)) → Type 0
PutsWords old new done None = done ≡ false
PutsWords old new done (Some words) = (done ≡ true) × (new ≡ old ++ words)

-- ---- what a table owes

-- no two ops have one name
abbrev pub are_apart : List OpShape → Bool
are_apart [] = true
are_apart (s ∷ shapes) = not (list_any (λ t. is_text t.name s.name) shapes) && are_apart shapes

-- ---- what the bytes of an op are

-- the bytes of these fields for these words, one after the other
abbrev pub AreFields : List FieldShape → List (List ℕ) → List ℕ → Type 0
AreFields [] [] bytes = bytes ≡ []
AreFields (f ∷ fields) (word ∷ words) bytes =
    (prefix : List ℕ) × (rest : List ℕ) × (field_of f word ≡ Some prefix) × AreFields fields words rest × (bytes ≡ prefix ++ rest)
AreFields _ _ bytes = ⊥

-- the bytes of an op: the kind of the shape that the first word names, and the fields of the others
pub record IsOpOf (shapes : List OpShape) (word : List ℕ) (words : List (List ℕ)) (bytes : List ℕ) : Type 0 where
  pub shape : OpShape
  pub fields : List ℕ
  pub named : by_name shapes word ≡ Some shape
  pub are : AreFields shape.fields words fields
  pub spelled : bytes ≡ shape.kind ∷ fields
