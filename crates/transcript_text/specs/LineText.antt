-- A line of a transcript as its fields.
use Rattle.std.specs.Prelude.{ℕ, List, [], ◌∷◌, ◌++◌, decimal, map}
use Rattle.std.specs.List.{flat_map}
use Rattle.transcript_text.specs.declared.field.Field.{Field}
use Rattle.transcript_text.specs.declared.field.Field.TheVariants.{Word, Number, Name, To, Kind, Crashed, Status, Hex}
use Rattle.transcript_text.specs.Transcript.{actor_text, dest_text, hex_text, kind_text, phase_text, up_text}

abbrev pub field_text : Field → List ℕ
field_text (Word text) = text.now
field_text (Number n) = decimal n
field_text (Name actor) = actor_text actor
field_text (To dest) = dest_text dest
field_text (Kind kind) = kind_text kind
field_text (Crashed crashed) = up_text crashed
field_text (Status status) = phase_text status
field_text (Hex bytes) = hex_text bytes.now

abbrev pub field_texts : List Field → List (List ℕ)
field_texts fields = map field_text fields

abbrev pub after_space : List ℕ → List ℕ
after_space text = 32 ∷ text

-- a first word, each further field after a space, and the end of the line
abbrev pub line_of : List ℕ → List (List ℕ) → List ℕ
line_of word fields = word ++ flat_map after_space fields ++ 10 ∷ []
