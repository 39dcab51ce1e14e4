-- What is told of words that are not taken, and of what words there are.
use Rattle.std.specs.Prelude.{ℕ, List, [], ◌∷◌, ◌++◌, Bool, Option, Some, None, codes, slice_get, if◌then◌else◌}
use Rattle.std.specs.List.{flat_map, list_any}
use Rattle.line_fields.specs.Fields.{is_text}
use Rattle.service_tool.specs.Reasons.{text_of}
use Rattle.service_tool.specs.declared.reason.Fault.{Fault}
use Rattle.service_tool.specs.declared.reason.Reason.{Reason}
use Rattle.service_tool.specs.declared.reason.Reason.TheVariants.{BadOp}
use Rattle.service_tool.specs.declared.telling.Row.{Row}
use Rattle.service_tool.specs.declared.telling.Tool.{Tool}

abbrev pub is_about : List ℕ → Row → Bool
is_about word row = is_text row.word.now word

-- how a word is written, and what it does
abbrev pub row_text : Row → List ℕ
row_text row = codes "  " ++ row.form.now ++ codes ": " ++ row.about.now ++ 10 ∷ []

abbrev pub texts_about : List ℕ → Row → List ℕ
texts_about word row = if is_about word row then row_text row else []

-- the rows about a word, or all where none is
abbrev pub rows_text : Option (List ℕ) → List Row → List ℕ
rows_text None rows = flat_map row_text rows
rows_text (Some word) rows =
    if list_any (is_about word) rows then flat_map (texts_about word) rows else flat_map row_text rows

unfoldable pub usage_words : List ℕ
usage_words = codes " [OPTION..] COMMAND [WORD..]" ++ 10 ∷ []

abbrev pub usage_text : List ℕ → List ℕ
usage_text program = codes "usage: " ++ program ++ usage_words

abbrev pub help_text : Tool → List (List ℕ) → ℕ → List ℕ
help_text tool words at = usage_text tool.program.now ++ rows_text (slice_get words at) tool.rows.now

unfoldable pub versions : List ℕ
versions = codes ": datagrams of version 3" ++ 10 ∷ []

abbrev pub version_text : Tool → List ℕ
version_text tool = tool.program.now ++ versions

-- a word before what is said of it
abbrev pub word_text : Option (List ℕ) → List ℕ
word_text None = []
word_text (Some word) = word ++ codes ": "

-- how the words of an op are written
abbrev pub forms_of : Reason → Option (List ℕ) → List Row → List ℕ
forms_of BadOp (Some word) rows = flat_map (texts_about word) rows
forms_of reason word rows = []

-- the program's name and the word
unfoldable pub front_text : List ℕ → Option (List ℕ) → List ℕ
front_text program word = program ++ codes ": " ++ word_text word

unfoldable pub reason_line : Reason → List ℕ
reason_line reason = text_of reason ++ 10 ∷ []

abbrev pub fault_text : Tool → List (List ℕ) → Fault → List ℕ
fault_text tool words f =
    front_text tool.program.now (slice_get words f.at) ++ reason_line f.reason
    ++ forms_of f.reason (slice_get words f.at) tool.rows.now

-- what is told of no word
abbrev pub told_line : List ℕ → List ℕ → List ℕ
told_line program text = program ++ codes ": " ++ text ++ 10 ∷ []
