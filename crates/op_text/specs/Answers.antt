-- What a program answers to its arguments, by the text form of a service.
use Rattle.std.specs.Prelude.{ℕ, List, [], ◌∷◌, Option, Some, None, option_map, codes, if◌then◌else◌}
use Rattle.std.specs.Option.{option_and_then}
use Rattle.hex.specs.Hex.{encode_lower, decode_of}
use Rattle.line_fields.specs.Fields.{as_option, is_text}
use Rattle.op_text.specs.declared.answering.Status.{Status}
use Rattle.op_text.specs.declared.answering.Status.TheVariants.{Done, Usage}
use Rattle.op_text.specs.Words.{text_of}

-- the op that words name, in hexadecimal
abbrev pub op_answer : (List (List ℕ) → Option (List ℕ)) → List (List ℕ) → Option (List ℕ)
op_answer op_of words = option_map encode_lower (op_of words)

-- the words of an op in hexadecimal
abbrev pub text_answer : (List ℕ → Option (List (List ℕ))) → List ℕ → Option (List ℕ)
text_answer words_of digits = option_map text_of (option_and_then words_of (as_option (decode_of digits)))

-- the words of a result in hexadecimal
abbrev pub result_answer : (List ℕ → List (List ℕ)) → List ℕ → Option (List ℕ)
result_answer result_words digits = option_map (λ r. text_of (result_words r)) (as_option (decode_of digits))

abbrev pub by_digits : (List ℕ → Option (List (List ℕ))) → (List ℕ → List (List ℕ)) → List ℕ → List (List ℕ) → Option (List ℕ)
by_digits words_of result_words command [] = None
by_digits words_of result_words command (digits ∷ []) =
    if is_text (codes "text") command then text_answer words_of digits
    else if is_text (codes "result") command then result_answer result_words digits
    else None
by_digits words_of result_words command (digits ∷ more ∷ rest) = None

-- `op` and words, `text` and an op, or `result` and a result
abbrev pub answer_of : (List (List ℕ) → Option (List ℕ)) → (List ℕ → Option (List (List ℕ))) → (List ℕ → List (List ℕ))
    → List (List ℕ) → Option (List ℕ)
answer_of op_of words_of result_words [] = None
answer_of op_of words_of result_words (command ∷ words) =
    if is_text (codes "op") command then op_answer op_of words else by_digits words_of result_words command words

abbrev pub status_of : Option (List ℕ) → Status
status_of (Some line) = Done
status_of None = Usage
