-- Results of the key-value service from words, the other way of `result_words` of `kv_text`.
use Rattle.std.specs.Prelude.{ℕ, List, [], ◌∷◌, Option, Some, None, option_map, ◌==◌, if◌then◌else◌}
use Rattle.op_text.specs.Words.{bytes_of}

-- a value behind `=`
abbrev pub value_of : List ℕ → Option (List ℕ)
value_of word = option_map (λ (value : List ℕ). 61 ∷ value) (bytes_of word)

-- `=` and the word of a value, or the word of another result
abbrev pub of_word : List ℕ → Option (List ℕ)
of_word [] = bytes_of []
of_word (b ∷ word) = if b == 61 then value_of word else bytes_of (b ∷ word)

abbrev pub result_of : List (List ℕ) → Option (List ℕ)
result_of [] = None
result_of (word ∷ []) = of_word word
result_of (word ∷ more ∷ rest) = None
