-- Words, and the bytes that they stand for.
use Rattle.std.specs.Prelude.{ℕ, List, [], ◌∷◌, ◌++◌, length, drop, Bool, false, not, nat_le, Option, Some, ◌==◌, ◌&&◌}
use Rattle.std.specs.Prelude.{if◌then◌else◌}
use Rattle.std.specs.List.{list_all, flat_map}
use Rattle.hex.specs.Hex.{encode_lower, decode_of}
use Rattle.line_fields.specs.Fields.{as_option}

-- whether the word begins with `0x`
abbrev pub is_hex : List ℕ → Bool
is_hex [] = false
is_hex (a ∷ []) = false
is_hex (a ∷ b ∷ rest) = a == 48 && b == 120

-- a printable character of ASCII, and no space
abbrev pub is_mark : ℕ → Bool
is_mark b = nat_le 33 b && nat_le b 126

-- whether the bytes are a word that stands for itself
abbrev pub is_plain : List ℕ → Bool
is_plain bytes = nat_le 1 (length bytes) && (not (is_hex bytes) && list_all is_mark bytes)

-- hexadecimal digits after `0x`; each other word stands for itself
unfoldable pub bytes_of : List ℕ → Option (List ℕ)
bytes_of word = if is_hex word then as_option (decode_of (drop 2 word)) else Some word

-- the word for these bytes
unfoldable pub word_of : List ℕ → List ℕ
word_of bytes = if is_plain bytes then bytes else 48 ∷ 120 ∷ encode_lower bytes

abbrev pub after_space : List ℕ → List ℕ
after_space word = 32 ∷ word

-- the words, with a space between each and the next
abbrev pub text_of : List (List ℕ) → List ℕ
text_of [] = []
text_of (word ∷ words) = word ++ flat_map after_space words
