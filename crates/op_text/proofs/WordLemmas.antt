-- The word for bytes stands for them: plain ones are no hexadecimal, and digits are decoded.
use Rattle.std.proofs.Common.{◌≡◌, ℕ, Bool, true, false, cond, List, ◌∷◌, length, Some, refl, ap}
use Rattle.std.specs.Prelude.{not, nat_le, ◌&&◌}
use Rattle.std.specs.List.{list_all}
use Rattle.std.proofs.lemmas.Bool.{and_parts}
use Rattle.hex.specs.Hex.{IsBytes, encode_lower}
use Rattle.hex.proofs.HexLemmas.{decode_of-encode_lower}
use Rattle.line_fields.specs.Fields.{as_option}
use Rattle.op_text.specs.Words.{is_hex, is_mark, is_plain, bytes_of, word_of}

not_false : (b : Bool) → not b ≡ true → b ≡ false
not_false false e = refl
not_false true e = absurd cc

plain_is_no_hex : (bytes : List ℕ) → is_plain bytes ≡ true → is_hex bytes ≡ false
plain_is_no_hex bytes e =
    let rest = (and_parts (nat_le 1 (length bytes)) (not (is_hex bytes) && list_all is_mark bytes) e).1 in
    not_false (is_hex bytes) (and_parts (not (is_hex bytes)) (list_all is_mark bytes) rest).0

either : (b : Bool) (bytes : List ℕ) → is_plain bytes ≡ b → IsBytes bytes
    → bytes_of (cond b bytes (48 ∷ 120 ∷ encode_lower bytes)) ≡ Some bytes
unfolding bytes_of
either true bytes e all = rw (plain_is_no_hex bytes e) refl
either false bytes e all = ap as_option (decode_of-encode_lower bytes all)

pub read_back : (bytes : List ℕ) → IsBytes bytes → bytes_of (word_of bytes) ≡ Some bytes
unfolding word_of
read_back bytes all = either (is_plain bytes) bytes refl all
