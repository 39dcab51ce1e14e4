-- How many bytes hexadecimal digits spell.
use Rattle.std.proofs.Common.{◌≡◌, ℕ, ◌*◌, ◌≤◌, Bool, true, false, Option, Some, None, refl, ap, subst, arith, length, List, [], ◌∷◌}
use Rattle.std.specs.Prelude.{codes, nat_le, ◌&&◌, Result, Ok, Err, if◌then◌else◌}
use Rattle.std.proofs.lemmas.Bool.{leb-true, and_parts}
use Rattle.hex.specs.Hex.{decode_of}
use Rattle.hex.specs.declared.error.FromHexError.{FromHexError}
use Rattle.hex.proofs.HexLemmas.{decode_of-ok}
use Rattle.line_fields.specs.Fields.{is_text, as_option, bytes_of, key_in, key_of}
use Rattle.nop_types.specs.declared.limits.TheConstants.{MAX_KEY_BYTES}

pub decoded : (r : Result (List ℕ) FromHexError) (bytes : List ℕ) → as_option r ≡ Some bytes → r ≡ Ok bytes
decoded (Ok xs) bytes e = let same : xs ≡ bytes = cc in ap Ok same
decoded (Err x) bytes e = absurd cc

digits_short : (d : ℕ) (ds bytes : List ℕ) (b : Bool) → (if b then Some [] else as_option (decode_of (d ∷ ds))) ≡ Some bytes
    → 2 * length bytes ≤ length (d ∷ ds)
digits_short d ds bytes true e = let same : [] ≡ bytes = cc in subst (λ (t : List ℕ). 2 * length t ≤ length (d ∷ ds)) same (omega arith)
digits_short d ds bytes false e = let h = decode_of-ok (d ∷ ds) bytes (decoded (decode_of (d ∷ ds)) bytes e) in omega (arith, h.2)

-- two characters for each byte
pub bytes_short : (field bytes : List ℕ) → bytes_of field ≡ Some bytes → 2 * length bytes ≤ length field
unfolding bytes_of
bytes_short [] bytes e = absurd cc
bytes_short (d ∷ ds) bytes e = digits_short d ds bytes (is_text (codes "-") (d ∷ ds)) e

-- ---- keys

key_kept : (bytes key : List ℕ) (b : Bool) → (nat_le 1 (length bytes) && nat_le (length bytes) MAX_KEY_BYTES) ≡ b
    → (if b then Some bytes else None) ≡ Some key → (1 ≤ length key) × (length key ≤ MAX_KEY_BYTES)
key_kept bytes key true tests e =
    let same : bytes ≡ key = cc in
    let p = and_parts (nat_le 1 (length bytes)) (nat_le (length bytes) MAX_KEY_BYTES) tests in
    subst (λ (xs : List ℕ). (1 ≤ length xs) × (length xs ≤ MAX_KEY_BYTES)) same
    (leb-true 1 (length bytes) p.0, leb-true (length bytes) MAX_KEY_BYTES p.1)
key_kept bytes key false tests e = absurd cc

-- a key that is read is in its range
pub key_within : (field key : List ℕ) → key_of field ≡ Some key → (1 ≤ length key) × (length key ≤ MAX_KEY_BYTES)
key_within field key e = by_bytes (bytes_of field) e
  where
    by_bytes : (o : Option (List ℕ)) → key_in o ≡ Some key → (1 ≤ length key) × (length key ≤ MAX_KEY_BYTES)
    by_bytes None h = absurd cc
    by_bytes (Some bytes) h = key_kept bytes key (nat_le 1 (length bytes) && nat_le (length bytes) MAX_KEY_BYTES) refl h

-- and its field has bytes
pub key_bytes : (field key : List ℕ) → key_of field ≡ Some key → (bytes : List ℕ) × (bytes_of field ≡ Some bytes)
key_bytes field key e = by_bytes (bytes_of field) refl e
  where
    by_bytes : (o : Option (List ℕ)) → bytes_of field ≡ o → key_in o ≡ Some key → (bytes : List ℕ) × (bytes_of field ≡ Some bytes)
    by_bytes None is h = absurd cc
    by_bytes (Some bytes) is h = (bytes, is)
