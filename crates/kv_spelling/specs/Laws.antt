-- Proofs: nothing here has to be believed.
-- What is spelled is what the definition of spelling says, both ways.
use Rattle.std.proofs.Common.{◌≡◌, ℕ, Bool, true, false, cond, List, ◌∷◌, ◌++◌, length, Option, Some, None, refl, sym, ap, arith}
use Rattle.std.specs.Prelude.{nat_le, ◌&&◌}
use Rattle.std.proofs.lemmas.Bool.{and_parts, leb-true}
use Rattle.std.proofs.lemmas.Bool.Decides.{nat_tests}
use Rattle.nop_types.specs.declared.limits.TheConstants.{MAX_KEY_BYTES, MAX_VALUE_BYTES}
use Rattle.kv_host.specs.Op.{Op, Get, Put, Delete, Swap, Bad}
use Rattle.kv_host.specs.Spelling.{KeyFits, ValueFits, Spells}
use Rattle.kv_spelling.specs.Spell.{fits_key, fits_value, spell}

-- ---- lengths

pub key_fits : (key : List ℕ) → fits_key key ≡ true → KeyFits key
key_fits key e =
    let p = and_parts (nat_le 1 (length key)) (nat_le (length key) MAX_KEY_BYTES) e in
    record { least = leb-true 1 (length key) p.0; most = leb-true (length key) MAX_KEY_BYTES p.1 }

pub value_fits : (value : List ℕ) → fits_value value ≡ true → ValueFits value
value_fits value e = record { least = omega arith; most = leb-true (length value) MAX_VALUE_BYTES e }

key_fits_back : (key : List ℕ) → KeyFits key → fits_key key ≡ true
key_fits_back key fits =
    let least = fits.least in
    let most = fits.most in
    grind (arith, nat_tests)

value_fits_back : (value : List ℕ) → ValueFits value → fits_value value ≡ true
value_fits_back value fits =
    let most = fits.most in
    grind (arith, nat_tests)

-- ---- ops

pub spelled_again : (op : Op) (bytes : List ℕ) → Spells op bytes → spell op ≡ Some bytes
unfolding spell
spelled_again (Get key) bytes (k, e) = rw (key_fits_back key k) (ap Some (sym e))
spelled_again (Put key value) bytes (k, v, e) = rw (key_fits_back key k, value_fits_back value v) (ap Some (sym e))
spelled_again (Delete key) bytes (k, e) = rw (key_fits_back key k) (ap Some (sym e))
spelled_again (Swap key old new) bytes (k, o, n, e) =
    rw (key_fits_back key k, value_fits_back old o, value_fits_back new n) (ap Some (sym e))
spelled_again Bad bytes h = absurd h

guarded : (b : Bool) (x bytes : List ℕ) → cond b (Some x) None ≡ Some bytes → (b ≡ true) × (bytes ≡ x)
guarded true x bytes e = (refl, cc)
guarded false x bytes e = absurd cc

pub spelled_op : (op : Op) (bytes : List ℕ) → spell op ≡ Some bytes → Spells op bytes
unfolding spell
spelled_op (Get key) bytes e =
    let g = guarded (fits_key key) _ bytes e in
    (key_fits key g.0, g.1)
spelled_op (Put key value) bytes e =
    let g = guarded (fits_key key && fits_value value) _ bytes e in
    let p = and_parts (fits_key key) (fits_value value) g.0 in
    (key_fits key p.0, value_fits value p.1, g.1)
spelled_op (Delete key) bytes e =
    let g = guarded (fits_key key) _ bytes e in
    (key_fits key g.0, g.1)
spelled_op (Swap key old new) bytes e =
    let g = guarded (fits_key key && (fits_value old && fits_value new)) _ bytes e in
    let p = and_parts (fits_key key) (fits_value old && fits_value new) g.0 in
    let q = and_parts (fits_value old) (fits_value new) p.1 in
    (key_fits key p.0, value_fits old q.0, value_fits new q.1, g.1)
spelled_op Bad bytes e = absurd cc
