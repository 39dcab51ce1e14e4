-- Proofs: nothing here has to be believed.
-- Names that are spelled are read, and names that are read are spelled by the bytes.
use Rattle.std.proofs.Common.{◌≡◌, ℕ, Bool, true, false, cond, List, [], ◌∷◌, ◌++◌, length, take, drop, Option, Some, None, refl, sym, ap, ◌∙◌}
use Rattle.std.proofs.Common.{arith}
use Rattle.std.specs.Prelude.{IfSome, nat_le, ◌&&◌}
use Rattle.std.proofs.lemmas.Bool.Decides.{nat_tests}
use Rattle.std.proofs.lemmas.List.{length-take, length-append, take-append-drop}
use Rattle.std.proofs.Math.Seq.{take-append_seam, drop-append_seam}
use Rattle.lock_host.specs.declared.name.TheConstants.{MAX_NAME_BYTES}
use Rattle.lock_host.specs.Fields.{NameFits, name_bytes, name_at}

abbrev pub Field : Type 0
Field = List ℕ × List ℕ

-- the bytes begin with the name
pub record BeginsName (bytes : List ℕ) (f : Field) : Type 0 where
  pub fits : NameFits f.0
  pub spelled : bytes ≡ name_bytes f.0 ++ f.1

first_name : (b : Bool) (len : ℕ) (rest : List ℕ)
    → nat_le 1 len && (nat_le len MAX_NAME_BYTES && nat_le len (length rest)) ≡ b
    → IfSome (cond b (Some (take len rest, drop len rest)) None) (BeginsName (len ∷ rest))
first_name true len rest e =
    let t = length-take len rest in
    let whole : length (take len rest) ≡ len = grind (arith, nat_tests) in
    record {
      fits = record { least = grind (arith, nat_tests); most = grind (arith, nat_tests) };
      spelled =
          sym
          (ap (λ (n : ℕ). n ∷ (take len rest ++ drop len rest)) whole
          ∙ ap (λ (tail : List ℕ). len ∷ tail) (take-append-drop len rest));
    }
first_name false len rest e = tt

pub name_at-begins : (bytes : List ℕ) → IfSome (name_at bytes) (BeginsName bytes)
unfolding name_at
name_at-begins [] = tt
name_at-begins (len ∷ rest) = first_name _ len rest refl

pub name_at-name : (name rest : List ℕ) → NameFits name → name_at (name_bytes name ++ rest) ≡ Some (name, rest)
unfolding name_at
name_at-name name rest fits =
    let l = length-append name rest in
    let low = fits.least in
    let high = fits.most in
    let test : nat_le 1 (length name) && (nat_le (length name) MAX_NAME_BYTES && nat_le (length name) (length (name ++ rest))) ≡ true =
    grind (arith, nat_tests) in
    rw (test, take-append_seam name rest, drop-append_seam name rest) refl
