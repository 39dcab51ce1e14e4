-- The first field ends at the first space.
use Rattle.std.proofs.Common.{◌≡◌, ℕ, Bool, true, false, not, nat_lt, ◌==◌, ◌+◌, Option, Some, None, cond, position, take, drop}
use Rattle.std.proofs.Common.{length}
use Rattle.std.proofs.Common.{List, [], ◌∷◌, ◌++◌, refl, arith, append_assoc, append-nil}
use Rattle.std.specs.List.{position_or_len, before_first, after_first}
use Rattle.std.proofs.Math.Seq.{take-length}
use Rattle.std.proofs.lemmas.List.Sums.{prefix_len-le-length}
use Rattle.std.proofs.lemmas.Bool.Decides.{nat_tests}
use Rattle.std.proofs.lemmas.Grind.{common_steps}
use Rattle.line_fields.specs.Fields.{fields, fields_on}

abbrev first_space : List ℕ → ℕ
first_space line = position_or_len (λ b. b == 32) line

abbrev others : Bool → List ℕ → List (List ℕ)
others false rest = []
others true rest = fields_on [] rest

abbrev cut_at_space : List ℕ → List ℕ → List (List ℕ)
cut_at_space field line =
    (field ++ before_first (λ b. b == 32) line) ∷ others (nat_lt (first_space line) (length line)) (after_first (λ b. b == 32) line)

at_byte : (space : Bool) (field : List ℕ) (b : ℕ) (bs : List ℕ) → b == 32 ≡ space
    → fields_on (field ++ b ∷ []) bs ≡ cut_at_space (field ++ b ∷ []) bs → fields_on field (b ∷ bs) ≡ cut_at_space field (b ∷ bs)
at_byte true field b bs e rest = grind (arith, common_steps, e, append-nil)
at_byte false field b bs e rest = grind (arith, common_steps, e, rest, append_assoc)

first_field : (field line : List ℕ) → fields_on field line ≡ cut_at_space field line
first_field field [] = rw append-nil refl
first_field field (b ∷ bs) = at_byte (b == 32) field b bs refl (first_field (field ++ b ∷ []) bs)

-- the fields, by the place of the first space
abbrev pub fields_by : List ℕ → Option ℕ → List (List ℕ)
fields_by line None = line ∷ []
fields_by line (Some i) = take i line ∷ fields (drop (i + 1) line)

by_place : (found : Bool) (line : List ℕ) → nat_lt (first_space line) (length line) ≡ found
    → fields line ≡ fields_by line (cond found (Some (first_space line)) None)
unfolding fields
by_place true line e = rw (first_field [] line, e) refl
by_place false line e =
    let all : first_space line ≡ length line = grind (arith, nat_tests, e, prefix_len-le-length (λ b. not (b == 32)) line) in
    rw (first_field [] line, e, all, take-length) refl

pub fields_cut : (line : List ℕ) → fields line ≡ fields_by line (position (λ b. b == 32) line)
fields_cut line = by_place (nat_lt (first_space line) (length line)) line refl

pub fields_are_some : (line : List ℕ) → (first : List ℕ) × (more : List (List ℕ)) × (fields line ≡ first ∷ more)
unfolding fields
fields_are_some line = (_, _, first_field [] line)
