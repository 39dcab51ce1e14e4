-- One field, and two.
use Rattle.std.proofs.Common.{◌≡◌, ℕ, Ok, Err, List, [], ◌∷◌, refl}
use Rattle.line_fields.specs.Fields.{fields}
use Rattle.line_fields.proofs.SplitLemmas.{fields_are_some}
use Rattle.schedule_text.specs.declared.rule.Rule.TheVariants.{WrongFieldCount}
use Rattle.schedule_text.specs.Rules.{◌>>=◌, one_field, one_or_two_fields, three_fields, two_fields}

-- the second of two fields is the only one of the others
pub second_of : (first : List ℕ) (others : List (List ℕ)) → two_fields (first ∷ others) ≡ one_field others >>= λ second. Ok (first, second)
second_of first [] = refl
second_of first (second ∷ []) = refl
second_of first (second ∷ third ∷ more) = refl

-- the second and the third of three fields are the two others
pub others_of : (first : List ℕ) (others : List (List ℕ))
    → three_fields (first ∷ others) ≡ two_fields others >>= λ p. Ok (first, p.0, p.1)
others_of first [] = refl
others_of first (second ∷ []) = refl
others_of first (second ∷ third ∷ []) = refl
others_of first (second ∷ third ∷ fourth ∷ more) = refl

-- two fields and those of a further part are no one or two
pub more_than_two : (first second rest : List ℕ) → one_or_two_fields (first ∷ second ∷ fields rest) ≡ Err WrongFieldCount
more_than_two first second rest = let some = fields_are_some rest in rw some.2 refl

-- a field and those of a further part are no single field
pub more_than_one : (line first rest : List ℕ) (others : List (List ℕ)) → others ≡ fields rest → fields line ≡ first ∷ others
    → one_field (fields line) ≡ Err WrongFieldCount
more_than_one line first rest others is cut =
    let some = fields_are_some rest in
    rw (cut, is, some.2) refl
