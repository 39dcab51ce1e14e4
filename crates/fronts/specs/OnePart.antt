-- A service as one part of itself.
use Rattle.std.proofs.Common.{◌≡◌, ℕ, List, [], ◌∷◌, refl, ap}
use Rattle.std.specs.Prelude.{⊤}
use Rattle.fronts.specs.Parts.{is_of, IsPart}
use Rattle.nop_types.specs.Meaning.{Meaning}

-- the part that has no byte is the whole state, and any other one is nothing
abbrev pub is_whole : {S : Type 0} → List ℕ → S → S → Type 0
is_whole [] s t = s ≡ t
is_whole (b ∷ bs) s t = ⊤

-- an op of the part that has no byte answers by the whole state; no op is of any other part
pub whole_is_a_part : {S : Type 0} (m : Meaning S) (Fits : List ℕ → Type 0) (p : List ℕ)
    → IsPart m Fits (is_of (λ op. []) p) (is_whole p)
whole_is_a_part m Fits [] = record {
  opens = refl;
  answers = λ s t op fit mine same. ap (λ x. m.answer x op) same;
  keeps = λ s t op fit mine same. ap (λ x. m.after x op) same;
  leaves = λ s t op fit other same. absurd cc;
}
whole_is_a_part m Fits (b ∷ bs) = record {
  opens = tt;
  answers = λ s t op fit mine same. absurd cc;
  keeps = λ s t op fit mine same. tt;
  leaves = λ s t op fit other same. tt;
}
