-- What a clock answers.
use Rattle.std.specs.Prelude.{◌≡◌, ℕ, List, [], ◌∷◌, Option, Some, None, ⊤}

-- the value that comes next: a clock without values answers 0
abbrev pub next_value : List ℕ → ℕ
next_value [] = 0
next_value (v ∷ values) = v

-- the values after it: the last one stays
abbrev pub later_values : List ℕ → List ℕ
later_values [] = []
later_values (v ∷ []) = v ∷ []
later_values (v ∷ w ∷ values) = w ∷ values

-- a clock gives the next value, where it is observable
abbrev pub ReadsTime : Option (List ℕ) → Option (List ℕ) → ℕ → Type 0
ReadsTime None new time = ⊤
ReadsTime (Some values) new time = (time ≡ next_value values) × (new ≡ Some (later_values values))
