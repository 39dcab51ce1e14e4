-- How many words a line has.
use Rattle.std.specs.Prelude.{◌≡◌, ℕ, List, [], ◌∷◌}
use Rattle.host_list.specs.declared.words.Words.{Words}
use Rattle.host_list.specs.declared.words.Words.TheVariants as words

-- none, two, or another number
abbrev pub AreWords : Words → List (List ℕ) → Type 0
AreWords words.None ws = ws ≡ []
AreWords (words.Two first second) ws = ws ≡ first.now ∷ second.now ∷ []
AreWords words.Others [] = ⊥
AreWords words.Others (a ∷ b ∷ []) = ⊥
AreWords words.Others _ = Unit {0}
