-- Whether lines accept an answer.
use Rattle.std.specs.Prelude.{◌≡◌, ⊤, ℕ, List}
use Rattle.nop_types.specs.Lines.{Line, Accept}
use Rattle.nop_types.specs.Lists.{Has}

-- each line that accepts this client and id accepts the answer
abbrev pub AllAccept : List Line → ℕ → ℕ → List ℕ → Type 0
AllAccept lines client id answer = (result : List ℕ) → Has lines (Accept client id result) → answer ≡ result

-- the line accepts this answer, or accepts nothing
abbrev pub Accepts : List ℕ → Line → Type 0
Accepts answer (Accept client id result) = answer ≡ result
Accepts answer _ = ⊤

-- the line accepts another answer
abbrev pub Differs : List ℕ → Line → Type 0
Differs answer (Accept client id result) = answer ≡ result → ⊥
Differs answer _ = ⊥
