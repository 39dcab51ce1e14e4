-- What a search keeps of fronts from which no history is legal.
use Rattle.std.specs.Prelude.{◌≡◌, ◌⊎◌, ◌∷◌, ℕ, List, Some, All, slice_get}
use Rattle.std.specs.List.Sorted.{IsPermutation}
use Rattle.fronts.specs.Configurations.{IsFailed}
use Rattle.nop_types.specs.Lines.{Line}
use Rattle.nop_types.specs.Meaning.{Meaning}
use Rattle.order_search.specs.declared.failed.Configuration.{Configuration}

-- from none of these configurations a history is legal
abbrev pub AllFailed : {S : Type 0} → Meaning S → List Line → List Configuration → Type 0
AllFailed m lines kept = All (λ c. IsFailed m lines c.line c.waiting.items c.state.items) kept

-- a configuration with the same parts is among these
pub record IsKnown (kept : List Configuration) (c : Configuration) : Type 0 where
  pub place : ℕ
  pub known : Configuration
  pub at : slice_get kept place ≡ Some known
  pub line_is : known.line ≡ c.line
  pub waiting_is : known.waiting.items ≡ c.waiting.items
  pub state_is : known.state.items ≡ c.state.items

-- the configuration was added, or one with the same parts was there
abbrev pub Keeps : List Configuration → List Configuration → Configuration → Type 0
Keeps old new c = IsPermutation (c ∷ old) new ⊎ (IsKnown old c × (new ≡ old))
