-- Quorums of 2 f + 1 replicas, with their members as witnesses.
use Rattle.std.specs.Prelude.{◌≡◌, ℕ, ◌+◌, ◌*◌, ◌<◌, ◌≤◌, List, [], ◌∷◌, length, ◌==◌, if◌then◌else◌}

-- how often a number is in a list
abbrev pub counts : ℕ → List ℕ → ℕ
counts k [] = 0
counts k (x ∷ xs) = (if x == k then 1 else 0) + counts k xs

-- f + 1 replicas of which P holds, none of them twice
pub record Quorum (f : ℕ) (P : ℕ → Type 0) : Type 0 where
  pub members : List ℕ
  pub enough : f + 1 ≤ length members
  pub once : (k : ℕ) → counts k members ≤ 1
  pub within : (k : ℕ) → 1 ≤ counts k members → k < 2 * f + 1
  pub holds : (k : ℕ) → 1 ≤ counts k members → P k

-- f replicas beside the replica r of which P holds, none of them twice
pub record Others (f : ℕ) (r : ℕ) (P : ℕ → Type 0) : Type 0 where
  pub members : List ℕ
  pub enough : f ≤ length members
  pub once : (k : ℕ) → counts k members ≤ 1
  pub within : (k : ℕ) → 1 ≤ counts k members → k < 2 * f + 1
  pub apart : (k : ℕ) → 1 ≤ counts k members → k ≡ r → ⊥
  pub holds : (k : ℕ) → 1 ≤ counts k members → P k
