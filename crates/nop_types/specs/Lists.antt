-- Words on lists.
use Rattle.std.specs.Prelude.{◌≡◌, ℕ, zero, suc, ◌≤◌, List, [], ◌∷◌, ◌++◌, Bool, true, false, ◌&&◌, ◌||◌, nat_lt, Option, Some, None}
use Rattle.std.specs.Prelude.{slice_get, ◌==◌}
use Rattle.std.specs.List.{list_any}

-- x stands at some place of the list
abbrev pub Has : {A : Type 0} → List A → A → Type 0
Has xs x = (i : ℕ) × (slice_get xs i ≡ Some x)

abbrev pub IsPrefixOf : {A : Type 0} → List A → List A → Type 0
IsPrefixOf {A} xs ys = (rest : List A) × (ys ≡ xs ++ rest)

-- places count from 1, as slots do
abbrev pub slot_of : {A : Type 0} → List A → ℕ → Option A
slot_of xs zero = None
slot_of xs (suc i) = slice_get xs i

-- n is in the list, and no number there is greater
pub record IsGreatest (ns : List ℕ) (n : ℕ) : Type 0 where
  pub has : Has ns n
  pub most : (k : ℕ) → Has ns k → k ≤ n

-- whether the number is in the list
abbrev pub is_in : List ℕ → ℕ → Bool
is_in ns n = list_any (λ k. k == n) ns

-- whether each number of the list is below n
abbrev pub all_below : List ℕ → ℕ → Bool
all_below [] n = true
all_below (k ∷ ks) n = nat_lt k n && all_below ks n

-- whether some number of the list is above n
abbrev pub any_above : List ℕ → ℕ → Bool
any_above [] n = false
any_above (k ∷ ks) n = nat_lt n k || any_above ks n
