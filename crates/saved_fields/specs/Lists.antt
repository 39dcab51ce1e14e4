-- Lists of elements of any kind, by how an element is spelled and read.
use Rattle.std.specs.Prelude.{ℕ, zero, suc, ◌≤◌, List, [], ◌∷◌, ◌++◌, length, Option, Some, None, All, nat_le, if◌then◌else◌}
use Rattle.std.specs.List.{flat_map}
use Rattle.saved_fields.specs.Numbers.{number_at, number_bytes}
pub use Rattle.nop_types.specs.Options.{◌>>=◌}

-- how many elements there are, and each of them
abbrev pub list_bytes : {A : Type 0} → (A → List ℕ) → List A → List ℕ
list_bytes spell xs = number_bytes (length xs) ++ flat_map spell xs

-- n elements, and what follows them
unfoldable pub elements_at : {A : Type 0} → (List ℕ → Option (A × List ℕ)) → ℕ → List ℕ → Option (List A × List ℕ)
elements_at read zero bytes = Some ([], bytes)
elements_at read (suc n) bytes = do
  x ← read bytes
  xs ← elements_at read n x.1
  Some (x.0 ∷ xs.0, xs.1)

-- a list of at most so many elements, and what follows it
unfoldable pub list_at : {A : Type 0} → ℕ → (List ℕ → Option (A × List ℕ)) → List ℕ → Option (List A × List ℕ)
list_at most read bytes = do
  count ← number_at bytes
  if nat_le count.0 most then elements_at read count.0 count.1 else None

pub record ListFits {A : Type 0} (most : ℕ) (Fits : A → Type 0) (xs : List A) : Type 0 where
  pub few : length xs ≤ most
  pub each : All Fits xs
