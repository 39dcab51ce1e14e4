-- A field: how a value is spelled in bytes, and read from the front of bytes.
use Rattle.std.specs.Prelude.{◌≡◌, ℕ, List, [], ◌++◌, Option, Some, None, IfSome}

-- the bytes begin with a value that fits, as it is spelled
pub record Begins {A : Type 0} (Fits : A → Type 0) (spell : A → List ℕ) (bytes : List ℕ) (found : A × List ℕ) : Type 0 where
  pub fits : Fits found.0
  pub spelled : bytes ≡ spell found.0 ++ found.1

-- a value that fits is read as it is spelled, whatever follows it; and where a value is read, the bytes begin with it
pub record IsField {A : Type 0} (Fits : A → Type 0) (spell : A → List ℕ) (read : List ℕ → Option (A × List ℕ)) : Type 0 where
  pub reads : (x : A) (rest : List ℕ) → Fits x → read (spell x ++ rest) ≡ Some (x, rest)
  pub begins : (bytes : List ℕ) → IfSome (read bytes) (Begins Fits spell bytes)

-- the value, where nothing follows it
abbrev pub whole : {A : Type 0} → Option (A × List ℕ) → Option A
whole (Some (x, [])) = Some x
whole _ = None
