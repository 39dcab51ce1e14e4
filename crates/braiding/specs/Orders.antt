-- Orders of the lines of traces. Lines are named by their numbers, from 0.
use Rattle.std.specs.Prelude.{◌≡◌, ℕ, zero, suc, ◌+◌, ◌<◌, List, [], ◌∷◌, Bool, true, false, Option, Some, None, codes, get_or, length, map}
use Rattle.std.specs.Prelude.{slice_get, slice_index_or, take, unwrap_or}
use Rattle.line_fields.specs.Fields.{fields, is_text}
use Rattle.nop_types.specs.Lists.{Has}
use Rattle.braiding.specs.declared.traces.Line.{Line}

abbrev pub is_field : List ℕ → Option (List ℕ) → Bool
is_field word None = false
is_field word (Some field) = is_text word field

-- a step begins with a line whose first field is `in`
abbrev pub starts_step : List ℕ → Bool
starts_step line = is_field (codes "in") (slice_get (fields line) 0)

-- the second field, no bytes where there is none
abbrev pub node_in : List ℕ → List ℕ
node_in line = unwrap_or (slice_get (fields line) 1) []

-- the number behind that of the last line
abbrev pub behind : ℕ → List ℕ → ℕ
behind n [] = n
behind n (p ∷ ps) = behind (p + 1) ps

module _ (lines : List (List ℕ)) where
  abbrev pub line_at : ℕ → List ℕ
  line_at p = slice_index_or lines p []

  -- whether a step starts with the line; none does with the first
  abbrev pub starts : ℕ → Bool
  starts zero = false
  starts (suc p) = starts_step (line_at (suc p))

  -- the step comes behind those of its node only that are earlier
  abbrev pub IsBehindOwn : List ℕ → ℕ → Type 0
  IsBehindOwn before p = (q : ℕ) → Has before q → starts q ≡ true → node_in (line_at q) ≡ node_in (line_at p) → q < p

  -- the line may come behind these
  pub record Fits (before : List ℕ) (p : ℕ) : Type 0 where
    pub within : p < length lines
    pub once : Has before p → ⊥
    -- the lines of the head, and those of a step, stand behind each other
    pub together : starts p ≡ false → p ≡ behind 0 before
    pub own : starts p ≡ true → IsBehindOwn before p

  -- each line stands there once
  pub record IsOrder (order : List ℕ) : Type 0 where
    pub all : length order ≡ length lines
    pub fits : (i : ℕ) → i < length order → Fits (take i order) (get_or order i 0)

abbrev pub texts_of : List Line → List (List ℕ)
texts_of lines = map (λ l. l.text.items) lines
