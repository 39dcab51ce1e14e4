-- How the queue keeps its requests: one apart, and the others in a table.
use Rattle.std.specs.Prelude.{◌≡◌, ◌==◌, ℕ, Bool, false, List, [], ◌∷◌, Option, Some, None, IfSome, nat_lt, if◌then◌else◌}
use Rattle.std.specs.Ordering.{nat_cmp}
use Rattle.std.specs.FinMap as finite
use Rattle.nop_types.specs.declared.request.Request.{Request}
use Rattle.oum_receiver.specs.Requests.{Requests}

-- the finite map that the entries of a table make
abbrev pub map_of : List (ℕ × Request) → Requests
map_of es = finite.from_entries {R = nat_cmp} es

-- whether the first entry stands below a number
abbrev pub starts_below : ℕ → List (ℕ × Request) → Bool
starts_below next [] = false
starts_below next (e ∷ es) = nat_lt e.0 next

-- the requests of a table and the one apart
abbrev pub with_apart : Option (ℕ × Request) → Requests → Requests
with_apart None m = m
with_apart (Some a) m = finite.insert m a.0 a.1

-- the one apart has no number of the table
abbrev pub IsApart : Option (ℕ × Request) → Requests → Type 0
IsApart apart m = IfSome apart (λ a. finite.get m a.0 ≡ None)

-- the one apart, where it has this number
abbrev pub apart_at : Option (ℕ × Request) → ℕ → Option Request
apart_at None number = None
apart_at (Some a) number = if a.0 == number then Some a.1 else None

-- what stands apart once this number is taken
abbrev pub apart_without : Option (ℕ × Request) → ℕ → Option (ℕ × Request)
apart_without None number = None
apart_without (Some a) number = if a.0 == number then None else Some a

-- what stands apart once the numbers below this one are dropped
abbrev pub apart_from : ℕ → Option (ℕ × Request) → Option (ℕ × Request)
apart_from next None = None
apart_from next (Some a) = if nat_lt a.0 next then None else Some a
