-- Which ids of a client are new, where its requests may come out of order within a window of ids.
use Rattle.std.specs.Prelude.{ℕ, ◌+◌, ◌&&◌, List, [], ◌∷◌, Bool, not, max, nat_lt, nat_le}
use Rattle.nop_types.specs.Lists.{is_in}

-- the greatest of the numbers, 0 where there are none
abbrev pub greatest : List ℕ → ℕ
greatest [] = 0
greatest (k ∷ ks) = max k (greatest ks)

-- the greatest id before is a window ahead of the id, or more
abbrev pub is_stale : ℕ → List ℕ → ℕ → Bool
is_stale window before id = nat_le (id + window) (greatest before)

-- the id plus the window exceeds the greatest id before, and the id is none of them
abbrev pub is_new : ℕ → List ℕ → ℕ → Bool
is_new window before id = nat_lt (greatest before) (id + window) && not (is_in before id)
