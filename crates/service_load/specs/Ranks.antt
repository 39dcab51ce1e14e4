-- Times by their rank.
use Rattle.std.specs.Prelude.{ℕ, ◌+◌, ◌*◌, ◌/◌, List, length, Option, None, zero, suc, slice_get}

-- the one at a place, counted from 1
abbrev pub at_rank : List ℕ → ℕ → Option ℕ
at_rank times zero = None
at_rank times (suc n) = slice_get times n

-- the nearest rank: the first of the times, the shortest first, within which so many of a hundred are
abbrev pub ranked : List ℕ → ℕ → Option ℕ
ranked times percent = at_rank times ((length times * percent + 99) / 100)
