-- Slots that are written.
use Rattle.std.specs.Prelude.{ℕ, zero, suc, List, [], ◌∷◌, slice_set}
use Rattle.nop_types.specs.declared.request.Entry.{Entry}

-- slot k, where it is there, becomes x
abbrev pub set_slot : List Entry → ℕ → Entry → List Entry
set_slot l zero x = l
set_slot l (suc i) x = slice_set l i x

-- the entries of l, and above them those of k
abbrev pub laid : List Entry → List Entry → List Entry
laid [] k = k
laid (x ∷ xs) [] = x ∷ xs
laid (x ∷ xs) (y ∷ ys) = x ∷ laid xs ys
