-- The merge of two logs, that of the lower sender first.
use Rattle.std.specs.Prelude.{ℕ, length, drop, set, List, [], ◌∷◌, ◌++◌}
use Rattle.nop_types.specs.declared.request.Entry.{Entry}
use Rattle.nop_types.specs.declared.request.Entry.TheVariants.{NoOp, Req}

-- what wins of two entries
abbrev pub of_entries : Entry → Entry → Entry
of_entries x NoOp = NoOp
of_entries x (Req r) = x

abbrev pub put_noop : List Entry → ℕ → Entry → List Entry
put_noop xs i NoOp = set xs i NoOp
put_noop xs i (Req r) = xs

abbrev pub with_noops : List Entry → List Entry → List Entry
with_noops xs [] = xs
with_noops [] (y ∷ ys) = []
with_noops (x ∷ xs) (y ∷ ys) = of_entries x y ∷ with_noops xs ys

abbrev pub of_logs : List Entry → List Entry → List Entry
of_logs xs ys = with_noops xs ys ++ drop (length xs) ys
