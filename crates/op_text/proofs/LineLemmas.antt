-- Before a line is written, none of its bytes are.
use Rattle.std.proofs.Common.{ℕ, List, [], ◌∷◌, ◌++◌, Option, arith, length-append}
use Rattle.std.proofs.KnownBytes.{Appends-nil}
use Rattle.outside.specs.Prefixes.{AppendsPrefix}

pub no_line : (h : Option (List ℕ)) (line : List ℕ) → AppendsPrefix h h (line ++ 10 ∷ [])
no_line h line = record { count = 0; below = omega (arith, length-append line (10 ∷ [])); appended = Appends-nil h }
