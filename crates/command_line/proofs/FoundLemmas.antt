-- The first value that was found.
use Rattle.std.proofs.Common.{◌≡◌, List, ℕ, Option, option_map, sym, ◌∙◌}
use Rattle.std.specs.Borrow.{Bor}
use Rattle.clap.specs.Words.{Text, first_of, first_value, rows_of}
use Rattle.clap.specs.declared.parser.matches.Found.{Found}
use Rattle.clap.proofs.WalkLemmas.{first_value-rows}

pub found : (f : Found) (id : Text) (o : Option (Bor (List ℕ))) → option_map (λ s. s.now) o ≡ first_value f id
    → first_of id (rows_of f) ≡ option_map (λ s. s.now) o
found f id o is = sym (is ∙ first_value-rows f id)
