-- Results that left an account, as the code has them.
use Rattle.std.specs.Prelude.{List, [], ◌∷◌}
use Rattle.nop_types.specs.declared.checkpoint.Answered.{Answered}
use Rattle.client_table.specs.declared.dropped.Dropped.{Dropped}
use Rattle.client_table.specs.declared.dropped.Dropped.TheVariants.{None, One, Several}

abbrev pub results_of : Dropped → List Answered
results_of None = []
results_of (One a) = a ∷ []
results_of (Several results) = results.items
