-- The names of parts, in the order in which they came.
use Rattle.std.specs.Prelude.{ℕ, List, map}
use Rattle.joined_orders.specs.declared.names.Names.{Names}

abbrev pub names_of : Names → List (List ℕ)
names_of names = map (λ name. name.now) names.names.keys
