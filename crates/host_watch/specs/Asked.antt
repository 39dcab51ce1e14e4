-- Who is asked by an observer of a list of hosts whether it is there.
use Rattle.std.specs.Prelude.{ℕ, List, [], ◌∷◌, Bool, true, false, not, ◌==◌, if◌then◌else◌}
use Rattle.std.specs.List.{flat_map}
use Rattle.nop_types.specs.declared.output.Actor.{Actor}
use Rattle.nop_types.specs.declared.output.Actor.TheVariants.{Client, Observer}
use Rattle.roll_call.specs.declared.node.Node.{Node}
use Rattle.udp_ports.specs.declared.places.Place.{Place}

-- no client, and not the observer itself
abbrev pub is_asked : (own : ℕ) → Actor → Bool
is_asked own (Client n) = false
is_asked own (Observer i) = not (i == own)
is_asked own actor = true

abbrev pub node_at : (own : ℕ) → Place → List Node
node_at own place = if is_asked own place.actor then record { actor = place.actor; port = place.port } ∷ [] else []

-- in the order of their places
abbrev pub nodes_of : (own : ℕ) → List Place → List Node
nodes_of own places = flat_map (node_at own) places
