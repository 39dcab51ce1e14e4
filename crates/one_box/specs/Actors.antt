-- The actors of a cluster, in the order in which they take their turns.
use Rattle.std.specs.Prelude.{ℕ, zero, suc, List, [], ◌∷◌, ◌++◌}
use Rattle.nop_types.specs.Configuration.{Configuration}
use Rattle.nop_types.specs.declared.output.Actor.{Actor}
use Rattle.nop_types.specs.declared.output.Actor.TheVariants.{Replica, Sequencer, Client, Controller}

-- those of a kind, from number 0 on
abbrev pub numbered : (ℕ → Actor) → ℕ → List Actor
numbered kind zero = []
numbered kind (suc n) = numbered kind n ++ kind n ∷ []

-- replicas, sequencers, controllers, clients
abbrev pub actors_of : Configuration → List Actor
actors_of c =
    numbered Replica c.replicas ++ numbered Sequencer c.sequencers ++ numbered Controller c.controllers ++ numbered Client c.clients

-- the number of the first op of an actor: the ops go to the clients in turn
abbrev pub first_op : Actor → ℕ
first_op (Client i) = i
first_op _ = 0
