-- Which actors there are, from left to right, and which of them have a lane.
use Rattle.std.specs.Prelude.{ℕ, zero, suc, List, [], ◌∷◌, ◌++◌, Bool, true, false, ◌||◌}
use Rattle.std.specs.List.{list_any}
use Rattle.nop_types.specs.Configuration.{Configuration}
use Rattle.nop_types.specs.declared.output.Actor.{Actor}
use Rattle.nop_types.specs.declared.output.Actor.TheVariants.{Replica, Sequencer, Client, Controller, Observer}
use Rattle.picture.specs.Actors.{same}
use Rattle.picture.specs.declared.data.Row.{Row}
use Rattle.picture.specs.declared.data.Loss.{Loss}

abbrev pub numbered : (ℕ → Actor) → ℕ → List Actor
numbered make zero = []
numbered make (suc n) = numbered make n ++ make n ∷ []

abbrev pub actors_of : Configuration → List Actor
actors_of c =
    (((numbered Controller c.controllers ++ numbered Client c.clients) ++ numbered Sequencer c.sequencers) ++ numbered Replica c.replicas)
    ++ numbered Observer c.observers

abbrev pub has : List Actor → Actor → Bool
has actors a = list_any (λ b. same b a) actors

abbrev pub is_replica : Actor → Bool
is_replica (Replica i) = true
is_replica _ = false

abbrev pub is_sequencer : Actor → Bool
is_sequencer (Sequencer i) = true
is_sequencer _ = false

-- it is the actor of an event
abbrev pub takes_step : List Row → Actor → Bool
takes_step rows a = list_any (λ r. same r.actor a) rows

-- it should have got a datagram
abbrev pub lacks : List Loss → Actor → Bool
lacks losses a = list_any (λ l. same l.to a) losses

-- all replicas, and of the other actors those that take part
abbrev pub has_lane : List Row → List Loss → Actor → Bool
has_lane rows losses a = is_replica a || (takes_step rows a || lacks losses a)
