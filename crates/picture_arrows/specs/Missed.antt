-- What was sent and never delivered.
use Rattle.std.specs.Prelude.{ℕ, ◌+◌, List, [], ◌∷◌, ◌++◌, map, filter, Bool, not, ◌&&◌, nat_le}
use Rattle.std.specs.List.{list_any}
use Rattle.nop_types.specs.declared.output.Actor.{Actor}
use Rattle.nop_types.specs.declared.output.Dest.{Dest}
use Rattle.nop_types.specs.declared.output.Dest.TheVariants.{One, Replicas, Sequencers}
use Rattle.picture.specs.Actors.{same}
use Rattle.picture_arrows.specs.declared.flight.Flight.{Flight}
use Rattle.picture_arrows.specs.declared.missed.Crash.{Crash}
use Rattle.picture_arrows.specs.declared.missed.Miss.{Miss}
use Rattle.picture_arrows.specs.Actors.{has, is_replica, is_sequencer}

abbrev pub is_for : Dest → Actor → Bool
is_for (One one) a = same one a
is_for Replicas a = is_replica a
is_for Sequencers a = is_sequencer a

-- the actor crashed in that row or before
abbrev pub had_crashed : List Crash → ℕ → Actor → Bool
had_crashed crashes row a = list_any (λ c. same c.actor a && nat_le c.row row) crashes

-- it was sent to the actor by another, who never took it, though it had not crashed when it was sent
abbrev pub misses : List Crash → Flight → Actor → Bool
misses crashes f a =
    ((is_for f.leg.dest a && not (same f.leg.from a)) && not (has f.reached.items a)) && not (had_crashed crashes f.leg.sent a)

-- the actors that miss the datagram with this index
abbrev pub missed_at : List Actor → List Crash → ℕ → Flight → List Miss
missed_at actors crashes index f = map (λ a. record { index = index; row = f.leg.sent; to = a }) (filter (misses crashes f) actors)

-- all that was never delivered, in the order of sending
abbrev pub missed_from : List Actor → List Crash → ℕ → List Flight → List Miss
missed_from actors crashes index [] = []
missed_from actors crashes index (f ∷ fs) = missed_at actors crashes index f ++ missed_from actors crashes (index + 1) fs
