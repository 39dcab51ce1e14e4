use Rattle.std.proofs.Common.{◌≡◌, take}
use Rattle.std.specs.Prelude.{filter}
use Rattle.picture_arrows.specs.Actors.{has_lane}
use Rattle.picture_arrows.proofs.lane_actors.lanes.Given as goal

abbrev pub invariant-loop-actor : goal.invariant-loop-actor
invariant-loop-actor l = l.lanes.items ≡ filter (has_lane l.rows l.losses) (take l.actor-index l.actors)
