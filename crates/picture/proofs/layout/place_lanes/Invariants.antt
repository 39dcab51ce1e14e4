use Rattle.std.proofs.Common.{◌≡◌, ◌<◌, take}
use Rattle.picture.specs.Lanes.{actors_of, StandApart}
use Rattle.picture.proofs.layout.place_lanes.Given as goal

abbrev pub invariant-loop-actor : goal.invariant-loop-actor
invariant-loop-actor l = record {
  actors : actors_of l.lanes.items ≡ take l.actor-index l.actors;
  apart : l.x < 4294967295 → StandApart l.lanes.items l.x;
}
