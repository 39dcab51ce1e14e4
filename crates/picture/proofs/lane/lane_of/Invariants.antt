use Rattle.std.proofs.Common.{◌≡◌, drop}
use Rattle.picture.specs.Lanes.{lane_of}
use Rattle.picture.proofs.lane.lane_of.Given as goal

abbrev pub invariant-loop-lane : goal.invariant-loop-lane
invariant-loop-lane l = lane_of l.lanes l.actor ≡ lane_of (drop l.lane-index l.lanes) l.actor
