use Rattle.std.proofs.Common.{arith}
use Rattle.std.proofs.lemmas.Grind.{common_steps}
use Rattle.picture.proofs.LaneLemmas.{stand_apart_push}
use Rattle.picture.proofs.layout.place_lanes.Goals as goal

pub loop-actor-preserved : goal.loop-actor-preserved
loop-actor-preserved c = record {
  actors = grind (arith, common_steps);
  apart = λ h. rw c.in_ok-push.ensures.items (stand_apart_push _ _ _
      (c.loop-actor.invariant.apart (omega (arith, h, c.saturating_add-x.ensures)))
      (omega (arith, h, c.saturating_add-x.ensures)));
}
