use Rattle.std.proofs.Common.{◌≤◌}
use Rattle.std.specs.Prelude.{All}
use Rattle.picture.proofs.layout.place_losses.Given as goal

abbrev pub invariant-loop-loss : goal.invariant-loop-loss
invariant-loop-loss l = record {
  places : All (λ x. l.at ≤ x) l.places.items;
  at : l.at ≤ l.x;
}
