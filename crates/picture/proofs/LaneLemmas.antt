-- Lanes from left to right.
use Rattle.std.proofs.Common.{ℕ, ◌+◌, ◌<◌, List, [], ◌∷◌, ◌++◌, arith}
use Rattle.std.proofs.lemmas.List.Quantifiers.{all_pairs_push}
use Rattle.std.proofs.lemmas.List.Elements.{All-push}
use Rattle.picture.specs.declared.lane.Lane.{Lane}
use Rattle.picture.specs.Lanes.{StandApart}
use Rattle.picture.specs.declared.layout.TheConstants.{BEND_WIDTH}

pub stand_apart_push : (lanes : List Lane) (l : Lane) (y : ℕ) → StandApart lanes l.x → l.x + BEND_WIDTH < y → StandApart (lanes ++ l ∷ []) y
stand_apart_push lanes l y s h = record {
  pairs = all_pairs_push (λ a b. a.x < b.x) lanes l s.pairs (λ k d lt. omega (arith, s.before k d lt));
  before = All-push (λ a. a.x + BEND_WIDTH < y) lanes l (λ k d lt. omega (arith, s.before k d lt)) h;
}
