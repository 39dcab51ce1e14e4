-- Where lanes stand.
use Rattle.std.specs.Prelude.{ℕ, ◌+◌, ◌<◌, List, [], ◌∷◌, map, All, AllPairs, if◌then◌else◌}
use Rattle.nop_types.specs.declared.output.Actor.{Actor}
use Rattle.picture.specs.declared.lane.Lane.{Lane}
use Rattle.picture.specs.declared.layout.TheConstants.{BEND_WIDTH}
use Rattle.picture.specs.Actors.{same}

-- the middle of an actor's lane, 0 where it has none
abbrev pub lane_of : List Lane → Actor → ℕ
lane_of [] a = 0
lane_of (l ∷ ls) a = if same l.actor a then l.x else lane_of ls a

abbrev pub actors_of : List Lane → List Actor
actors_of lanes = map (λ l. l.actor) lanes

-- each lane stands left of those after it, and with all arrows that begin and end in it left of this place
pub record StandApart (lanes : List Lane) (x : ℕ) : Type 0 where
  pub pairs : AllPairs (λ a b. a.x < b.x) lanes
  pub before : All (λ a. a.x + BEND_WIDTH < x) lanes
