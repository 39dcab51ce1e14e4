use Rattle.std.proofs.Common.{◌≡◌, drop}
use Rattle.std.specs.Prelude.{map}
use Rattle.world.specs.WorldSteps.{greatest_view}
use Rattle.world.proofs.main_log.greatest_after.Given as goal

-- the greatest of what is left and what came before is that of all
abbrev pub invariant-loop-seat : goal.invariant-loop-seat
invariant-loop-seat g l = greatest_view l.view
    (map (λ p. p.core.state.state.last_normal) (drop l.seat-index l.seats)) ≡ greatest_view l.fn.first
    (map (λ p. p.core.state.state.last_normal) l.seats)
