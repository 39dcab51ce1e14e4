use Rattle.std.proofs.Common.{ap, ◌∙◌}
use Rattle.std.specs.Prelude.{slice_get}
use Rattle.world.specs.Lookups.{timers_if}
use Rattle.world.proofs.seat.timer_at.Goals as goal

pub returns-in-Some : goal.returns-in-Some
returns-in-Some g c = c.timer.ensures ∙ ap (λ o. slice_get (timers_if o g.C.Core.timers) c.args.i) c.in-Some.ensures
