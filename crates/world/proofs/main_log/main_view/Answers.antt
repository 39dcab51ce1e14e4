use Rattle.std.proofs.Common.{ap, ◌∙◌}
use Rattle.std.specs.Prelude.{map}
use Rattle.world.specs.WorldSteps.{greatest_of}
use Rattle.world.proofs.MainLog.{main_view_is}
use Rattle.world.proofs.main_log.main_view.Goals as goal

pub returns : goal.returns
returns g c =
    main_view_is c.args.actors.now c.greatest_last_normal.result
    (c.greatest_last_normal.ensures
    ∙ ap (λ seats. greatest_of (map (λ p. p.core.state.state.last_normal) seats)) c.deref.ensures.value)
