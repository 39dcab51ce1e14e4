use Rattle.std.proofs.Common.{sym, subst, List, ℕ}
use Rattle.nop_types.specs.Checkpoints.{KeepsTo}
use Rattle.schedule_text.specs.declared.event.Event.TheVariants.{Submit}
use Rattle.world.specs.WorldSteps.{WorldState, opening, step}
use Rattle.replay.specs.Generated.{drawn_config}
use Rattle.replay.specs.Generating.{IsTaken}
use Rattle.replay.proofs.Drawn.{first_taken}
use Rattle.replay.proofs.generated.first_drawn.Goals as goal

pub happen-requires : goal.happen-requires
happen-requires g c =
    let m = g.H.Host.meaning in
    let keeps : KeepsTo m g.H.Host.is_sound = search (g.met.H.Host) in
    subst (λ (w : WorldState). IsTaken (step m w (Submit 0 c.in_ok-get_of.field-0))) (sym c.requires)
    (subst (λ (op : List ℕ). IsTaken (step m (opening drawn_config) (Submit 0 op))) (sym c.in_ok-get_of.ensures) (first_taken m g.H.Host.is_sound keeps))
