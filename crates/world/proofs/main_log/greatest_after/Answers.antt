use Rattle.std.proofs.Common.{ap, ◌∙◌}
use Rattle.std.specs.Prelude.{if◌then◌else◌}
use Rattle.nop_types.specs.Views.{outranks}
use Rattle.nop_types.specs.declared.view.View.{View}
use Rattle.world.proofs.MainLog.{greatest_next, greatest_end}
use Rattle.world.proofs.main_log.greatest_after.Goals as goal

pub loop-seat-preserved : goal.loop-seat-preserved
loop-seat-preserved g c =
    let l = c.loop-seat in
    greatest_next (λ p. p.core.state.state.last_normal) l.seat-index c.args.seats.now c.seat-item.result l.view c.greater-view.result _
    c.loop-seat-test.true c.seat-item.is
    (c.greater-view.ensures ∙ ap (λ (w : View). if outranks w l.view then w else l.view) c.last_normal.ensures.value) l.invariant

pub returns : goal.returns
returns g c =
    greatest_end (λ p. p.core.state.state.last_normal) c.loop-seat.seat-index c.args.seats.now c.loop-seat.view _ c.loop-seat-test.false
    c.loop-seat.invariant
