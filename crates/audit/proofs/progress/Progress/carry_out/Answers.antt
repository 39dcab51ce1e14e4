use Rattle.std.proofs.Common.{◌+◌, refl}
use Rattle.audit.proofs.Carrying.{carried}
use Rattle.audit.proofs.progress.Progress.carry_out.Goals as goal

pub returns : goal.returns
returns g c = λ h s shows.
    let old = c.args.self.now in
    carried g.H.Host.meaning h s old shows
    (record { world = c.step_outs.new.self; missing = c.of.result; actor = c.args.actor; steps = old.steps + 1; text = c.event_line.new.to })
    c.args.actor c.args.event.now c.in-Ok.gave c.requires.actor c.in-Ok.ensures.ok c.of.ensures refl refl c.in_ok-event_line.ensures.ok
    c.in-Ok.ensures.fits c.in_ok-event_line.ensures.means
