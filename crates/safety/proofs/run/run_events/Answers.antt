use Rattle.std.proofs.Common.{◌≡◌, length, refl}
use Rattle.std.proofs.lemmas.Option.{slice_get_read}
use Rattle.std.proofs.lemmas.Result.{err_from_is_err_and}
use Rattle.nop_types.specs.Checkpoints.{KeepsTo}
use Rattle.safety.proofs.Whole.{running_on, run_led, run_refused}
use Rattle.safety.proofs.run.run_events.Goals as goal

pub loop-event-preserved : goal.loop-event-preserved
loop-event-preserved g c =
    let s = c.in_ok-step.ensures in
    record {
      runs = running_on g.H.Host.meaning c.args.config c.args.events.now c.loop-event.world.state c.step.new.self.state s.ok.are
          c.loop-event.event-index c.event-item.result
          (slice_get_read c.args.events.now (length c.args.events.now) c.loop-event.event-index c.event-item.result refl
          c.loop-event-test.true c.event-item.is) s.fits s.ok.is c.loop-event.invariant.runs;
      well = s.well.1;
    }

pub returns-clause-ok : goal.returns-clause-ok
returns-clause-ok g c =
    let keeps : KeepsTo g.H.Host.meaning g.H.Host.is_sound = search (g.met.H.Host) in
    run_led g.H.Host.meaning g.H.Host.is_sound keeps c.args.config c.replicas.ensures.limits c.args.events.now c.loop-event.world.state
    c.loop-event.event-index c.loop-event-test.false c.loop-event.invariant.runs

pub returns-in_err-step-clause-err : goal.returns-in_err-step-clause-err
returns-in_err-step-clause-err g c =
    let p = err_from_is_err_and c.from_residual-in_err-step.result c.from_residual-in_err-step.ensures.1 in
    rw (p.1, p.2) (run_refused g.H.Host.meaning c.args.config c.args.events.now c.loop-event.world.state c.loop-event.event-index
    c.event-item.result c.in_err-step.field-0.0 (c.step.new.self ≡ c.loop-event.world)
    (slice_get_read c.args.events.now (length c.args.events.now) c.loop-event.event-index c.event-item.result refl c.loop-event-test.true
    c.event-item.is) c.in_err-step.ensures.err c.loop-event.invariant.runs)
