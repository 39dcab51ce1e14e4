use Rattle.std.proofs.Common.{◌≡◌}
use Rattle.world.specs.WorldSteps.{step}
use Rattle.replay.proofs.Texts.{gathered_step, refused_step}
use Rattle.replay.proofs.turn.take_event.Goals as goal

pub returns-in-Ok-clause-takes : goal.returns-in-Ok-clause-takes
returns-in-Ok-clause-takes g c =
    gathered_step (g.K.Sink.held c.args.sink.now) (g.K.Sink.held c.gather.new.sink) c.args.pending.now.items
    c.gather.new.pending.items c.args.line (step g.H.Host.meaning c.args.world.now.state c.args.event.now) c.step.new.self.state
    c.in-Ok.lines c.as_slice.result.now c.gather.result c.in-Ok.ensures.ok c.as_slice.ensures c.gather.ensures.gathers

pub returns-in-Err-clause-takes : goal.returns-in-Err-clause-takes
returns-in-Err-clause-takes g c =
    refused_step (g.K.Sink.held c.args.sink.now) (g.K.Sink.held c.refuse_event.new.sink) c.args.pending.now.items c.args.line
    (step g.H.Host.meaning c.args.world.now.state c.args.event.now) c.in-Err.e (c.step.new.self ≡ c.args.world.now)
    c.refuse_event.result c.in-Err.ensures.err c.refuse_event.ensures.refuses
