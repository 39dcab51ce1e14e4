use Rattle.replay.specs.Progress.{begins}
use Rattle.replay.proofs.replayed.replay.Given as goal

abbrev pub ghost-replay_from : goal.ghost-replay_from
ghost-replay_from g a = begins (g.S.Source.left a.source.now) (g.K.Sink.held a.sink.now)
