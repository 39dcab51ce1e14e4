use Rattle.replay.proofs.replayed.replay_from.Given as goal

abbrev pub ghost-open : goal.ghost-open
ghost-open g a = g.start

abbrev pub ghost-take_events : goal.ghost-take_events
ghost-take_events g a = g.start
