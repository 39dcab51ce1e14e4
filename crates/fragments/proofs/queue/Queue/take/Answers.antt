use Rattle.std.proofs.Common.{None, Some, sym, ◌∙◌}
use Rattle.fragments.proofs.Limits.{queue_fits}
use Rattle.fragments.proofs.queue.Queue.take.Goals as goal

pub returns-in-None-clause-fits : goal.returns-in-None-clause-fits
returns-in-None-clause-fits c =
    queue_fits c.start.result c.args.self.now c.start.new.self c.args.fragment.now None c.requires
    (sym c.place.ensures ∙ c.in-None.is) c.start.ensures.kept c.start.ensures.err

pub returns-in-Some-clause-fits : goal.returns-in-Some-clause-fits
returns-in-Some-clause-fits c =
    queue_fits c.go_on.result c.args.self.now c.go_on.new.self c.args.fragment.now (Some c.in-Some.at) c.requires
    (sym c.place.ensures ∙ c.in-Some.is) c.go_on.ensures.kept c.go_on.ensures.err
