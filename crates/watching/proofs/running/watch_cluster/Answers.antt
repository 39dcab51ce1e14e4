use Rattle.std.proofs.Common.{◌∙◌}
use Rattle.outside.proofs.Counts.{counts_none}
use Rattle.watching.proofs.running.watch_cluster.Goals as goal

pub returns-in-Ok-clause-attaches : goal.returns-in-Ok-clause-attaches
returns-in-Ok-clause-attaches g c =
    counts_none _ _ _ (c.detach.ensures.faults ∙ c.in-Ok.ensures.count) c.watch_over-shown.ensures.attached
