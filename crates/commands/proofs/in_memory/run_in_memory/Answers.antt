use Rattle.std.proofs.Common.{refl}
use Rattle.commands.proofs.ClusterLemmas.{no_rise}
use Rattle.commands.proofs.RunLemmas.{completes_always}
use Rattle.commands.proofs.in_memory.run_in_memory.Goals as goal

pub returns-clause-complete : goal.returns-clause-complete
returns-clause-complete g c =
    completes_always g.H.Host.meaning _ _ _ no_rise no_rise no_rise (λ link. refl) c.run.ensures.complete
