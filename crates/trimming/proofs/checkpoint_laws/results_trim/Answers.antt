use Rattle.nop_types.specs.Checkpoints.{KeepsTo}
use Rattle.trimming.proofs.Executions.{no_result_below, result_trims}
use Rattle.trimming.proofs.checkpoint_laws.results_trim.Goals as goal

pub returns-clause-kept : goal.returns-clause-kept
returns-clause-kept g c =
    let keeps : KeepsTo g.H.Host.meaning g.H.Host.is_sound = search (g.met.H.Host) in result_trims g.H.Host.meaning g.H.Host.is_sound keeps

pub returns-clause-below : goal.returns-clause-below
returns-clause-below g c = no_result_below g.H.Host.meaning
