use Rattle.nop_types.specs.Checkpoints.{KeepsTo}
use Rattle.execution_laws.proofs.Saving.{checkpoint_host_fits, checkpoint_clients_fit, checkpoint_results_fit}
use Rattle.execution_laws.proofs.checkpoints.checkpoints_fit.Goals as goal

pub returns-clause-host : goal.returns-clause-host
returns-clause-host g c =
    let keeps : KeepsTo g.H.Host.meaning g.H.Host.is_sound = search (g.met.H.Host) in checkpoint_host_fits g.H.Host.meaning g.H.Host.is_sound keeps

pub returns-clause-clients : goal.returns-clause-clients
returns-clause-clients g c = checkpoint_clients_fit g.H.Host.meaning

pub returns-clause-results : goal.returns-clause-results
returns-clause-results g c =
    let keeps : KeepsTo g.H.Host.meaning g.H.Host.is_sound = search (g.met.H.Host) in checkpoint_results_fit g.H.Host.meaning g.H.Host.is_sound keeps
