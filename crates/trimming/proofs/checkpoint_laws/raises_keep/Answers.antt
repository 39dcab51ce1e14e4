use Rattle.nop_types.specs.Checkpoints.{KeepsTo}
use Rattle.trimming.proofs.Executions.{raised_loads, raise_keeps_length, raise_keeps_entry, raise_keeps_executed, raise_keeps_result}
use Rattle.trimming.proofs.checkpoint_laws.raises_keep.Goals as goal

pub returns-clause-loads : goal.returns-clause-loads
returns-clause-loads g c =
    let keeps : KeepsTo g.H.Host.meaning g.H.Host.is_sound = search (g.met.H.Host) in raised_loads g.H.Host.meaning g.H.Host.is_sound keeps

pub returns-clause-exec : goal.returns-clause-exec
returns-clause-exec g c =
    let keeps : KeepsTo g.H.Host.meaning g.H.Host.is_sound = search (g.met.H.Host) in raise_keeps_executed g.H.Host.meaning g.H.Host.is_sound keeps

pub returns-clause-results : goal.returns-clause-results
returns-clause-results g c =
    let keeps : KeepsTo g.H.Host.meaning g.H.Host.is_sound = search (g.met.H.Host) in raise_keeps_result g.H.Host.meaning g.H.Host.is_sound keeps

pub returns-clause-length : goal.returns-clause-length
returns-clause-length g c = raise_keeps_length g.H.Host.meaning

pub returns-clause-entry : goal.returns-clause-entry
returns-clause-entry g c = raise_keeps_entry g.H.Host.meaning
