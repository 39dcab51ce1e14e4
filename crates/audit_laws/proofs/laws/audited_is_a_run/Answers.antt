use Rattle.nop_types.specs.Checkpoints.{KeepsTo}
use Rattle.audit_laws.proofs.Running.{audited_steps, audits_run, audits_safe, audits_legal, steps_pass}
use Rattle.audit_laws.proofs.laws.audited_is_a_run.Goals as goal

pub returns-clause-steps : goal.returns-clause-steps
returns-clause-steps g c = audited_steps g.H.Host.meaning

pub returns-clause-again : goal.returns-clause-again
returns-clause-again g c = steps_pass g.H.Host.meaning

pub returns-clause-run : goal.returns-clause-run
returns-clause-run g c = audits_run g.H.Host.meaning

pub returns-clause-safe : goal.returns-clause-safe
returns-clause-safe g c =
    let keeps : KeepsTo g.H.Host.meaning g.H.Host.is_sound = search (g.met.H.Host) in
    audits_safe g.H.Host.meaning g.H.Host.is_sound keeps

pub returns-clause-claims : goal.returns-clause-claims
returns-clause-claims g c =
    let keeps : KeepsTo g.H.Host.meaning g.H.Host.is_sound = search (g.met.H.Host) in
    audits_legal g.H.Host.meaning g.H.Host.is_sound keeps
