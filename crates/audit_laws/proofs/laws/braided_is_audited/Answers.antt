use Rattle.audit_laws.proofs.Braiding.{orders_run, runs_are_causal}
use Rattle.audit_laws.proofs.laws.braided_is_audited.Goals as goal

pub returns-clause-orders : goal.returns-clause-orders
returns-clause-orders g c = orders_run g.H.Host.meaning

pub returns-clause-causal : goal.returns-clause-causal
returns-clause-causal g c = runs_are_causal g.H.Host.meaning
