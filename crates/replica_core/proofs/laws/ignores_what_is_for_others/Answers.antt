use Rattle.replica_core.proofs.Ignoring.{ignores_packet, ignores_op, ignores_read, ignores_message}
use Rattle.replica_core.proofs.laws.ignores_what_is_for_others.Goals as goal

pub returns-clause-packets : goal.returns-clause-packets
returns-clause-packets g c = λ m. ignores_packet m

pub returns-clause-ops : goal.returns-clause-ops
returns-clause-ops g c = λ m. ignores_op m

pub returns-clause-reads : goal.returns-clause-reads
returns-clause-reads g c = λ m. ignores_read m

pub returns-clause-messages : goal.returns-clause-messages
returns-clause-messages g c = λ m. ignores_message m
