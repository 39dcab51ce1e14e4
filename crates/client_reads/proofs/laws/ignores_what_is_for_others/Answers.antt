use Rattle.client_reads.proofs.Ignoring.{ignores_packet, ignores_tick, ignores_op}
use Rattle.client_reads.proofs.laws.ignores_what_is_for_others.Goals as goal

pub returns-clause-packets : goal.returns-clause-packets
returns-clause-packets c = ignores_packet

pub returns-clause-ticks : goal.returns-clause-ticks
returns-clause-ticks c = ignores_tick

pub returns-clause-ops : goal.returns-clause-ops
returns-clause-ops c = ignores_op
