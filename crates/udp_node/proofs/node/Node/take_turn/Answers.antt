use Rattle.std.proofs.Common.{refl, ap, ◌∙◌, Err}
use Rattle.outside.proofs.Counts.{counts_none, counts_as, counts_then}
use Rattle.udp_node.specs.Nodes.{asks_of}
use Rattle.udp_node.proofs.NodeLemmas.{no_poll_reported, write_reported}
use Rattle.udp_node.proofs.TurnLemmas.{stopped_firing, packet_turn, packet_stops, short_turn, silent_turn, failed_turn}
use Rattle.udp_node.proofs.node.Node.take_turn.Goals as goal

pub returns-in-Err-clause-turn : goal.returns-in-Err-clause-turn
returns-in-Err-clause-turn g c =
    rw c.error_of.ensures (stopped_firing g.C.Core.next (asks_of c.args.self.now) _ (g.C.Core.state c.fire_due.new.self.core.now) c.args.now
    c.args.timers.now.items c.args.timers.now.items _ (g.L.Link.answers c.fire_due.new.self.link.now) _ _ _ _ _
    (rw c.deref.ensures.value at c.in-Err.ensures.runs))

pub returns-in-Ok-None-clause-turn : goal.returns-in-Ok-None-clause-turn
returns-in-Ok-None-clause-turn g c =
    silent_turn g.C.Core.next (asks_of c.args.self.now) _ _ c.args.now c.args.timers.now.items _ _ _ _ _ _ _ _ _
    (rw c.deref.ensures.value at c.in-Ok.ensures.runs) c.in-Ok.ensures.unpolled.answers
    (rw c.in-Ok-None.field-0-is at c.in-Ok-None.ensures.answer) c.in-Ok-None.ensures.polls c.rearm_due.ensures

pub returns-in-Ok-take_packet-clause-turn : goal.returns-in-Ok-take_packet-clause-turn
returns-in-Ok-take_packet-clause-turn g c =
    packet_turn g.C.Core.next (asks_of c.args.self.now) _ _ _ c.args.now c.args.timers.now.items _ _ _ _ _ _ _ _ _ _ _ _ _ _
    (rw c.deref.ensures.value at c.in-Ok.ensures.runs) c.in-Ok.ensures.unpolled.answers
    (rw c.in-Ok-Some.field-0-is at c.in-Ok-Some.ensures.answer) c.in-Ok-Some.ensures.polls c.rearm_due.ensures refl
    (rw (c.in-Ok.ensures.same.at, c.in-Ok.ensures.same.trace) at c.in-Ok-take_packet.ensures.runs) c.in-Ok-take_packet.ensures.unpolled.answers

pub returns-in-Err-take_packet-clause-turn : goal.returns-in-Err-take_packet-clause-turn
returns-in-Err-take_packet-clause-turn g c =
    rw c.error_of-in-Err-take_packet.ensures (packet_stops g.C.Core.next (asks_of c.args.self.now) _ _
    (g.C.Core.state c.take_packet.new.self.core.now) c.args.now c.args.timers.now.items c.rearm_due.new.timers.items _ _ _ _ _ _ c.in-Err-take_packet.e _ _ _ _ _ _ _
    (rw c.deref.ensures.value at c.in-Ok.ensures.runs) c.in-Ok.ensures.unpolled.answers
    (rw c.in-Ok-Some.field-0-is at c.in-Ok-Some.ensures.answer) c.in-Ok-Some.ensures.polls refl
    (rw (c.in-Ok.ensures.same.at, c.in-Ok.ensures.same.trace) at c.in-Err-take_packet.ensures.runs) c.in-Err-take_packet.ensures.unpolled.answers)

pub returns-in-Err-Failed-clause-turn : goal.returns-in-Err-Failed-clause-turn
returns-in-Err-Failed-clause-turn g c =
    failed_turn g.C.Core.next (asks_of c.args.self.now) _ _ c.args.now c.args.timers.now.items _ _ _ _ _ _ _ _
    (rw c.deref.ensures.value at c.in-Ok.ensures.runs) c.in-Ok.ensures.unpolled.answers
    (rw c.in-Err-Failed.field-0-is at c.in-Err-Failed.ensures.answer)
    (rw c.in-Err-Failed.field-0-is at c.in-Err-Failed.ensures.polls)

pub returns-in-Err-NoMemory-clause-turn : goal.returns-in-Err-NoMemory-clause-turn
returns-in-Err-NoMemory-clause-turn g c =
    short_turn g.C.Core.next (asks_of c.args.self.now) _ _ c.args.now c.args.timers.now.items _ _ _ _ _ _
    (rw c.deref.ensures.value at c.in-Ok.ensures.runs) (rw c.in-Err-NoMemory.field-0-is at c.in-Err-NoMemory.ensures.polls)

pub returns-in-Err-clause-faults : goal.returns-in-Err-clause-faults
returns-in-Err-clause-faults g c = record {
  polls = no_poll_reported _ _ _ _ c.error_of.ensures c.in-Err.ensures.unpolled.faults;
  writes = write_reported _ _ _ _ c.error_of.ensures c.in-Err.ensures.count;
}

pub returns-in-Ok-None-clause-faults : goal.returns-in-Ok-None-clause-faults
returns-in-Ok-None-clause-faults g c = record {
  polls = counts_none _ _ _ (c.in-Ok-None.ensures.count.others (λ failed. cc) ∙ c.in-Ok.ensures.unpolled.faults) (λ failed. cc);
  writes = counts_none _ _ _ (c.in-Ok.ensures.count.others (λ failed. cc)) (λ failed. cc);
}

pub returns-in-Ok-take_packet-clause-faults : goal.returns-in-Ok-take_packet-clause-faults
returns-in-Ok-take_packet-clause-faults g c = record {
  polls = counts_none _ _ _ (c.in-Ok-take_packet.ensures.unpolled.faults ∙ c.in-Ok-Some.ensures.count.others (λ failed. cc)
      ∙ c.in-Ok.ensures.unpolled.faults) (λ failed. cc);
  writes = counts_none _ _ _ (c.in-Ok-take_packet.ensures.count.others (λ failed. cc) ∙ c.in-Ok.ensures.count.others (λ failed. cc))
      (λ failed. cc);
}

pub returns-in-Err-take_packet-clause-faults : goal.returns-in-Err-take_packet-clause-faults
returns-in-Err-take_packet-clause-faults g c = record {
  polls = no_poll_reported _ _ _ _ c.error_of-in-Err-take_packet.ensures (c.in-Err-take_packet.ensures.unpolled.faults
      ∙ c.in-Ok-Some.ensures.count.others (λ failed. cc) ∙ c.in-Ok.ensures.unpolled.faults);
  writes = write_reported _ _ _ _ c.error_of-in-Err-take_packet.ensures
      (counts_then _ _ _ _ (c.in-Ok.ensures.count.others (λ failed. cc)) c.in-Err-take_packet.ensures.count);
}

pub returns-in-Err-Failed-clause-faults : goal.returns-in-Err-Failed-clause-faults
returns-in-Err-Failed-clause-faults g c = record {
  polls = counts_then _ _ _ _ c.in-Ok.ensures.unpolled.faults
      (counts_as _ _ _ _ (λ failed. refl) (λ failed. ap Err c.in-Err-Failed.field-0-is) c.in-Err-Failed.ensures.count);
  writes = counts_none _ _ _ (c.in-Ok.ensures.count.others (λ failed. cc)) (λ failed. cc);
}

pub returns-in-Err-NoMemory-clause-faults : goal.returns-in-Err-NoMemory-clause-faults
returns-in-Err-NoMemory-clause-faults g c = record {
  polls = counts_none _ _ _ (c.in-Err-NoMemory.ensures.count.others (λ failed. cc) ∙ c.in-Ok.ensures.unpolled.faults) (λ failed. cc);
  writes = counts_none _ _ _ (c.in-Ok.ensures.count.others (λ failed. cc)) (λ failed. cc);
}
