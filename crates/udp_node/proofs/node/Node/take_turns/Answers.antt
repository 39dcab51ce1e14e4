use Rattle.std.proofs.Common.{rules, arith, Err, sym, ◌∙◌, refl}
use Rattle.outside.proofs.Counts.{counts_alike, counts_none, counts_then}
use Rattle.udp_node.specs.Nodes.{asks_of, link_side}
use Rattle.udp_node.proofs.FoldLemmas.{took_nothing, took_then, turn_took}
use Rattle.udp_node.proofs.NodeLemmas.{same_then, same_asks}
use Rattle.udp_node.proofs.RunLemmas.{going_start, going_turn, serves_done, serves_err, serves_none, lost_more}
use Rattle.udp_node.proofs.TurnLemmas.{turn_at}
use Rattle.udp_node.proofs.WritingLemmas.{wrote_nothing, wrote_then, turn_wrote}
use Rattle.udp_node.proofs.node.Node.take_turns.Goals as goal

pub returns-in_default-clause-turns : goal.returns-in_default-clause-turns
returns-in_default-clause-turns g c = record {
  run = serves_none g.C.Core.next g.C.Core.is_done (asks_of c.args.self.now) g.C.Core.timers c.args.turns _ (g.L.Link.answers c.args.self.now.link.now)
      (g.K.Clock.values c.args.clock.now) _ _ _ refl;
  took = search rules;
  wrote = wrote_nothing (g.W.Sink.held c.args.self.now.sink.now);
  lost = search rules;
}

pub loop-taken-init : goal.loop-taken-init
loop-taken-init g c = record {
  going = going_start g.C.Core.next g.C.Core.is_done _ g.C.Core.timers c.args.turns _ (g.L.Link.answers c.args.self.now.link.now)
      (g.K.Clock.values c.args.clock.now) (g.K.Clock.values c.now-now.new.self) c.in-Ok.timers.items c.now-now.result _ _
      c.now-now.ensures c.in-Ok.ensures;
  within = omega arith;
  wrote = wrote_nothing (g.W.Sink.held c.args.self.now.sink.now);
  took = took_nothing _ _ _ _;
  lost = omega arith;
  polls = refl;
  writes = refl;
  same = search rules;
}

pub returns-in-Err-clause-turns : goal.returns-in-Err-clause-turns
returns-in-Err-clause-turns g c =
    let turn =
    turn_at {T = Unit {0}} g.C.Core.next _ (asks_of c.args.self.now) (g.C.Core.state c.loop-taken.self.core.now) (g.C.Core.state c.take_turn.new.self.core.now)
    c.loop-taken.now c.loop-taken.timers.items c.take_turn.new.timers.items (g.L.Link.answers c.loop-taken.self.link.now)
    (g.L.Link.answers c.take_turn.new.self.link.now) (Err c.in-Err.e) _ _ _ _ (same_asks g.L.Link _ _ c.loop-taken.invariant.same)
    c.in-Err.ensures.turn in
    record {
      run = serves_err g.C.Core.next g.C.Core.is_done (asks_of c.args.self.now) g.C.Core.timers c.args.turns _ _ _ _ _
          (g.C.Core.state c.take_turn.new.self.core.now) _ c.take_turn.new.timers.items _ _
          (g.L.Link.answers c.take_turn.new.self.link.now) _ _ _ _ _ _ _ _ _ c.loop-taken.invariant.going c.loop-taken-test.true turn refl;
      took = search rules;
      wrote = wrote_then _ _ _ c.loop-taken.invariant.wrote (turn_wrote _ _ _ _ _ _ _ _ _ _ _ _ _ _ c.take_turn.ensures.turn);
      lost = search rules;
    }

pub returns-then-done-clause-turns : goal.returns-then-done-clause-turns
returns-then-done-clause-turns g c =
    let turn = rw (c.loop-taken.invariant.same.at, c.loop-taken.invariant.same.trace) at c.in_default-take_turn.ensures.turn in
    record {
      run = serves_done g.C.Core.next g.C.Core.is_done (asks_of c.args.self.now) g.C.Core.timers c.args.turns _ _ _ _ _ _ _ _ _ _ _ _ _ _ _ _
          _ _ _ c.loop-taken.invariant.going c.loop-taken-test.true turn (sym c.done.ensures ∙ c.if-done.true) refl;
      took = took_then _ _ _ _ _ _ _ _ c.loop-taken.invariant.took (turn_took _ _ _ _ _ _ _ _ _ _ _ _ _ turn);
      wrote = wrote_then _ _ _ c.loop-taken.invariant.wrote (turn_wrote _ _ _ _ _ _ _ _ _ _ _ _ _ _ c.take_turn.ensures.turn);
      lost = lost_more _ _ _ (link_side g.L.Link c.loop-taken.self) (link_side g.L.Link c.take_turn.new.self) c.loop-taken.invariant.lost
          turn.done.sends;
    }

pub loop-taken-preserved : goal.loop-taken-preserved
loop-taken-preserved g c =
    let turn = rw (c.loop-taken.invariant.same.at, c.loop-taken.invariant.same.trace) at c.in_default-take_turn.ensures.turn in
    record {
      going = going_turn g.C.Core.next g.C.Core.is_done (asks_of c.args.self.now) g.C.Core.timers c.args.turns _ _ _ _ _ _ _ _ _ _ _ _ _ _ _ _
          _ _ _ _ _ c.loop-taken.invariant.going c.loop-taken-test.true turn (sym c.done.ensures ∙ c.if-done.false) c.now.ensures
          (search rules);
      within = omega (arith, c.loop-taken-test.true);
      wrote = wrote_then _ _ _ c.loop-taken.invariant.wrote (turn_wrote _ _ _ _ _ _ _ _ _ _ _ _ _ _ c.take_turn.ensures.turn);
      lost = lost_more _ _ _ _ _ c.loop-taken.invariant.lost turn.done.sends;
      took = took_then _ _ _ _ _ _ _ _ c.loop-taken.invariant.took (turn_took _ _ _ _ _ _ _ _ _ _ _ _ _ turn);
      polls = c.in_default-take_turn.ensures.faults.polls.others (λ failed. cc) ∙ c.loop-taken.invariant.polls;
      writes = c.in_default-take_turn.ensures.faults.writes.others (λ failed. cc) ∙ c.loop-taken.invariant.writes;
      same = same_then g.L.Link _ _ _ c.loop-taken.invariant.same c.in_default-take_turn.ensures.same;
    }

pub returns-in-Err-clause-faults : goal.returns-in-Err-clause-faults
returns-in-Err-clause-faults g c = record {
  polls = counts_alike _ _ _ _ (counts_then _ _ _ _ c.loop-taken.invariant.polls c.in-Err.ensures.faults.polls);
  writes = counts_alike _ _ _ _ (counts_then _ _ _ _ c.loop-taken.invariant.writes c.in-Err.ensures.faults.writes);
}

pub returns-then-done-clause-faults : goal.returns-then-done-clause-faults
returns-then-done-clause-faults g c = record {
  polls = counts_none _ _ _ (c.in_default-take_turn.ensures.faults.polls.others (λ failed. cc) ∙ c.loop-taken.invariant.polls) (λ failed. cc);
  writes = counts_none _ _ _ (c.in_default-take_turn.ensures.faults.writes.others (λ failed. cc) ∙ c.loop-taken.invariant.writes) (λ failed. cc);
}

pub returns-clause-faults : goal.returns-clause-faults
returns-clause-faults g c = record {
  polls = counts_none _ _ _ c.loop-taken.invariant.polls (λ failed. cc);
  writes = counts_none _ _ _ c.loop-taken.invariant.writes (λ failed. cc);
}
