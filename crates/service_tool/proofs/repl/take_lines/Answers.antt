use Rattle.std.proofs.Common.{rules, ◌≡◌, ◌∙◌, refl, sym, subst, take, true, false}
use Rattle.service_tool.specs.Repl.{goes_on}
use Rattle.service_tool.specs.Outputs.{outputs}
use Rattle.service_tool.specs.Statuses.{IsOfCall}
use Rattle.service_tool.proofs.CallLemmas.{of_call_worse}
use Rattle.service_tool.proofs.FaultLemmas.{stays}
use Rattle.service_tool.proofs.ReplLemmas.{at_end, at_fault, at_long, next, read_on, stays_open, stops, took_none}
use Rattle.service_tool.proofs.repl.take_lines.Goals as goal

pub loop-first-init : goal.loop-first-init
loop-first-init g c =
    record {
      most = rw c.new-lines.ensures refl;
      so_far =
          rw c.new-lines.ensures (took_none g.T.OpText.op_of g.T.OpText.result_words c.args.tool.now c.args.manner.slot
          (g.S.Source.left c.args.source.now) c.args.session.now.core.state (g.K.Sink.held c.args.out.now) (g.E.Sink.held c.args.err.now));
      has_not_ended = c.requires;
      faults = search rules;
      status = tt;
      source = refl {a = g.S.Source.fault_count c.args.source.now};
    }

pub returns-in-Ok-None-clause-takes : goal.returns-in-Ok-None-clause-takes
returns-in-Ok-None-clause-takes g c =
    let l = c.loop-first in
    let s = c.args.session.now.core.state in
    let left = g.S.Source.left in
    let o = outputs (g.K.Sink.held c.args.out.now) (g.K.Sink.held l.out) (g.E.Sink.held c.args.err.now) (g.E.Sink.held l.err) in
    let so_far = read_on g.T.OpText.op_of g.T.OpText.result_words c.args.tool.now c.args.manner.slot (left c.args.source.now) (left l.source)
    (left c.next_line.new.source) s l.session.core.state o l.lines c.next_line.new.self l.status l.invariant.so_far c.in-Ok-None.ensures.takes in
    at_end g.T.OpText.op_of g.T.OpText.result_words c.args.tool.now c.args.manner.slot (left c.args.source.now) (left c.next_line.new.source) s
    l.session.core.state o c.next_line.new.self l.status so_far (rw c.in-Ok-None.field-0-is at c.in-Ok-None.ensures.first)

pub returns-in-Err-clause-takes : goal.returns-in-Err-clause-takes
returns-in-Err-clause-takes g c =
    let l = c.loop-first in
    let s = c.args.session.now.core.state in
    let left = g.S.Source.left in
    let o = outputs (g.K.Sink.held c.args.out.now) (g.K.Sink.held l.out) (g.E.Sink.held c.args.err.now) (g.E.Sink.held l.err) in
    let so_far = read_on g.T.OpText.op_of g.T.OpText.result_words c.args.tool.now c.args.manner.slot (left c.args.source.now) (left l.source)
    (left c.next_line.new.source) s l.session.core.state o l.lines c.next_line.new.self l.status l.invariant.so_far c.in-Err.ensures.takes in
    rw c.worse.ensures (at_fault g.T.OpText.op_of g.T.OpText.result_words c.args.tool.now c.args.manner.slot (left c.args.source.now)
    (left c.next_line.new.source) s l.session.core.state o c.next_line.new.self l.status so_far c.in-Err.e (g.E.Sink.held c.tell.new.err)
    c.from.result c.in-Err.ensures.none_left c.from.ensures (rw c.read_text.ensures at c.in_ok-tell-in-Err.ensures.ok))

pub returns-then-is_too_much-clause-takes : goal.returns-then-is_too_much-clause-takes
returns-then-is_too_much-clause-takes g c =
    let l = c.loop-first in
    let s = c.args.session.now.core.state in
    let left = g.S.Source.left in
    let o = outputs (g.K.Sink.held c.args.out.now) (g.K.Sink.held l.out) (g.E.Sink.held c.args.err.now) (g.E.Sink.held l.err) in
    let so_far = read_on g.T.OpText.op_of g.T.OpText.result_words c.args.tool.now c.args.manner.slot (left c.args.source.now) (left l.source)
    (left c.next_line.new.source) s l.session.core.state o l.lines c.next_line.new.self l.status l.invariant.so_far c.in-Ok-Some.ensures.takes in
    rw c.worse-then-is_too_much.ensures (at_long g.T.OpText.op_of g.T.OpText.result_words c.args.tool.now c.args.manner.slot
    (left c.args.source.now) (left c.next_line.new.source) s l.session.core.state o c.next_line.new.self l.status so_far c.in-Ok-Some.first
    (g.E.Sink.held c.refuse.new.err) c.in_ok-ended.ended (rw c.in-Ok-Some.field-0-is at c.in-Ok-Some.ensures.first)
    (rw (c.if-is_too_much.true, c.line.ensures.value) at c.is_too_much.ensures) c.in_ok-ended.ensures.tells.0 c.in_ok-ended.ensures.tells.1.0)

pub returns-then-not-goes_on-clause-takes : goal.returns-then-not-goes_on-clause-takes
returns-then-not-goes_on-clause-takes g c =
    let l = c.loop-first in
    let s = c.args.session.now.core.state in
    let left = g.S.Source.left in
    let o = outputs (g.K.Sink.held c.args.out.now) (g.K.Sink.held l.out) (g.E.Sink.held c.args.err.now) (g.E.Sink.held l.err) in
    let so_far = read_on g.T.OpText.op_of g.T.OpText.result_words c.args.tool.now c.args.manner.slot (left c.args.source.now) (left l.source)
    (left c.next_line.new.source) s l.session.core.state o l.lines c.next_line.new.self l.status l.invariant.so_far c.in-Ok-Some.ensures.takes in
    let ended = c.in_ok-ended-2.ended in
    let on = c.goes_on.ensures in
    let test = c.if-not-goes_on.true in
    let last : goes_on ended ≡ false = cc in
    rw c.worse-status.ensures (stops g.T.OpText.op_of g.T.OpText.result_words c.args.tool.now c.args.manner.slot (left c.args.source.now)
    (left c.next_line.new.source) s l.session.core.state o c.next_line.new.self l.status so_far c.in-Ok-Some.first
    (rw c.in-Ok-Some.field-0-is at c.in-Ok-Some.ensures.first) c.take_line.new.session.core.state c.take_line.new.session.ended
    (g.K.Sink.held c.take_line.new.out) (g.E.Sink.held c.take_line.new.err) ended
    (rw c.text-line.ensures at c.in_ok-ended-2.ensures.takes l.invariant.has_not_ended) last)

pub loop-first-preserved : goal.loop-first-preserved
loop-first-preserved g c =
    let l = c.loop-first in
    let s = c.args.session.now.core.state in
    let left = g.S.Source.left in
    let o = outputs (g.K.Sink.held c.args.out.now) (g.K.Sink.held l.out) (g.E.Sink.held c.args.err.now) (g.E.Sink.held l.err) in
    let so_far = read_on g.T.OpText.op_of g.T.OpText.result_words c.args.tool.now c.args.manner.slot (left c.args.source.now) (left l.source)
    (left c.next_line.new.source) s l.session.core.state o l.lines c.next_line.new.self l.status l.invariant.so_far c.in-Ok-Some.ensures.takes in
    let ended = c.in_ok-ended-2.ended in
    let on = c.goes_on.ensures in
    let test = c.if-not-goes_on.false in
    let more : goes_on ended ≡ true = cc in
    let few = rw (c.if-is_too_much.false, c.line.ensures.value) at c.is_too_much.ensures in
    let takes = rw c.text-line.ensures at c.in_ok-ended-2.ensures.takes l.invariant.has_not_ended in
    record {
      most = c.take.ensures.most ∙ (c.in-Ok-Some.ensures.takes.grows.most ∙ l.invariant.most);
      so_far =
          rw c.worse-status.ensures (next g.T.OpText.op_of g.T.OpText.result_words c.args.tool.now c.args.manner.slot (left c.args.source.now)
          (left c.next_line.new.source) s l.session.core.state o c.next_line.new.self l.status so_far c.in-Ok-Some.first
          (rw c.in-Ok-Some.field-0-is at c.in-Ok-Some.ensures.first) c.take_line.new.session.core.state c.take_line.new.session.ended
          (g.K.Sink.held c.take_line.new.out) (g.E.Sink.held c.take_line.new.err) ended c.take.new.self (record {
            fits = few.0;
            short = few.1;
            most = c.take.ensures.most;
            line = c.take.ensures.line;
            pending = c.take.ensures.pending;
            ended = c.take.ensures.ended;
          }) takes more);
      has_not_ended = stays_open g.T.OpText.op_of g.T.OpText.result_words c.args.tool.now c.args.manner.slot (take c.in-Ok-Some.first.len
          c.next_line.new.self.pending) l.session.core.state c.take_line.new.session.core.state c.take_line.new.session.ended
          (outputs (g.K.Sink.held l.out) (g.K.Sink.held c.take_line.new.out) (g.E.Sink.held l.err) (g.E.Sink.held c.take_line.new.err)) ended
          takes more;
      faults = (c.in_ok-ended-2.ensures.faults.0 ∙ l.invariant.faults.0, c.in_ok-ended-2.ensures.faults.1 ∙ l.invariant.faults.1);
      status = subst IsOfCall (sym c.worse-status.ensures) (of_call_worse l.status ended l.invariant.status c.in_ok-ended-2.ensures.status);
      source = stays _ _ _ _ c.in-Ok-Some.ensures.count ∙ l.invariant.source;
    }
