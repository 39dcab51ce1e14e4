use Rattle.std.proofs.Common.{◌∙◌, Err, arith, rules}
use Rattle.std.proofs.lemmas.Result.{err_from_is_err_and}
use Rattle.replay.proofs.Causes.{no_read, event_reads_none, write_reads_none, end_reads_none, stop_reads}
use Rattle.replay.proofs.Decided.{goes_on, may_go_on, stays_unwritten}
use Rattle.replay.proofs.Progressing.{stopped, finished, advanced, refused_event}
use Rattle.replay.proofs.replayed.take_events.Goals as goal

pub next_event-requires : goal.next_event-requires
next_event-requires g c =
    let m = g.H.Host.meaning in
    let left = g.S.Source.left in
    let held = g.K.Sink.held in
    let w = c.loop-turn.world.state in
    let going = goes_on m g.start (left c.loop-turn.source) (held c.loop-turn.sink) (held c.write_decided.new.sink)
    c.loop-turn.pending.items c.write_decided.new.pending.items c.loop-turn.reader w c.loop-turn.invariant.going
    c.in_ok-write_decided.ensures.gathers in
    let written = may_go_on m g.start (left c.loop-turn.source) (held c.write_decided.new.sink) c.write_decided.new.pending.items
    c.loop-turn.reader w going c.in_ok-write_decided.ensures.written in
    search (rules, written)

pub loop-turn-preserved : goal.loop-turn-preserved
loop-turn-preserved g c =
    let m = g.H.Host.meaning in
    let left = g.S.Source.left in
    let held = g.K.Sink.held in
    let kept = c.loop-turn.invariant in
    let going = goes_on m g.start (left c.loop-turn.source) (held c.loop-turn.sink) (held c.write_decided.new.sink)
    c.loop-turn.pending.items c.write_decided.new.pending.items c.loop-turn.reader c.loop-turn.world.state kept.going
    c.in_ok-write_decided.ensures.gathers in
    record {
      going = record {
        header = going.header;
        going = advanced m g.start.bytes (left c.loop-turn.source) (left c.next_event.new.source) g.start.held
            (held c.write_decided.new.sink) (held c.take_event.new.sink)
            c.write_decided.new.pending.items c.take_event.new.pending.items c.loop-turn.reader c.next_event.new.reader going.header
            c.loop-turn.world.state c.take_event.new.world.state c.in-Ok-Some.event
            going.going (rw c.in-Ok-Some.field-0-is at c.in-Ok-Some.ensures.takes)
            c.in_ok-take_event-in-Ok-Some.ensures.takes;
      };
      opened = rw (c.in-Ok-Some.ensures.header kept.opened) kept.opened;
      lines = let one = (rw c.in-Ok-Some.field-0-is at c.in-Ok-Some.ensures.line) kept.opened in omega (arith, one, kept.lines);
      most = rw (← c.line.ensures.value) c.line.ensures.most;
      reads = c.in-Ok-Some.ensures.count.others (λ is. cc) ∙ kept.reads;
      count = c.in_ok-take_event-in-Ok-Some.ensures.count.others (λ failed. cc) ∙ c.in_ok-write_decided.ensures.count.others (λ failed. cc)
          ∙ kept.count;
    }

pub returns-in_err-write_decided-clause-ends : goal.returns-in_err-write_decided-clause-ends
returns-in_err-write_decided-clause-ends g c =
    let kept = c.loop-turn.invariant in
    let e = c.in_err-write_decided.field-0 in
    let p = err_from_is_err_and c.from_residual.result c.from_residual.ensures.1 in
    rw (p.1, p.2)
    (stays_unwritten g.H.Host.meaning g.start (g.S.Source.left c.loop-turn.source) (g.K.Sink.held c.loop-turn.sink)
    (g.K.Sink.held c.write_decided.new.sink) c.loop-turn.pending.items c.loop-turn.reader c.loop-turn.world.state e.0
    kept.going c.in_err-write_decided.ensures.gathers)

pub returns-in_err-take_event-in-Ok-Some-clause-ends : goal.returns-in_err-take_event-in-Ok-Some-clause-ends
returns-in_err-take_event-in-Ok-Some-clause-ends g c =
    let m = g.H.Host.meaning in
    let left = g.S.Source.left in
    let held = g.K.Sink.held in
    let kept = c.loop-turn.invariant in
    let going = goes_on m g.start (left c.loop-turn.source) (held c.loop-turn.sink) (held c.write_decided.new.sink)
    c.loop-turn.pending.items c.write_decided.new.pending.items c.loop-turn.reader c.loop-turn.world.state kept.going
    c.in_ok-write_decided.ensures.gathers in
    let e = c.in_err-take_event-in-Ok-Some.field-0 in
    let refused = rw c.line.ensures.value at c.in_err-take_event-in-Ok-Some.ensures.takes in
    let p = err_from_is_err_and c.from_residual-in_err-take_event-in-Ok-Some.result c.from_residual-in_err-take_event-in-Ok-Some.ensures.1 in
    rw (p.1, p.2)
    (refused_event m g.start.bytes (left c.loop-turn.source) (left c.next_event.new.source) g.start.held
    (held c.write_decided.new.sink) (held c.take_event.new.sink)
    c.write_decided.new.pending.items c.loop-turn.reader c.next_event.new.reader going.header c.loop-turn.world.state c.in-Ok-Some.event e.0
    going.going (rw c.in-Ok-Some.field-0-is at c.in-Ok-Some.ensures.takes) refused)

pub returns-in-Ok-None-clause-ends : goal.returns-in-Ok-None-clause-ends
returns-in-Ok-None-clause-ends g c =
    let m = g.H.Host.meaning in
    let left = g.S.Source.left in
    let held = g.K.Sink.held in
    let kept = c.loop-turn.invariant in
    let going = goes_on m g.start (left c.loop-turn.source) (held c.loop-turn.sink) (held c.write_decided.new.sink)
    c.loop-turn.pending.items c.write_decided.new.pending.items c.loop-turn.reader c.loop-turn.world.state kept.going
    c.in_ok-write_decided.ensures.gathers in
    finished m g.start.bytes (left c.loop-turn.source) (left c.next_event.new.source) g.start.held (held c.write_decided.new.sink)
    (held c.finish.new.sink)
    c.write_decided.new.pending.items c.loop-turn.reader c.next_event.new.reader going.header c.loop-turn.world.state c.finish.result
    going.going (rw c.in-Ok-None.field-0-is at c.in-Ok-None.ensures.takes) c.finish.ensures.writes

pub returns-in-Err-clause-ends : goal.returns-in-Err-clause-ends
returns-in-Err-clause-ends g c =
    let m = g.H.Host.meaning in
    let left = g.S.Source.left in
    let held = g.K.Sink.held in
    let kept = c.loop-turn.invariant in
    let going = goes_on m g.start (left c.loop-turn.source) (held c.loop-turn.sink) (held c.write_decided.new.sink)
    c.loop-turn.pending.items c.write_decided.new.pending.items c.loop-turn.reader c.loop-turn.world.state kept.going
    c.in_ok-write_decided.ensures.gathers in
    stopped m g.start.bytes (left c.loop-turn.source) (left c.next_event.new.source) g.start.held (held c.write_decided.new.sink)
    (held c.stop.new.sink)
    c.write_decided.new.pending.items c.loop-turn.reader c.next_event.new.reader going.header c.loop-turn.world.state c.in-Err.e
    c.stop.result going.going c.in-Err.ensures.takes c.in-Err.ensures.none_left c.stop.ensures.stops

pub returns-in_err-write_decided-clause-reads : goal.returns-in_err-write_decided-clause-reads
returns-in_err-write_decided-clause-reads g c =
    let e = c.in_err-write_decided.field-0 in
    let p = err_from_is_err_and c.from_residual.result c.from_residual.ensures.1 in
    rw (p.1, p.2)
    (no_read {T = Unit {0}} _ _ (Err e.0) c.loop-turn.invariant.reads
    (λ failed. write_reads_none (g.K.Sink.held c.loop-turn.sink) (g.K.Sink.held c.write_decided.new.sink) c.loop-turn.pending.items e.0
    c.in_err-write_decided.ensures.gathers (let is = failed in cc)))

pub returns-in_err-take_event-in-Ok-Some-clause-reads : goal.returns-in_err-take_event-in-Ok-Some-clause-reads
returns-in_err-take_event-in-Ok-Some-clause-reads g c =
    let held = g.K.Sink.held in
    let e = c.in_err-take_event-in-Ok-Some.field-0 in
    let p = err_from_is_err_and c.from_residual-in_err-take_event-in-Ok-Some.result c.from_residual-in_err-take_event-in-Ok-Some.ensures.1 in
    rw (p.1, p.2)
    (no_read {T = Unit {0}} _ _ (Err e.0) (c.in-Ok-Some.ensures.count.others (λ is. cc) ∙ c.loop-turn.invariant.reads)
    (λ failed. event_reads_none (held c.write_decided.new.sink) (held c.take_event.new.sink) c.write_decided.new.pending.items c.line.result
    _ e.0 c.in_err-take_event-in-Ok-Some.ensures.takes (let is = failed in cc)))

pub returns-in-Ok-None-clause-reads : goal.returns-in-Ok-None-clause-reads
returns-in-Ok-None-clause-reads g c =
    no_read _ _ c.finish.result (c.in-Ok-None.ensures.count.others (λ is. cc) ∙ c.loop-turn.invariant.reads)
    (end_reads_none _ _ _ c.finish.result c.finish.ensures.writes)

pub returns-in-Err-clause-reads : goal.returns-in-Err-clause-reads
returns-in-Err-clause-reads g c =
    stop_reads _ _ _ c.in-Err.e c.stop.result _ _ _ c.stop.ensures.stops c.loop-turn.invariant.reads c.in-Err.ensures.count
