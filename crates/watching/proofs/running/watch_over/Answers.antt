use Rattle.std.proofs.Common.{arith, ◌-◌, refl, sym, ◌∙◌}
use Rattle.outside.proofs.Counts.{counts_alike, counts_none, counts_then}
use Rattle.watching.proofs.Turning.{going_start, turn_goes, turn_shows, turn_fails, turns_end, no_attach}
use Rattle.watching.proofs.running.watch_over.Goals as goal

pub loop-taken-init : goal.loop-taken-init
loop-taken-init g c = record {
  going = going_start _ _ _ _ _ _ c.now-begun.result (c.args.asked.turns - 0) c.in_ok-watch.watch _ (omega arith) c.in_ok-watch.ensures c.now-begun.ensures;
  within = omega arith;
  polls = refl;
  writes = refl;
  port = refl;
}

pub loop-taken-preserved : goal.loop-taken-preserved
loop-taken-preserved g c = record {
  going = turn_goes _ _ _ _ _ _ c.now-begun.result c.args.asked.turns c.loop-taken.taken _ _ _ _ _ c.loop-taken.invariant.going
      c.loop-taken-test.true c.saturating_sub-time.result c.saturating_sub-time.ensures _ _ _ _ _ _ c.in-Ok.ensures.turn
      (sym c.ends.ensures ∙ c.if-ends.false) c.now.ensures c.max-now.ensures;
  within = omega (arith, c.loop-taken-test.true);
  polls = c.in-Ok.ensures.polls.others (λ failed. cc) ∙ c.loop-taken.invariant.polls;
  writes = c.in-Ok.ensures.writes.others (λ failed. cc) ∙ c.loop-taken.invariant.writes;
  port = c.in-Ok.ensures.port ∙ c.loop-taken.invariant.port;
}

pub returns-in-Err-clause-watched : goal.returns-in-Err-clause-watched
returns-in-Err-clause-watched g c =
    turn_fails _ _ _ _ _ _ c.now-begun.result c.args.asked.turns c.loop-taken.taken _ _ _ _ _ c.loop-taken.invariant.going
    c.loop-taken-test.true c.saturating_sub-time.result c.saturating_sub-time.ensures _ _ _ c.in-Err.e c.in-Err.ensures.turn

pub returns-in-Err-clause-attached : goal.returns-in-Err-clause-attached
returns-in-Err-clause-attached g c = λ same. no_attach _ _ _ _ _ _ _ c.in-Err.e c.in-Err.ensures.turn (cc)

pub returns-in-Err-clause-polls : goal.returns-in-Err-clause-polls
returns-in-Err-clause-polls g c = counts_alike _ _ _ _ (counts_then _ _ _ _ c.loop-taken.invariant.polls c.in-Err.ensures.polls)

pub returns-in-Err-clause-writes : goal.returns-in-Err-clause-writes
returns-in-Err-clause-writes g c = counts_alike _ _ _ _ (counts_then _ _ _ _ c.loop-taken.invariant.writes c.in-Err.ensures.writes)

pub returns-in-Err-clause-port : goal.returns-in-Err-clause-port
returns-in-Err-clause-port g c = c.in-Err.ensures.port ∙ c.loop-taken.invariant.port

pub returns-then-ends-clause-watched : goal.returns-then-ends-clause-watched
returns-then-ends-clause-watched g c =
    turn_shows _ _ _ _ _ _ c.now-begun.result c.args.asked.turns c.loop-taken.taken _ _ _ _ _ c.loop-taken.invariant.going
    c.loop-taken-test.true c.saturating_sub-time.result c.saturating_sub-time.ensures _ _ _ _ c.in-Ok.ensures.turn
    (sym c.ends.ensures ∙ c.if-ends.true) (cc)

pub returns-then-ends-clause-polls : goal.returns-then-ends-clause-polls
returns-then-ends-clause-polls g c =
    counts_none _ _ _ (c.in-Ok.ensures.polls.others (λ failed. cc) ∙ c.loop-taken.invariant.polls) (λ failed. cc)

pub returns-then-ends-clause-writes : goal.returns-then-ends-clause-writes
returns-then-ends-clause-writes g c =
    counts_none _ _ _ (c.in-Ok.ensures.writes.others (λ failed. cc) ∙ c.loop-taken.invariant.writes) (λ failed. cc)

pub returns-then-ends-clause-port : goal.returns-then-ends-clause-port
returns-then-ends-clause-port g c = c.in-Ok.ensures.port ∙ c.loop-taken.invariant.port

pub returns-clause-watched : goal.returns-clause-watched
returns-clause-watched g c =
    turns_end _ _ _ _ _ _ c.now-begun.result c.args.asked.turns c.loop-taken.taken _ _ _ _ _ c.loop-taken.invariant.going
    c.loop-taken-test.false _ (cc)

pub returns-clause-polls : goal.returns-clause-polls
returns-clause-polls g c = counts_none _ _ _ c.loop-taken.invariant.polls (λ failed. cc)

pub returns-clause-writes : goal.returns-clause-writes
returns-clause-writes g c = counts_none _ _ _ c.loop-taken.invariant.writes (λ failed. cc)
