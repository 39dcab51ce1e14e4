use Rattle.std.proofs.Common.{rules, ◌≤◌, ◌+◌, min, option_map, arith, refl}
use Rattle.std.specs.Result.{IfOk}
use Rattle.std.proofs.lemmas.Result.{IfOk-weaker, on_ok_weaker}
use Rattle.nop_types.specs.Given.{given}
use Rattle.udp_node.specs.Effects.{step_effects}
use Rattle.udp_node.specs.NodeRun.{first_inputs}
use Rattle.udp_node.specs.Sends.{side_of, last_count}
use Rattle.outside.proofs.Counts.{counts_then}
use Rattle.udp_node.specs.declared.serving.Served.{Served}
use Rattle.udp_node.proofs.NodeLemmas.{no_poll_reported, write_reported}
use Rattle.udp_node.proofs.FoldLemmas.{took_after}
use Rattle.udp_node.proofs.RunLemmas.{serves_after, serves_stopped, lost_more, lost_joined}
use Rattle.udp_node.proofs.WritingLemmas.{wrote_then, runs_wrote}
use Rattle.udp_node.proofs.serving.serve.Goals as goal

pub returns-in-Ok-clause-run : goal.returns-in-Ok-clause-run
returns-in-Ok-clause-run g c =
    let run =
    serves_after g.C.Core.next g.C.Core.is_done (step_effects c.args.trace c.args.at) (first_inputs (option_map given c.args.first)) g.C.Core.timers c.args.turns _ _
    (g.L.Link.answers c.args.link.now) _ (g.K.Clock.values c.args.clock.now) c.take_turns.result _ _ _ _ _ _
    c.in-Ok.ensures.runs c.in-Ok.ensures.unpolled.answers (rw (c.in-Ok.ensures.same.at, c.in-Ok.ensures.same.trace) at c.take_turns.ensures.turns.run) in
    search (rules, run)

pub returns-in-Err-clause-run : goal.returns-in-Err-clause-run
returns-in-Err-clause-run g c =
    let run =
    serves_stopped g.C.Core.next g.C.Core.is_done (step_effects c.args.trace c.args.at) (first_inputs (option_map given c.args.first)) g.C.Core.timers c.args.turns _
    (g.L.Link.answers c.args.link.now) (g.K.Clock.values c.args.clock.now) c.in-Err.e _ _
    (side_of g.L.Link c.take_first.new.self.link.now 0) _ _
    c.in-Err.ensures.runs refl in
    search (rules, run)

pub returns-in-Ok-clause-lost : goal.returns-in-Ok-clause-lost
returns-in-Ok-clause-lost g c =
    let first = lost_more _ 0 _ _ _ (omega arith) c.in-Ok.ensures.runs.done.sends in
    let all : IfOk c.take_turns.result
    (λ served. min (g.L.Link.loss_count c.args.link.now + served.lost) last_count ≤ g.L.Link.loss_count c.take_turns.new.self.link.now) =
    IfOk-weaker c.take_turns.result _ _ (λ served one. lost_joined _ _ _ _ served.lost first one) c.take_turns.ensures.turns.lost in
    search (rules, all)

pub returns-in-Ok-clause-wrote : goal.returns-in-Ok-clause-wrote
returns-in-Ok-clause-wrote g c =
    let all = wrote_then _ _ _ (runs_wrote _ _ _ _ _ _ _ _ _ _ c.take_first.ensures.runs) c.take_turns.ensures.turns.wrote in
    search (rules, all)

pub returns-in-Err-clause-wrote : goal.returns-in-Err-clause-wrote
returns-in-Err-clause-wrote g c =
    let all = runs_wrote _ _ _ _ _ _ _ _ _ _ c.take_first.ensures.runs in
    search (rules, all)

pub returns-in-Ok-clause-took : goal.returns-in-Ok-clause-took
returns-in-Ok-clause-took g c =
    let all = on_ok_weaker c.take_turns.result (took_after _ _ _ _ _ _ _ _ _ _ _ c.in-Ok.ensures.runs)
    (rw (c.in-Ok.ensures.same.at, c.in-Ok.ensures.same.trace) at c.take_turns.ensures.turns.took) in
    search (rules, all)

pub returns-in-Ok-clause-polls : goal.returns-in-Ok-clause-polls
returns-in-Ok-clause-polls g c =
    let all = counts_then _ _ _ _ c.in-Ok.ensures.unpolled.faults c.take_turns.ensures.faults.polls in
    search (rules, all)

pub returns-in-Ok-clause-writes : goal.returns-in-Ok-clause-writes
returns-in-Ok-clause-writes g c =
    let all = counts_then _ _ _ _ (c.in-Ok.ensures.count.others (λ failed. cc)) c.take_turns.ensures.faults.writes in
    search (rules, all)

pub returns-in-Err-clause-polls : goal.returns-in-Err-clause-polls
returns-in-Err-clause-polls g c =
    let all = no_poll_reported {U = Served} _ _ _ _ c.error_of.ensures c.in-Err.ensures.unpolled.faults in
    search (rules, all)

pub returns-in-Err-clause-writes : goal.returns-in-Err-clause-writes
returns-in-Err-clause-writes g c =
    let all = write_reported {U = Served} _ _ _ _ c.error_of.ensures c.in-Err.ensures.count in
    search (rules, all)
