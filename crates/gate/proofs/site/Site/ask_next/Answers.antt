use Rattle.std.proofs.Common.{ap, false}
use Rattle.std.specs.Prelude.{Ok}
use Rattle.gate_core.specs.declared.act.Event.TheVariants as events
use Rattle.gate.specs.Sides.{links_seen, side, users_seen}
use Rattle.gate.proofs.Running.{ran_same, runs_from, took_inside}
use Rattle.gate.proofs.site.Site.ask_next.Goals as goal

pub returns-in-None : goal.returns-in-None
returns-in-None g c =
    let us = users_seen g.U.Users c.args.users.now in
    runs_from (Ok false) c.args.self.now.state c.next_reader.new.self.state us (links_seen g.L.Link c.args.self.now.lines)
    (links_seen g.L.Link c.next_reader.new.self.lines) _ c.next_reader.ensures.state
    (ap (λ z. links_seen g.L.Link z) c.next_reader.ensures.lines) (ran_same _)

pub returns-in-Some : goal.returns-in-Some
returns-in-Some g c =
    let us = users_seen g.U.Users c.args.users.now in
    let a = side g.L.Link g.U.Users c.next_reader.new.self c.args.users.now in
    runs_from c.take_step.result c.args.self.now.state c.next_reader.new.self.state us (links_seen g.L.Link c.args.self.now.lines)
    (links_seen g.L.Link c.next_reader.new.self.lines) _ c.next_reader.ensures.state
    (ap (λ z. links_seen g.L.Link z) c.next_reader.ensures.lines)
    (c.take_step.ensures a (took_inside (events.Ask c.args.core c.observer_of-observer.result c.in-Some.user) a tt))
