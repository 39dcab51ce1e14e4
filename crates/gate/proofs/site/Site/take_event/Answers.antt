use Rattle.std.proofs.Common.{ap, ◌∷◌, []}
use Rattle.gate_core.specs.declared.act.Event.TheVariants as events
use Rattle.gate.specs.Sides.{links_seen, users_seen}
use Rattle.gate.proofs.Running.{ended_step, nothing_done, took_on}
use Rattle.gate.proofs.site.Site.take_event.Goals as goal

pub returns-in-Ok : goal.returns-in-Ok
returns-in-Ok g c =
    λ before t.
    c.take_step.ensures before
    (took_on (events.User c.args.event ∷ []) before c.args.self.now.state c.make_ready_for.new.self.state (users_seen g.U.Users c.args.users.now)
    (links_seen g.L.Link c.args.self.now.lines) (links_seen g.L.Link c.make_ready_for.new.self.lines)
    c.make_ready_for.ensures.state (ap (λ z. links_seen g.L.Link z) c.make_ready_for.ensures.lines) t)

pub returns-in-Err : goal.returns-in-Err
returns-in-Err g c =
    λ before t.
    let h = c.make_ready_for.new.self.state in
    let us = users_seen g.U.Users c.args.users.now in
    let ys = links_seen g.L.Link c.make_ready_for.new.self.lines in
    ended_step (events.User c.args.event) before _ _
    (took_on (events.User c.args.event ∷ []) before c.args.self.now.state h us (links_seen g.L.Link c.args.self.now.lines) ys
    c.make_ready_for.ensures.state (ap (λ z. links_seen g.L.Link z) c.make_ready_for.ensures.lines) t)
    (nothing_done (events.User c.args.event) h h us ys)
