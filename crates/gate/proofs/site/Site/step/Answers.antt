use Rattle.std.proofs.Common.{◌≡◌, rules}
use Rattle.gate_core.specs.Gates.{next}
use Rattle.gate.specs.Sides.{links_seen, side, users_seen}
use Rattle.gate.proofs.Running.{nothing_done, steps_all}
use Rattle.gate.proofs.site.Site.step.Goals as goal

pub returns-in-Ok : goal.returns-in-Ok
returns-in-Ok g c =
    let acts : c.step.new.acts.items ≡ (next c.args.self.now.state c.args.event).1 = search rules in
    steps_all c.args.event c.args.self.now.state c.step.new.self (users_seen g.U.Users c.args.users.now)
    (links_seen g.L.Link c.args.self.now.lines) c.carry_out_all.result c.step.new.acts.items
    (side g.L.Link g.U.Users c.carry_out_all.new.self c.carry_out_all.new.users) c.in-Ok.ensures.state acts
    c.carry_out_all.ensures.makes c.carry_out_all.ensures.state

pub returns-in-Err : goal.returns-in-Err
returns-in-Err g c =
    nothing_done c.args.event c.args.self.now.state c.step.new.self (users_seen g.U.Users c.args.users.now)
    (links_seen g.L.Link c.args.self.now.lines)
