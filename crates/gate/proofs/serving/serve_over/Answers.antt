use Rattle.gate.specs.Sides.{users_seen}
use Rattle.gate.proofs.ServingLemmas.{count_back, runs_over, same_room}
use Rattle.gate.proofs.serving.serve_over.Goals as goal

pub detach_all-requires : goal.detach_all-requires
detach_all-requires g c =
    same_room g.P.L.Link c.take_turns-served.result c.args.state c.take_turns-served.new.site.state (users_seen g.U.Users c.args.users.now)
    (users_seen g.U.Users c.take_turns-served.new.users) c.args.seats.count c.args.lines.items c.take_turns-served.new.site.lines
    c.take_turns-served.ensures (g.P.Ports.attached c.args.ports.now) (g.P.Ports.detached c.args.ports.now) c.requires

pub returns-clause-runs : goal.returns-clause-runs
returns-clause-runs g c =
    runs_over g.P.L.Link c.take_turns-served.result c.args.state c.take_turns-served.new.site.state (users_seen g.U.Users c.args.users.now)
    (users_seen g.U.Users c.take_turns-served.new.users) c.args.seats.count c.args.lines.items c.take_turns-served.new.site.lines
    c.take_turns-served.ensures (g.P.Ports.detached c.args.ports.now) (g.P.Ports.detached c.detach_all.new.ports)
    c.detach_all.ensures.detached

pub returns-clause-back : goal.returns-clause-back
returns-clause-back g c =
    count_back g.P.L.Link c.take_turns-served.result c.args.state c.take_turns-served.new.site.state (users_seen g.U.Users c.args.users.now)
    (users_seen g.U.Users c.take_turns-served.new.users) c.args.seats.count c.args.lines.items c.take_turns-served.new.site.lines
    c.take_turns-served.ensures (g.P.Ports.detached c.args.ports.now) (g.P.Ports.detached c.detach_all.new.ports)
    c.detach_all.ensures.detached
