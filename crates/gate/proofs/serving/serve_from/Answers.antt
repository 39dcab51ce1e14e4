use Rattle.std.proofs.Common.{◌≡◌, ◌+◌, ◌∙◌, ap, arith, length, length-append, map, subst, sym, ℕ, Err}
use Rattle.std.proofs.lemmas.List.{length-map}
use Rattle.outside.proofs.Counts.{counts_none}
use Rattle.outside.specs.Causes.{CountsFor}
use Rattle.outside.specs.declared.errors.DeviceError.TheVariants as devices
use Rattle.gate.specs.Attaching.{seat_count}
use Rattle.gate.specs.Sides.{lines_seen, users_seen, seen}
use Rattle.gate.proofs.AttachingLemmas.{are_new}
use Rattle.gate.proofs.ServingLemmas.{over_no_port_fault, port_counts, served, unserved}
use Rattle.gate.proofs.serving.serve_from.Goals as goal

pub returns-in-Ok-attach_all-clause-serves : goal.returns-in-Ok-attach_all-clause-serves
returns-in-Ok-attach_all-clause-serves g c =
    let links = c.attach_all.new.links.items in
    served g.P.L.Link c.args.state c.args.seats.observer c.args.seats.count (g.P.Ports.to_come c.args.ports.now) c.serve_over.result (users_seen g.U.Users c.args.users.now)
    (users_seen g.U.Users c.serve_over.new.users) (g.P.Ports.detached c.args.ports.now) (g.P.Ports.detached c.attach_all.new.ports)
    (g.P.Ports.detached c.serve_over.new.ports) (lines_seen g.P.L.Link links)
    (are_new g.P.L.Link c.in-Ok.all.items (seat_count c.args.seats.observer c.args.seats.count) _ _ links c.in-Ok.ensures c.in-Ok-attach_all.ensures.attaches)
    c.in-Ok-attach_all.ensures.attaches.given c.serve_over.ensures.runs

pub returns-in-Ok-attach_all-clause-attaches : goal.returns-in-Ok-attach_all-clause-attaches
returns-in-Ok-attach_all-clause-attaches g c =
    counts_none _ _ _ (c.serve_over.ensures.faults ∙ c.in-Ok-attach_all.ensures.count.others (λ failed. cc))
    (over_no_port_fault g.P.L.Link c.serve_over.result
    (seen c.args.state (users_seen g.U.Users c.args.users.now)
    (record { cores = c.args.seats.count; links = lines_seen g.P.L.Link c.attach_all.new.links.items }))
    (users_seen g.U.Users c.serve_over.new.users) (g.P.Ports.detached c.attach_all.new.ports) (g.P.Ports.detached c.serve_over.new.ports)
    c.serve_over.ensures.runs)

pub returns-in-Ok-attach_all-clause-back : goal.returns-in-Ok-attach_all-clause-back
returns-in-Ok-attach_all-clause-back g c =
    omega (arith, c.in-Ok-attach_all.ensures.holds, c.serve_over.ensures.back, c.serve_over.ensures.attached)

pub returns-in-Err-clause-serves : goal.returns-in-Err-clause-serves
returns-in-Err-clause-serves g c =
    unserved g.P.L.Link c.args.state c.args.seats.observer c.args.seats.count (g.P.Ports.to_come c.args.ports.now) c.in-Err.e c.port_fault.result
    (users_seen g.U.Users c.args.users.now) (g.P.Ports.detached c.args.ports.now) (g.P.Ports.detached c.detach_all.new.ports)
    c.port_fault.ensures

pub returns-in-Err-clause-attaches : goal.returns-in-Err-clause-attaches
returns-in-Err-clause-attaches g c =
    port_counts {T = Unit {0}} {U = Unit {0}} (g.P.Ports.fault_count c.args.ports.now) (g.P.Ports.fault_count c.detach_all.new.ports) c.in-Err.e c.port_fault.result
    c.port_fault.ensures
    (subst (λ (n : ℕ). CountsFor {T = Unit {0}} (g.P.Ports.fault_count c.args.ports.now) n devices.Failed (Err c.in-Err.e))
    (sym c.detach_all.ensures.faults) c.in-Err.ensures.count)

pub returns-in-Err-clause-back : goal.returns-in-Err-clause-back
returns-in-Err-clause-back g c =
    let lines = c.attach_all.new.links.items in
    let given = g.P.Ports.detached c.attach_all.new.ports in
    let count : length (g.P.Ports.detached c.detach_all.new.ports) ≡ length given + length lines =
    ap length c.detach_all.ensures.detached ∙ length-append given (map (λ x. x.link) lines)
    ∙ ap (λ (n : ℕ). length given + n) (length-map lines (λ x. x.link)) in
    omega (arith, count, c.in-Err.ensures.holds, c.detach_all.ensures.attached)
