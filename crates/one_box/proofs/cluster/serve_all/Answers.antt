use Rattle.std.proofs.Common.{◌≡◌, ◌∙◌, refl, rules}
use Rattle.nop_types.specs.Checkpoints.{KeepsTo}
use Rattle.outside.proofs.Counts.{counts_none}
use Rattle.one_box.specs.Attaching.{lost_by}
use Rattle.one_box.specs.Showing.{course_of, links_of}
use Rattle.one_box.proofs.ClusterLemmas.{run_ends, ends_early, caused, no_run, never_link, never_written, other_error, all_back}
use Rattle.one_box.proofs.cluster.serve_all.Goals as goal

pub returns-in-Ok-ran-clause-ends : goal.returns-in-Ok-ran-clause-ends
returns-in-Ok-ran-clause-ends g c =
    let v = links_of g.P.L.Link in
    let keeps : KeepsTo g.H.Host.meaning g.H.Host.is_sound = search (g.met.H.Host) in
    let xs = c.run_turns-ran.new.nodes.items in
    let lost_is : c.lost_by-lost.result ≡ lost_by xs = search rules in
    run_ends g.H.Host.meaning v c.args.config c.args.ops.now c.args.base c.args.turns (g.P.Ports.to_come c.args.ports.now)
    (g.C.Clock.values c.args.clock.now) (g.P.Ports.detached c.args.ports.now) (g.P.Ports.detached c.detach_all.new.ports)
    g.H.Host.is_sound keeps c.replicas.ensures.limits (course_of c.run_turns-ran.new.course) c.in-Ok-ran.taken c.lost_by-lost.result xs
    (g.P.Ports.detached c.run_turns-ran.new.ports) c.in-Ok-ran.ensures.runs c.in-Ok-ran.ensures.few lost_is c.detach_all.ensures.detached
    c.requires.form c.write_run.result (g.K.Sink.held c.args.sink.now) (g.K.Sink.held c.write_run.new.sink) c.write_run.ensures.means
    c.write_run.ensures.writes

pub returns-in-Ok-ran-clause-link : goal.returns-in-Ok-ran-clause-link
returns-in-Ok-ran-clause-link g c = λ is. absurd (never_link _ _ c.write_run.result _ _ c.write_run.ensures.writes is)

pub returns-in-Ok-ran-clause-none : goal.returns-in-Ok-ran-clause-none
returns-in-Ok-ran-clause-none g c = λ is. absurd (never_link _ _ c.write_run.result _ _ c.write_run.ensures.writes is)

pub returns-clause-ends : goal.returns-clause-ends
returns-clause-ends g c =
    let v = links_of g.P.L.Link in
    ends_early g.H.Host.meaning v c.args.config c.args.ops.now c.args.base c.args.turns (g.P.Ports.to_come c.args.ports.now)
    (g.C.Clock.values c.args.clock.now) (g.P.Ports.detached c.args.ports.now) (g.P.Ports.detached c.detach_all.new.ports) c.in-Err.e
    c.error_of.result (g.K.Sink.held c.args.sink.now) c.error_of.ensures

pub returns-clause-link : goal.returns-clause-link
returns-clause-link g c =
    let v = links_of g.P.L.Link in
    caused g.H.Host.meaning v c.args.config c.args.ops.now c.args.base c.args.turns (g.P.Ports.to_come c.args.ports.now)
    (g.C.Clock.values c.args.clock.now) (g.P.Ports.detached c.args.ports.now) (g.P.Ports.detached c.detach_all.new.ports)
    (g.P.Ports.fault_count c.args.ports.now) (g.P.Ports.fault_count c.run_turns-ran.new.ports)
    (g.P.Ports.fault_count c.detach_all.new.ports) (g.P.Ports.detached c.run_turns-ran.new.ports) (course_of c.run_turns-ran.new.course)
    c.run_turns-ran.new.nodes.items c.in-Err.e c.error_of.result c.error_of.ensures c.detach_all.ensures.faults
    c.in-Err.ensures.runs c.detach_all.ensures.detached

pub returns-clause-none : goal.returns-clause-none
returns-clause-none g c =
    let v = links_of g.P.L.Link in
    no_run g.H.Host.meaning v c.args.config c.args.ops.now c.args.base c.args.turns (g.P.Ports.to_come c.args.ports.now)
    (g.C.Clock.values c.args.clock.now) (g.P.Ports.detached c.args.ports.now) (g.P.Ports.detached c.detach_all.new.ports)
    (g.P.Ports.fault_count c.args.ports.now) (g.P.Ports.fault_count c.run_turns-ran.new.ports)
    (g.P.Ports.fault_count c.detach_all.new.ports) (g.P.Ports.detached c.run_turns-ran.new.ports) (course_of c.run_turns-ran.new.course)
    c.run_turns-ran.new.nodes.items c.in-Err.e c.error_of.result c.error_of.ensures c.detach_all.ensures.faults
    c.in-Err.ensures.runs

pub returns-clause-writes : goal.returns-clause-writes
returns-clause-writes g c = counts_none _ _ _ refl (never_written c.in-Err.e c.error_of.result c.error_of.ensures)

pub detach_all-requires : goal.detach_all-requires
detach_all-requires g c = c.run_turns-ran.ensures.room

pub write_run-requires-clause-lines : goal.write_run-requires-clause-lines
write_run-requires-clause-lines g c = c.in-Ok-ran.ensures.runs.led.spelled

pub returns-in-Ok-ran-clause-back : goal.returns-in-Ok-ran-clause-back
returns-in-Ok-ran-clause-back g c =
    all_back (g.P.Ports.attached c.args.ports.now) (g.P.Ports.attached c.run_turns-ran.new.ports)
    (g.P.Ports.attached c.detach_all.new.ports) (g.P.Ports.detached c.args.ports.now) (g.P.Ports.detached c.run_turns-ran.new.ports)
    (g.P.Ports.detached c.detach_all.new.ports) c.run_turns-ran.new.nodes.items c.run_turns-ran.ensures.holds
    c.detach_all.ensures.attached c.detach_all.ensures.detached

pub returns-clause-back : goal.returns-clause-back
returns-clause-back g c =
    all_back (g.P.Ports.attached c.args.ports.now) (g.P.Ports.attached c.run_turns-ran.new.ports)
    (g.P.Ports.attached c.detach_all.new.ports) (g.P.Ports.detached c.args.ports.now) (g.P.Ports.detached c.run_turns-ran.new.ports)
    (g.P.Ports.detached c.detach_all.new.ports) c.run_turns-ran.new.nodes.items c.run_turns-ran.ensures.holds
    c.detach_all.ensures.attached c.detach_all.ensures.detached

pub returns-clause-attaches : goal.returns-clause-attaches
returns-clause-attaches g c = λ other. c.detach_all.ensures.faults ∙ c.in-Err.ensures.attaches (other_error c.in-Err.e c.error_of.result
    c.error_of.ensures other)
