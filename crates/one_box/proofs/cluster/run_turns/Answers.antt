use Rattle.std.proofs.Common.{◌≡◌, subst, ◌∙◌, ap, List, map}
use Rattle.std.specs.Prelude.{sum}
use Rattle.nop_types.specs.declared.output.Actor.{Actor}
use Rattle.one_box.specs.Attaching.{AttachesAll, place_for}
use Rattle.one_box.specs.ClusterRun.{Course}
use Rattle.one_box.specs.Counting.{part_in, turn_of}
use Rattle.one_box.specs.Showing.{course_of, links_of}
use Rattle.one_box.proofs.Counting.{opening_few}
use Rattle.world.specs.WorldSteps.{WorldState, opening}
use Rattle.one_box.proofs.ClusterLemmas.{turns_run, unattached, attaches_same, holds_same, room_same, holds_none, room_none}
use Rattle.one_box.proofs.cluster.run_turns.Goals as goal

pub returns-in-Ok-attached-clause-runs : goal.returns-in-Ok-attached-clause-runs
returns-in-Ok-attached-clause-runs g c =
    let v = links_of g.P.L.Link in
    let attached = c.in-Ok-attached.ensures.attaches in
    let actors = c.deref.ensures.value ∙ c.in-Ok.ensures in
    turns_run g.H.Host.meaning v c.args.config c.args.ops.now c.args.base c.args.turns c.now-now.result (g.P.Ports.to_come c.args.ports.now)
    (g.C.Clock.values c.args.clock.now) (g.C.Clock.values c.now-now.new.self) (course_of c.args.course.now)
    (course_of c.take_turns.new.course) c.attach_all-attached.new.nodes.items c.take_turns.new.nodes.items c.now-now.ensures
    (subst (λ (all : List Actor). AttachesAll v c.args.base c.args.config c.now-now.result all (g.P.Ports.to_come c.args.ports.now)
    c.attach_all-attached.new.nodes.items) actors attached.observed) c.requires.opens c.take_turns.result
    (g.P.Ports.fault_count c.args.ports.now) (g.P.Ports.fault_count c.attach_all-attached.new.ports)
    (g.P.Ports.detached c.args.ports.now) (g.P.Ports.detached c.attach_all-attached.new.ports) c.take_turns.ensures.observed
    c.take_turns.ensures.runs attached.lost
    (c.take_turns.ensures.places ∙ attached.places ∙ ap (map (place_for c.args.base c.args.config)) actors) attached.given

pub returns-in-Ok-attached-clause-few : goal.returns-in-Ok-attached-clause-few
returns-in-Ok-attached-clause-few g c =
    let world : c.args.course.now.world.state ≡ opening c.args.config = ap (λ (x : Course). x.world) c.requires.opens in
    let actors = c.deref.ensures.value ∙ c.in-Ok.ensures in
    opening_few c.take_turns.result c.args.config c.args.turns (turn_of c.attach_all-attached.new.nodes.items) c.args.course.now.events.items
    c.take_turns.new.course.events.items (ap (λ (x : Course). x.events) c.requires.opens)
    (ap sum (c.in-Ok-attached.ensures.parts ∙ ap (λ (w : WorldState). map (part_in w) c.deref.result.now) world
    ∙ ap (map (part_in (opening c.args.config))) actors)) c.take_turns.ensures.few

pub returns-in-Ok-attached-clause-holds : goal.returns-in-Ok-attached-clause-holds
returns-in-Ok-attached-clause-holds g c =
    let v = links_of g.P.L.Link in
    holds_same v c.attach_all-attached.new.nodes.items c.take_turns.new.nodes.items c.take_turns.ensures.places
    (g.P.Ports.attached c.args.ports.now) (g.P.Ports.attached c.attach_all-attached.new.ports)
    (g.P.Ports.detached c.args.ports.now) (g.P.Ports.detached c.attach_all-attached.new.ports) c.attach_all-attached.ensures.holds

pub returns-in-Ok-attached-clause-room : goal.returns-in-Ok-attached-clause-room
returns-in-Ok-attached-clause-room g c =
    let v = links_of g.P.L.Link in
    room_same v c.attach_all-attached.new.nodes.items c.take_turns.new.nodes.items c.take_turns.ensures.places
    (g.P.Ports.attached c.attach_all-attached.new.ports) (g.P.Ports.detached c.attach_all-attached.new.ports)
    c.attach_all-attached.ensures.room

pub returns-clause-runs : goal.returns-clause-runs
returns-clause-runs g c =
    let v = links_of g.P.L.Link in
    unattached g.H.Host.meaning v c.args.config c.args.ops.now c.args.base c.args.turns c.in-Err.e
    (g.P.Ports.to_come c.args.ports.now) (g.C.Clock.values c.args.clock.now) (g.P.Ports.fault_count c.args.ports.now)
    (g.P.Ports.fault_count c.attach_all-attached.new.ports) (g.P.Ports.detached c.args.ports.now)
    (g.P.Ports.detached c.attach_all-attached.new.ports) (course_of c.args.course.now) c.attach_all-attached.new.nodes.items
    c.in-Err.ensures.count

pub returns-in_default-clause-holds : goal.returns-in_default-clause-holds
returns-in_default-clause-holds g c =
    holds_none (g.P.Ports.attached c.args.ports.now) (g.P.Ports.detached c.args.ports.now) c.args.nodes.now.items c.requires.empty

pub returns-in_default-clause-room : goal.returns-in_default-clause-room
returns-in_default-clause-room g c =
    room_none (g.P.Ports.attached c.args.ports.now) (g.P.Ports.detached c.args.ports.now) c.args.nodes.now.items c.requires.empty

pub returns-clause-holds : goal.returns-clause-holds
returns-clause-holds g c = c.attach_all-attached.ensures.holds

pub returns-clause-room : goal.returns-clause-room
returns-clause-room g c = c.attach_all-attached.ensures.room

pub returns-clause-attaches : goal.returns-clause-attaches
returns-clause-attaches g c =
    attaches_same (g.P.Ports.fault_count c.args.ports.now) (g.P.Ports.fault_count c.attach_all-attached.new.ports) c.in-Err.e
    c.in-Err.ensures.count
