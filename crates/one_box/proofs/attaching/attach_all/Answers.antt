use Rattle.std.proofs.Common.{◌≡◌, ◌∙◌, refl, sym, subst, ap, arith, length, map, Some, Err}
use Rattle.std.specs.Prelude.{slice_get}
use Rattle.outside.proofs.Counts.{counts_none}
use Rattle.one_box.specs.Counting.{part_of}
use Rattle.one_box.specs.Showing.{links_of, AllLostFit, place_of}
use Rattle.one_box.proofs.AttachingLemmas.{attaching_first, attaching_more, attached_all, places_more, places_all, lost_push}
use Rattle.one_box.proofs.AttachingLemmas.{room_stays, room_more, holds_stays, holds_more}
use Rattle.one_box.proofs.Counting.{parts_all, parts_more}
use Rattle.one_box.proofs.attaching.attach_all.Goals as goal

pub loop-i-init : goal.loop-i-init
loop-i-init g c =
    let v = links_of g.P.L.Link in
    let none : length c.args.nodes.now.items ≡ 0 = ap length c.requires.empty in
    record {
      on = attaching_first v
          c.args.base c.args.config c.args.now (g.P.Ports.to_come c.args.ports.now) c.args.nodes.now.items c.requires.empty;
      places = ap (map (place_of v)) c.requires.empty;
      parts = ap (map part_of) c.requires.empty;
      lost = subst (AllLostFit v) (sym c.requires.empty) tt;
      holds = omega (arith, none);
      room = λ some. absurd (omega (arith, some, none));
      given = refl;
      same = refl;
    }

pub returns-in-Err-clause-holds : goal.returns-in-Err-clause-holds
returns-in-Err-clause-holds g c =
    holds_stays (g.P.Ports.attached c.args.ports.now) (g.P.Ports.attached c.loop-i.ports) (g.P.Ports.attached c.attach_actor.new.ports)
    (g.P.Ports.detached c.args.ports.now) (g.P.Ports.detached c.loop-i.ports) (g.P.Ports.detached c.attach_actor.new.ports)
    c.loop-i.nodes.items c.attach_actor.new.nodes.items c.in-Err.ensures.attaches.same c.in-Err.ensures.attaches.balance
    c.loop-i.invariant.holds

pub returns-in-Err-clause-room : goal.returns-in-Err-clause-room
returns-in-Err-clause-room g c =
    room_stays (g.P.Ports.attached c.loop-i.ports) (g.P.Ports.attached c.attach_actor.new.ports)
    (g.P.Ports.detached c.loop-i.ports) (g.P.Ports.detached c.attach_actor.new.ports)
    c.loop-i.nodes.items c.attach_actor.new.nodes.items c.in-Err.ensures.attaches.same c.in-Err.ensures.attaches.balance
    c.loop-i.invariant.room

pub returns-in-Err-clause-count : goal.returns-in-Err-clause-count
returns-in-Err-clause-count g c = rw c.loop-i.invariant.same at c.in-Err.ensures.count

pub loop-i-preserved : goal.loop-i-preserved
loop-i-preserved g c =
    let v = links_of g.P.L.Link in
    let actors = c.args.actors.now in
    let i = c.loop-i.i in
    let a = c.actor_at-own.result in
    let there : slice_get actors i ≡ Some a = c.actor_at-own.ensures in
    let attached = c.in_default.ensures.attaches in
    let one = attached.one in
    record {
      on = attaching_more v
          c.args.base c.args.config c.args.now actors i a (g.P.Ports.to_come c.args.ports.now) (g.P.Ports.to_come c.loop-i.ports)
          (g.P.Ports.to_come c.attach_actor.new.ports) c.loop-i.nodes.items c.attach_actor.new.nodes.items c.args.world.now.state there
          c.requires.world one c.loop-i.invariant.on;
      places = places_more v
          c.args.base c.args.config c.args.now actors i a (g.P.Ports.to_come c.loop-i.ports) (g.P.Ports.to_come c.attach_actor.new.ports)
          c.loop-i.nodes.items c.attach_actor.new.nodes.items _ there one c.loop-i.invariant.places;
      parts = parts_more v c.args.world.now.state actors _ c.args.now i a (g.P.Ports.to_come c.loop-i.ports)
          (g.P.Ports.to_come c.attach_actor.new.ports) c.loop-i.nodes.items c.attach_actor.new.nodes.items there one
          c.loop-i.invariant.parts;
      lost = lost_push v c.loop-i.nodes.items c.attach_actor.new.nodes.items one.node one.added one.fresh.lost c.loop-i.invariant.lost;
      holds = holds_more (g.P.Ports.attached c.args.ports.now) (g.P.Ports.attached c.loop-i.ports)
          (g.P.Ports.attached c.attach_actor.new.ports) (g.P.Ports.detached c.args.ports.now) (g.P.Ports.detached c.loop-i.ports)
          (g.P.Ports.detached c.attach_actor.new.ports) c.loop-i.nodes.items c.attach_actor.new.nodes.items one.node one.added
          attached.attached attached.given c.loop-i.invariant.holds;
      room = room_more (g.P.Ports.attached c.loop-i.ports) (g.P.Ports.attached c.attach_actor.new.ports)
          (g.P.Ports.detached c.loop-i.ports) (g.P.Ports.detached c.attach_actor.new.ports) c.loop-i.nodes.items
          c.attach_actor.new.nodes.items one.node one.added attached.attached attached.given
          attached.room c.loop-i.invariant.room;
      given = attached.given ∙ c.loop-i.invariant.given;
      same = c.in_default.ensures.count.others (λ failed. cc) ∙ c.loop-i.invariant.same;
    }

pub returns-clause-attaches : goal.returns-clause-attaches
returns-clause-attaches g c =
    let v = links_of g.P.L.Link in
    let all = c.args.actors.now in
    let xs = c.loop-i.nodes.items in
    let past = c.loop-i-test.false in
    record {
      observed = attached_all v c.args.base c.args.config c.args.now all c.loop-i.i (g.P.Ports.to_come c.args.ports.now)
          (g.P.Ports.to_come c.loop-i.ports) xs past c.loop-i.invariant.on;
      places = places_all v c.args.base c.args.config c.args.now all c.loop-i.i xs past c.loop-i.invariant.places;
      given = c.loop-i.invariant.given;
      lost = c.loop-i.invariant.lost;
    }

pub returns-clause-parts : goal.returns-clause-parts
returns-clause-parts g c =
    parts_all (links_of g.P.L.Link) c.args.world.now.state c.args.actors.now c.loop-i.i c.loop-i.nodes.items c.loop-i-test.false
    c.loop-i.invariant.parts

pub returns-clause-holds : goal.returns-clause-holds
returns-clause-holds g c = c.loop-i.invariant.holds

pub returns-clause-room : goal.returns-clause-room
returns-clause-room g c = c.loop-i.invariant.room

pub returns-clause-count : goal.returns-clause-count
returns-clause-count g c = counts_none _ _ _ c.loop-i.invariant.same (λ failed. cc)
