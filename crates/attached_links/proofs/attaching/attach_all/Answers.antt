use Rattle.std.proofs.Common.{◌≡◌, ◌∙◌, ◌∷◌, ◌++◌, [], refl, rules, sym, subst, ap, arith, length, map}
use Rattle.std.proofs.lemmas.List.{append-nil, nil_from_length}
use Rattle.outside.proofs.Counts.{counts_none}
use Rattle.attached_links.specs.Attaching.{AllFresh, AreNext, seat_of}
use Rattle.attached_links.proofs.AttachingLemmas.{next_none, next_more, fresh_more, seats_more}
use Rattle.attached_links.proofs.AttachingLemmas.{room_stays, room_more, holds_stays, holds_more}
use Rattle.attached_links.proofs.attaching.attach_all.Goals as goal

pub loop-seat-init : goal.loop-seat-init
loop-seat-init g c =
    let none : length c.args.links.now.items ≡ 0 = ap length c.requires in
    let into : c.into_iter-seat-iterator.result.rest.items ≡ c.args.seats.items = search rules in
    record {
      seats = ap (λ xs. map seat_of xs ++ c.into_iter-seat-iterator.result.rest.items) c.requires ∙ into;
      fresh = subst (AllFresh g.P.L.Link) (sym c.requires) tt;
      next = subst (λ xs. AreNext g.P.L.Link (g.P.Ports.to_come c.args.ports.now) xs (g.P.Ports.to_come c.args.ports.now)) (sym c.requires)
          (next_none _ g.P.L.Link (g.P.Ports.to_come c.args.ports.now));
      holds = omega (arith, none);
      room = λ some. absurd (omega (arith, some, none));
      given = refl;
      same = refl;
    }

pub returns-in-Err-clause-holds : goal.returns-in-Err-clause-holds
returns-in-Err-clause-holds g c =
    holds_stays (g.P.Ports.attached c.args.ports.now) (g.P.Ports.attached c.loop-seat.ports) (g.P.Ports.attached c.attach_one.new.ports)
    (g.P.Ports.detached c.args.ports.now) (g.P.Ports.detached c.loop-seat.ports) (g.P.Ports.detached c.attach_one.new.ports)
    c.loop-seat.links.items c.attach_one.new.links.items c.in-Err.ensures.attaches.same c.in-Err.ensures.attaches.balance
    c.loop-seat.invariant.holds

pub returns-in-Err-clause-room : goal.returns-in-Err-clause-room
returns-in-Err-clause-room g c =
    room_stays (g.P.Ports.attached c.loop-seat.ports) (g.P.Ports.attached c.attach_one.new.ports)
    (g.P.Ports.detached c.loop-seat.ports) (g.P.Ports.detached c.attach_one.new.ports)
    c.loop-seat.links.items c.attach_one.new.links.items c.in-Err.ensures.attaches.same c.in-Err.ensures.attaches.balance
    c.loop-seat.invariant.room

pub returns-in-Err-clause-count : goal.returns-in-Err-clause-count
returns-in-Err-clause-count g c = rw c.loop-seat.invariant.same at c.in-Err.ensures.count

pub loop-seat-preserved : goal.loop-seat-preserved
loop-seat-preserved g c =
    let one = c.in_default.ensures.attaches in
    let xs = c.loop-seat.links.items in
    let ys = c.attach_one.new.links.items in
    let split : c.loop-seat.seat-iterator.rest.items ≡ c.in-Some.seat ∷ c.next.new.self.rest.items = search rules in
    record {
      seats = seats_more g.P.L.Link _ _ _ xs ys one _ _ _ c.loop-seat.invariant.seats split;
      fresh = fresh_more g.P.L.Link _ _ _ xs ys one c.loop-seat.invariant.fresh;
      next = next_more g.P.L.Link _ _ _ xs ys one (g.P.Ports.to_come c.args.ports.now) c.loop-seat.invariant.next;
      holds = holds_more (g.P.Ports.attached c.args.ports.now) (g.P.Ports.attached c.loop-seat.ports)
          (g.P.Ports.attached c.attach_one.new.ports) (g.P.Ports.detached c.args.ports.now) (g.P.Ports.detached c.loop-seat.ports)
          (g.P.Ports.detached c.attach_one.new.ports) xs ys one.held one.added one.attached one.given c.loop-seat.invariant.holds;
      room = room_more (g.P.Ports.attached c.loop-seat.ports) (g.P.Ports.attached c.attach_one.new.ports)
          (g.P.Ports.detached c.loop-seat.ports) (g.P.Ports.detached c.attach_one.new.ports) xs ys one.held one.added one.attached one.given
          one.room c.loop-seat.invariant.room;
      given = one.given ∙ c.loop-seat.invariant.given;
      same = c.in_default.ensures.count.others (λ failed. cc) ∙ c.loop-seat.invariant.same;
    }

pub returns-clause-attaches : goal.returns-clause-attaches
returns-clause-attaches g c =
    let rest = c.loop-seat.seat-iterator.rest in
    let none : rest.items ≡ [] =
    nil_from_length rest.items (let same = rest.ok.0 in let empty = c.in-None.ensures.steps.0 in omega (arith, same, empty)) in
    record {
      are_at = sym (append-nil (map seat_of c.loop-seat.links.items))
          ∙ ap (λ later. map seat_of c.loop-seat.links.items ++ later) (sym none) ∙ c.loop-seat.invariant.seats;
      fresh = c.loop-seat.invariant.fresh;
      next = c.loop-seat.invariant.next;
      given = c.loop-seat.invariant.given;
    }
