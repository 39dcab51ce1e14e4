use Rattle.std.proofs.Common.{◌∙◌, length, sym, arith}
use Rattle.pairs.proofs.SaidLemmas.{length_said}
use Rattle.order_search.proofs.CountLemmas.{reached_here, reached_more, some_left}
use Rattle.order_search.proofs.OrderLemmas.{order_found}
use Rattle.order_search.proofs.finding.find_order.Goals as goal
use Rattle.pairs.specs.Said.{said_by}

pub returns-in-Found-clause-found : goal.returns-in-Found-clause-found
returns-in-Found-clause-found g c =
    let claims = c.args.claims.now in
    let s = c.loop-left.search in
    let order = order_found g.P.Service.Host.meaning g.P.Service.Host.undo_of (said_by claims) (length claims) (length_said claims) c.requires.submitted
    c.requires.accepted c.requires.later (g.P.Service.Host.state s.host) s.line s.next s.steps.items s.waiting.items s.placed.items
    c.loop-left.invariant.search.searching (c.in_ok-turn.ensures.passed c.in-Found.is) in
    rw (c.in_ok-order-in-Found.ensures, c.in_ok-turn.ensures.found c.in-Found.is) order.legal

pub returns-in-Found-clause-places : goal.returns-in-Found-clause-places
returns-in-Found-clause-places g c =
    let claims = c.args.claims.now in
    let s = c.loop-left.search in
    let order = order_found g.P.Service.Host.meaning g.P.Service.Host.undo_of (said_by claims) (length claims) (length_said claims) c.requires.submitted
    c.requires.accepted c.requires.later (g.P.Service.Host.state s.host) s.line s.next s.steps.items s.waiting.items s.placed.items
    c.loop-left.invariant.search.searching (c.in_ok-turn.ensures.passed c.in-Found.is) in
    rw (c.in_ok-order-in-Found.ensures, c.in_ok-turn.ensures.found c.in-Found.is) order.submits

pub returns-in-Found-clause-timed : goal.returns-in-Found-clause-timed
returns-in-Found-clause-timed g c =
    let claims = c.args.claims.now in
    let s = c.loop-left.search in
    let order = order_found g.P.Service.Host.meaning g.P.Service.Host.undo_of (said_by claims) (length claims) (length_said claims) c.requires.submitted
    c.requires.accepted c.requires.later (g.P.Service.Host.state s.host) s.line s.next s.steps.items s.waiting.items s.placed.items
    c.loop-left.invariant.search.searching (c.in_ok-turn.ensures.passed c.in-Found.is) in
    rw (c.in_ok-order-in-Found.ensures, c.in_ok-turn.ensures.found c.in-Found.is) order.timed

pub returns-in-Found-clause-within : goal.returns-in-Found-clause-within
returns-in-Found-clause-within g c =
    let claims = c.args.claims.now in
    let s = c.loop-left.search in
    let order = order_found g.P.Service.Host.meaning g.P.Service.Host.undo_of (said_by claims) (length claims) (length_said claims) c.requires.submitted
    c.requires.accepted c.requires.later (g.P.Service.Host.state s.host) s.line s.next s.steps.items s.waiting.items s.placed.items
    c.loop-left.invariant.search.searching (c.in_ok-turn.ensures.passed c.in-Found.is) in
    rw (c.in_ok-order-in-Found.ensures, c.in_ok-turn.ensures.found c.in-Found.is) order.within

pub returns-in-Found-clause-used : goal.returns-in-Found-clause-used
returns-in-Found-clause-used g c =
    let s = c.loop-left.search in
    let some = some_left (said_by c.args.claims.now) s.line s.next s.steps.items s.waiting.items c.loop-left.invariant.search.counted in
    omega (arith, some, c.loop-left.invariant.used)

pub returns-in-Nothing-clause-used : goal.returns-in-Nothing-clause-used
returns-in-Nothing-clause-used g c =
    let s = c.loop-left.search in
    let some = some_left (said_by c.args.claims.now) s.line s.next s.steps.items s.waiting.items c.loop-left.invariant.search.counted in
    omega (arith, some, c.loop-left.invariant.used)

pub returns-in-Nothing-clause-accepts : goal.returns-in-Nothing-clause-accepts
returns-in-Nothing-clause-accepts g c =
    let claims = c.args.claims.now in
    reached_here (said_by claims) c.loop-left.furthest c.loop-left.search.line c.further-furthest.result c.further-furthest.ensures c.loop-left.invariant.reached
    (c.in_ok-turn.ensures.accepts c.in-Nothing.is)

pub returns-clause-few : goal.returns-clause-few
returns-clause-few g c _ =
    let s = c.loop-left.search in
    let some = some_left (said_by c.args.claims.now) s.line s.next s.steps.items s.waiting.items c.loop-left.invariant.search.counted in
    omega (arith, some, c.loop-left.invariant.used)

pub turn-requires-clause-input : goal.turn-requires-clause-input
turn-requires-clause-input g c = record {
  submitted = c.requires.submitted;
  accepted = c.requires.accepted;
  paired = c.requires.paired;
}

pub loop-left-preserved : goal.loop-left-preserved
loop-left-preserved g c =
    let claims = c.args.claims.now in
    let before = c.loop-left in
    let turned = c.in_ok-turn.ensures in
    let going = c.in-Going.is in
    let within = turned.within (λ found. let e = sym going ∙ found in absurd cc) in
    record {
      search = turned.search going;
      furthest = λ some. let f = before.invariant.furthest some in omega (arith, c.further-furthest.ensures, f, within);
      reached = reached_more (said_by claims) before.furthest before.search.line c.further-furthest.result c.further-furthest.ensures before.invariant.reached
          c.turn.new.self.line (turned.moves going);
      used = let f = turned.falls going in let u = before.invariant.used in omega (arith, f, u);
      left = let l = before.invariant.left in omega (arith, l);
    }

pub returns-in-Nothing-clause-furthest : goal.returns-in-Nothing-clause-furthest
returns-in-Nothing-clause-furthest g c =
    let within = c.in_ok-turn.ensures.within (λ found. let e = sym c.in-Nothing.is ∙ found in absurd cc) in
    let before = c.loop-left.invariant.furthest (omega (arith, within)) in
    omega (arith, c.further-furthest.ensures, before, within)
