use Rattle.std.proofs.Common.{◌≡◌, length, take, ap, arith, rules}
use Rattle.std.specs.Prelude.{insert}
use Rattle.order_search.proofs.CountLemmas.{counts_back, falls_back}
use Rattle.order_search.proofs.SearchLemmas.{search_goes_back, last_within, last_has_room, last_waits}
use Rattle.order_search.proofs.StepLemmas.{fit_front, fit_still}
use Rattle.order_search.proofs.search.Search.go_back.Goals as goal
use Rattle.pairs.specs.Said.{said_by}

pub mark-requires : goal.mark-requires
mark-requires g c =
    let old = c.args.self.now in
    last_within g.H.Host.meaning g.H.Host.undo_of (said_by c.args.claims.now) (g.H.Host.state old.host) old.line old.next c.pop.new.self.items
    c.in-Some.step old.waiting.items old.placed.items (rw c.in-Some.ensures.items at c.requires.search.searching)

pub insert-requires : goal.insert-requires
insert-requires g c =
    let old = c.args.self.now in
    let l = last_has_room g.H.Host.meaning g.H.Host.undo_of (said_by c.args.claims.now) (g.H.Host.state old.host) old.line old.next
    c.pop.new.self.items c.in-Some.step old.waiting.items old.placed.items (rw c.in-Some.ensures.items at c.requires.search.searching) in
    let e = ap length c.truncate.ensures.items in
    omega (arith, l, e)

pub returns-clause-search : goal.returns-clause-search
returns-clause-search g c _ =
    let old = c.args.self.now in
    let step = c.in-Some.step in
    let steps = c.pop.new.self.items in
    let lines = said_by c.args.claims.now in
    let waiting : c.insert.new.self.items ≡ insert (take step.others old.waiting.items) step.at step.submit = search rules in
    let was = rw c.in-Some.ensures.items at c.requires.search.searching in
    record {
      searching =
          rw (c.mark.ensures, waiting)
          (search_goes_back g.H.Host.meaning g.H.Host.undo_of lines (g.H.Host.state old.host) old.line old.next steps step
          old.waiting.items old.placed.items was c.requires.once (rw c.in-Some.ensures.items at c.requires.fails) g.H.Host.undone
          g.met.H.Host.undoes (g.H.Host.state c.undo.new.self) c.undo.ensures.state);
      fits =
          fit_still (g.H.Host.fits old.host) (g.H.Host.fits c.undo.new.self) c.undo.ensures.still_fits steps
          (fit_front (g.H.Host.fits old.host) steps step (rw c.in-Some.ensures.items at c.requires.search.fits));
      counted =
          rw waiting
          (counts_back lines old.line old.next steps step old.waiting.items
          (insert (take step.others old.waiting.items) step.at step.submit) (rw c.in-Some.ensures.items at c.requires.search.counted)
          (last_waits g.H.Host.meaning g.H.Host.undo_of lines (g.H.Host.state old.host) old.line old.next steps step
          old.waiting.items old.placed.items was));
      failed = c.requires.search.failed;
    }

pub returns-clause-falls : goal.returns-clause-falls
returns-clause-falls g c _ =
    let old = c.args.self.now in
    let step = c.in-Some.step in
    rw c.in-Some.ensures.items
    (falls_back (said_by c.args.claims.now) old.line old.next c.pop.new.self.items step old.waiting.items old.waiting.items
    (rw c.in-Some.ensures.items at c.requires.search.counted))
