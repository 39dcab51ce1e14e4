use Rattle.std.proofs.Common.{ap, sym}
use Rattle.order_search.proofs.FailedLemmas.{failed_more, fails_here}
use Rattle.order_search.proofs.search.Search.fail.Goals as goal
use Rattle.order_search.specs.Searching.{front_of}
use Rattle.pairs.specs.Said.{said_by}

pub go_back-requires-clause-search : goal.go_back-requires-clause-search
go_back-requires-clause-search g c =
    let m = g.H.Host.meaning in
    let lines = said_by c.args.claims.now in
    let old = c.args.self.now in
    let here = c.in_ok-here.here in
    let is = c.in_ok-here.ensures in
    let s = c.requires.search.searching in
    record {
      searching = s;
      fits = c.requires.search.fits;
      counted = c.requires.search.counted;
      failed =
          failed_more m lines old.failed.kept.keys c.keep.new.self.kept.keys here c.requires.search.failed c.in_ok-keep.ensures
          (fails_here m lines here old.line old.waiting.items (m.saved (g.H.Host.state old.host)) is.0 is.1 is.2 (record {
            front = front_of lines old.steps.items;
            is_front = s.front;
            are_left = s.are_waiting.are_left;
            saved_is = ap m.saved (sym s.state_is);
            fails = c.requires.fails;
          }));
    }
