use Rattle.std.proofs.Common.{◌≡◌, length, arith}
use Rattle.std.specs.Prelude.{false, replicate}
use Rattle.std.proofs.lemmas.Grind.{common_steps}
use Rattle.pairs.proofs.SaidLemmas.{length_said}
use Rattle.order_search.proofs.CountLemmas.{counts_open}
use Rattle.order_search.proofs.FailedLemmas.{none_failed}
use Rattle.order_search.proofs.SearchLemmas.{search_opens}
use Rattle.order_search.proofs.search.Search.new.Goals as goal
use Rattle.pairs.specs.Said.{said_by}

pub returns-clause-search : goal.returns-clause-search
returns-clause-search g c =
    let claims = c.args.claims.now in
    let lines = said_by claims in
    let placed : c.resize.new.self.items ≡ replicate (length claims) false = grind (arith, common_steps) in
    record {
      searching =
          rw (placed, c.in_ok-fresh.ensures, c.new.ensures.items, c.new-2.ensures.items)
          (search_opens g.H.Host.meaning g.H.Host.undo_of lines (length claims) (length_said claims));
      fits = rw c.new.ensures.items tt;
      counted = rw c.new-2.ensures.items (counts_open lines c.new.result.items c.new.ensures.items);
      failed = rw c.new-3.ensures (none_failed g.H.Host.meaning lines);
    }
