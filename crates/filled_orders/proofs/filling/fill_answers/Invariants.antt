use Rattle.std.proofs.Common.{◌≡◌, drop}
use Rattle.filled_orders.proofs.filling.fill_answers.Given as goal
use Rattle.filled_orders.specs.Filling.{filled_along}
use Rattle.order_search.specs.Turns.{history_at}
use Rattle.transcript_reader.specs.Claims.{lines_of}
use Rattle.unknown_results.specs.Asking.{unknown_in}
use Rattle.unknown_results.specs.Filling.{Fills}

-- what is left to fill in
abbrev pub invariant-loop-place : goal.invariant-loop-place
invariant-loop-place g l = record {
  left : filled_along g.H.Host.meaning (unknown_in l.marks (lines_of l.fn.claims.items)) (g.H.Host.state l.host)
      (history_at (lines_of l.fn.claims.items) (drop l.place-index l.places)) (lines_of l.claims.items)
      ≡ filled_along g.H.Host.meaning (unknown_in l.marks (lines_of l.fn.claims.items)) g.H.Host.meaning.opening
      (history_at (lines_of l.fn.claims.items) l.places) (lines_of l.fn.claims.items);
  fills : Fills (unknown_in l.marks (lines_of l.fn.claims.items)) (lines_of l.fn.claims.items) (lines_of l.claims.items);
}
