use Rattle.std.proofs.Common.{◌≤◌, length, arith}
use Rattle.std.proofs.lemmas.Option.{slice_get_within}
use Rattle.pairs.proofs.SaidLemmas.{length_said}
use Rattle.order_search.proofs.SearchLemmas.{search_is_over}
use Rattle.order_search.proofs.search.Search.turn_here.Goals as goal
use Rattle.pairs.specs.Said.{said_by}

pub fail-requires-clause-fails : goal.fail-requires-clause-fails
fail-requires-clause-fails g c =
    let old = c.args.self.now in
    let all : length old.waiting.items ≤ old.next = omega arith in
    search_is_over g.H.Host.meaning g.H.Host.undo_of (said_by c.args.claims.now) (g.H.Host.state old.host) old.line old.next old.steps.items
    old.waiting.items old.placed.items c.requires.search.searching c.requires.stuck all

pub try_next-requires-clause-within : goal.try_next-requires-clause-within
try_next-requires-clause-within g c =
    let claims = c.args.claims.now in
    let stuck = c.requires.stuck in
    let l = slice_get_within (said_by claims) c.args.self.now.line _ stuck.accepts in
    let e = length_said claims in
    omega (arith, l, e)
