use Rattle.std.proofs.Common.{ap, sym}
use Rattle.fronts.proofs.Failing.{failed_again}
use Rattle.order_search.proofs.FailedLemmas.{known_fails, failed_here, none_placed}
use Rattle.order_search.proofs.search.Search.is_failed.Goals as goal
use Rattle.order_search.specs.Searching.{front_of}
use Rattle.pairs.specs.Said.{said_by}

pub returns : goal.returns
returns g c e =
    let m = g.H.Host.meaning in
    let lines = said_by c.args.claims.now in
    let old = c.args.self.now in
    let here = c.in_ok-here.here in
    let is = c.in_ok-here.ensures in
    let s = c.requires.search.searching in
    let saved = m.saved (g.H.Host.state old.host) in
    failed_again m lines c.requires.once old.line old.waiting.items old.waiting.items (none_placed lines old.waiting.items) g.H.Host.is_sound
    g.met.H.Host.opens_sound g.met.H.Host.stays_sound
    g.met.H.Host.loads_saved saved (front_of lines old.steps.items)
    (failed_here m lines here old.line old.waiting.items saved is.0 is.1 is.2
    (known_fails m lines old.failed.kept.keys here c.requires.search.failed (c.knows.ensures.0 e)))
    s.front s.are_waiting.are_left (ap m.saved (sym s.state_is))
