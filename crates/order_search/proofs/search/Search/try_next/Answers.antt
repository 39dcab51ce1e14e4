use Rattle.std.proofs.Common.{◌≡◌, ℕ, suc, false, sym, subst, add-one}
use Rattle.order_search.proofs.CountLemmas.{counts_tried, falls_tried}
use Rattle.order_search.proofs.SearchLemmas.{next_settles, search_tried}
use Rattle.order_search.proofs.search.Search.try_next.Goals as goal
use Rattle.order_search.specs.Searching.{front_of, IsRefused, IsSearching}
use Rattle.pairs.specs.Said.{said_by}

pub try_at-requires-clause-settles : goal.try_at-requires-clause-settles
try_at-requires-clause-settles g c =
    let old = c.args.self.now in
    rw (c.counted_to-with_it.ensures, add-one old.next)
    (next_settles g.H.Host.meaning g.H.Host.undo_of (said_by c.args.claims.now) (g.H.Host.state old.host) old.line old.next old.steps.items
    old.waiting.items old.placed.items c.requires.search.searching)

pub returns-then-not-branch-clause-search : goal.returns-then-not-branch-clause-search
returns-then-not-branch-clause-search g c =
    let old = c.args.self.now in
    let new = c.try_at.new.self in
    let m = g.H.Host.meaning in
    let undo_of = g.H.Host.undo_of in
    let lines = said_by c.args.claims.now in
    let s0 : g.H.Host.State = g.H.Host.state new.host in
    let not_placed : c.in_ok-try_at.field-0 ≡ false = c.if-not-branch.true in
    let was = c.in_ok-try_at.ensures.search in
    let none = c.in_ok-try_at.ensures.none not_placed in
    let refused : IsRefused m undo_of lines new.line (front_of lines new.steps.items) new.waiting.items new.next =
    subst (λ (n : ℕ). IsRefused m undo_of lines new.line (front_of lines new.steps.items) new.waiting.items n) (sym none.next)
    (c.in_ok-try_at.ensures.refused not_placed) in
    record {
      searching =
          rw (c.counted_to-with_it.ensures, add-one old.next)
          (subst (λ (n : ℕ). IsSearching m undo_of lines s0 new.line (suc n) new.steps.items new.waiting.items new.placed.items) none.next
          (search_tried m undo_of lines s0 new.line new.next new.steps.items new.waiting.items new.placed.items was.searching refused));
      fits = was.fits;
      counted =
          rw (c.counted_to-with_it.ensures, add-one old.next, c.try_at.ensures.line, none.steps, none.waiting)
          (counts_tried lines old.line old.next old.steps.items old.waiting.items c.requires.search.counted c.requires.stuck);
      failed = was.failed;
    }

pub returns-then-not-branch-clause-falls : goal.returns-then-not-branch-clause-falls
returns-then-not-branch-clause-falls g c =
    let old = c.args.self.now in
    let none = c.in_ok-try_at.ensures.none c.if-not-branch.true in
    rw (c.counted_to-with_it.ensures, add-one old.next, c.try_at.ensures.line, none.steps)
    (falls_tried (said_by c.args.claims.now) old.line old.next old.steps.items old.waiting.items c.requires.search.counted c.requires.next)
