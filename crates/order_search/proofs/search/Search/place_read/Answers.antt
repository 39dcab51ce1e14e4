use Rattle.std.proofs.Common.{◌≡◌, ◌∙◌, ℕ, ◌<◌, Bool, true, false, Some, length, refl, ap, subst, arith}
use Rattle.std.proofs.lemmas.Option.{slice_get_read, slice_get-get_or}
use Rattle.std.specs.Prelude.{slice_get}
use Rattle.lemmas.proofs.Options.{same_Some-at}
use Rattle.order_search.proofs.SearchLemmas.{read_settles, waits_within}
use Rattle.order_search.proofs.search.Search.place_read.Goals as goal
use Rattle.pairs.proofs.SaidLemmas.{length_said}
use Rattle.pairs.specs.Said.{said_by}

pub bounds-reads-submit : goal.bounds-reads-submit
bounds-reads-submit g c =
    let old = c.args.self.now in
    let claims = c.args.claims.now in
    let stands = slice_get_read old.waiting.items _ c.args.at c.index-submit.result.now refl c.requires.waits c.index-submit.ensures in
    let l = waits_within g.H.Host.meaning g.H.Host.undo_of (said_by claims) (g.H.Host.state old.host) old.line old.next old.steps.items
    old.waiting.items old.placed.items c.requires.search.searching c.args.at c.index-submit.result.now stands in
    omega (arith, l, length_said claims, c.requires.reads.count)

pub try_at-requires-clause-settles : goal.try_at-requires-clause-settles
try_at-requires-clause-settles g c =
    let old = c.args.self.now in
    let claims = c.args.claims.now in
    let submit = c.index-submit.result.now in
    let stands = slice_get_read old.waiting.items _ c.args.at submit refl c.requires.waits c.index-submit.ensures in
    let l = waits_within g.H.Host.meaning g.H.Host.undo_of (said_by claims) (g.H.Host.state old.host) old.line old.next old.steps.items
    old.waiting.items old.placed.items c.requires.search.searching c.args.at submit stands in
    let within : submit < length c.args.reads.now = omega (arith, l, length_said claims, c.requires.reads.count) in
    let mark : slice_get c.args.reads.now submit ≡ Some true =
    slice_get-get_or c.args.reads.now submit false within ∙ ap (λ (t : Bool). Some t) c.if-not-reads-submit.false in
    read_settles g.H.Host.meaning g.H.Host.undo_of (said_by claims) (g.H.Host.state old.host) old.line old.next old.steps.items
    old.waiting.items old.placed.items c.requires.search.searching c.requires.input.submitted c.args.at c.len-all.result
    (λ i r there at.
    c.requires.reads.marked i r
    (subst (λ (t : ℕ). slice_get c.args.reads.now t ≡ Some true) (same_Some-at (slice_get old.waiting.items c.args.at) submit i stands there) mark)
    at)
