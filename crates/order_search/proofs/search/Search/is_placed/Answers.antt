use Rattle.std.proofs.Common.{◌≡◌, ◌∙◌, ℕ, ◌<◌, Option, Some, None, length, refl, sym, ap, arith}
use Rattle.std.proofs.lemmas.Option.{slice_get_read, slice_get_within}
use Rattle.nop_types.specs.Lines.{Submit}
use Rattle.pairs.proofs.SaidLemmas.{length_said}
use Rattle.order_search.proofs.AgreeLemmas.{submit_there}
use Rattle.order_search.proofs.SearchLemmas.{placed_or_stuck}
use Rattle.order_search.proofs.search.Search.is_placed.Goals as goal
use Rattle.order_search.specs.Searching.{front_of}
use Rattle.pairs.specs.Said.{said_by}

pub index-requires : goal.index-requires
index-requires g c =
    let l = slice_get_within (said_by c.args.claims.now) c.args.self.now.line _ c.requires.line.1 in
    omega (arith, l, c.requires.input.paired.submits_length, length_said c.args.claims.now)

pub index-requires-2 : goal.index-requires-2
index-requires-2 g c =
    let claims = c.args.claims.now in
    let lines = said_by claims in
    let pairs = c.args.pairs.now in
    let old = c.args.self.now in
    let l = slice_get_within lines old.line _ c.requires.line.1 in
    let within : old.line < length pairs.submits.items = omega (arith, l, c.requires.input.paired.submits_length, length_said claims) in
    let read = slice_get_read pairs.submits.items _ old.line c.index.result.now refl within c.index.ensures in
    let here = read ∙ ap (λ (t : Option ℕ). Some t) c.in-Some.is in
    let x = submit_there lines (length claims) (length_said claims) pairs.accepts.items pairs.submits.items c.requires.input.paired old.line
    c.in-Some.submit c.args.client c.args.id c.requires.line.0 c.requires.line.1 here in
    let n = slice_get_within lines c.in-Some.submit (Submit x.0) x.1 in
    omega (arith, n, c.requires.search.searching.are_marked.count)

pub returns : goal.returns
returns g c =
    let claims = c.args.claims.now in
    let lines = said_by claims in
    let pairs = c.args.pairs.now in
    let old = c.args.self.now in
    let l = slice_get_within lines old.line _ c.requires.line.1 in
    let within : old.line < length pairs.submits.items = omega (arith, l, c.requires.input.paired.submits_length, length_said claims) in
    let read = slice_get_read pairs.submits.items _ old.line c.index.result.now refl within c.index.ensures in
    let here = read ∙ ap (λ (t : Option ℕ). Some t) c.in-Some.is in
    let x = submit_there lines (length claims) (length_said claims) pairs.accepts.items pairs.submits.items c.requires.input.paired old.line
    c.in-Some.submit c.args.client c.args.id c.requires.line.0 c.requires.line.1 here in
    let n = slice_get_within lines c.in-Some.submit (Submit x.0) x.1 in
    let marked : c.in-Some.submit < length old.placed.items = omega (arith, n, c.requires.search.searching.are_marked.count) in
    let mark = slice_get_read old.placed.items _ c.in-Some.submit c.index-2.result.now refl marked c.index-2.ensures in
    placed_or_stuck g.H.Host.meaning g.H.Host.undo_of lines (front_of lines old.steps.items) old.placed.items old.line c.in-Some.submit
    c.args.client c.args.id c.requires.line.0 x.0 c.index-2.result.now c.requires.search.searching.are_marked c.requires.line.1 x.1 x.2 mark

pub unreachable-requires : goal.unreachable-requires
unreachable-requires g c =
    let claims = c.args.claims.now in
    let lines = said_by claims in
    let pairs = c.args.pairs.now in
    let old = c.args.self.now in
    let l = slice_get_within lines old.line _ c.requires.line.1 in
    let within : old.line < length pairs.submits.items = omega (arith, l, c.requires.input.paired.submits_length, length_said claims) in
    let read = slice_get_read pairs.submits.items _ old.line c.index.result.now refl within c.index.ensures in
    let s = c.requires.input.paired.founded old.line c.args.client c.args.id c.requires.line.0 (omega (arith, l, length_said claims))
    c.requires.line.1 in
    let e : Some (Some s.place) ≡ Some None = sym s.there ∙ (read ∙ ap (λ (t : Option ℕ). Some t) c.in_default.is) in
    absurd cc
