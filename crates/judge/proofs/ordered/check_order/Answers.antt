use Rattle.std.proofs.Common.{sym, refl, ◌∙◌, add-one, arith}
use Rattle.std.proofs.lemmas.Option.{slice_get_read}
use Rattle.transcript_reader.specs.Claims.{line_of, lines_of}
use Rattle.judge.specs.Places.{place_in}
use Rattle.judge.proofs.LineLemmas.{slice_get-map, length-mapped}
use Rattle.judge.proofs.ReachedLemmas.{reaches_more, first_overtaking, next_in_order, all_in_order}
use Rattle.judge.proofs.ordered.check_order.Goals as goal

pub returns-then-overtakes-clause-err : goal.returns-then-overtakes-clause-err
returns-then-overtakes-clause-err c =
    let claims = c.args.claims.now in
    let k = c.loop-k.k in
    let claim = c.index-claims-k.result in
    let here = slice_get_read claims _ k claim refl c.loop-k-test.true c.index-claims-k.is in
    first_overtaking (place_in c.args.places.now) (lines_of claims) c.args.history.now c.requires.index c.requires.apart k c.loop-k.last
    c.loop-k.invariant.reaches (line_of claim) (slice_get-map line_of claims k claim here) (sym c.overtakes.ensures ∙ c.if-overtakes.true)
    c.loop-k.invariant.ordered

pub loop-k-preserved : goal.loop-k-preserved
loop-k-preserved c =
    let claims = c.args.claims.now in
    let lines = lines_of claims in
    let k = c.loop-k.k in
    let claim = c.index-claims-k.result in
    let here = slice_get_read claims _ k claim refl c.loop-k-test.true c.index-claims-k.is in
    let line = slice_get-map line_of claims k claim here in
    rw (add-one k) (record {
      reaches = rw (c.reached_by-last.ensures) (reaches_more (place_in c.args.places.now) lines c.args.history.now c.requires.index
          c.requires.apart k c.loop-k.last c.loop-k.invariant.reaches (line_of claim) line);
      ordered = next_in_order (place_in c.args.places.now) lines c.args.history.now c.requires.index c.requires.apart k c.loop-k.last
          c.loop-k.invariant.reaches (line_of claim) line (sym c.overtakes.ensures ∙ c.if-overtakes.false) c.loop-k.invariant.ordered;
    })

pub returns-clause-ok : goal.returns-clause-ok
returns-clause-ok c =
    all_in_order (lines_of c.args.claims.now) c.args.history.now c.loop-k.k
    (omega (arith, c.loop-k-test.false, length-mapped line_of c.args.claims.now)) c.loop-k.invariant.ordered
