use Rattle.std.proofs.Common.{refl, add-one, arith}
use Rattle.std.proofs.lemmas.Option.{slice_get_read}
use Rattle.transcript_reader.specs.Claims.{line_of, lines_of}
use Rattle.judge.specs.Places.{place_in}
use Rattle.judge.proofs.LineLemmas.{slice_get-map, length-mapped}
use Rattle.judge.proofs.GroundLemmas.{grounded, first_unfounded, next_founded, all_founded}
use Rattle.judge.proofs.founded.check_grounds.Goals as goal

pub returns-then-not-is_founded-clause-err : goal.returns-then-not-is_founded-clause-err
returns-then-not-is_founded-clause-err g c =
    let claims = c.args.claims.now in
    let k = c.loop-k.k in
    let claim = c.index-claims-k.result in
    let here = slice_get_read claims _ k claim refl c.loop-k-test.true c.index-claims-k.is in
    first_unfounded g.H.Host.meaning (place_in c.args.places.now) c.args.history.now c.args.answers.now c.requires.index c.requires.apart
    c.requires.answers (lines_of claims) k (place_in c.loop-k.submitted) (place_in c.loop-k.accepted) c.loop-k.invariant.sees (line_of claim)
    (slice_get-map line_of claims k claim here) c.if-not-is_founded.ensures c.loop-k.invariant.founded

pub loop-k-preserved : goal.loop-k-preserved
loop-k-preserved g c =
    let claims = c.args.claims.now in
    let lines = lines_of claims in
    let k = c.loop-k.k in
    let claim = c.index-claims-k.result in
    let here = slice_get_read claims _ k claim refl c.loop-k-test.true c.index-claims-k.is in
    let line = slice_get-map line_of claims k claim here in
    record {
      sees = c.in_ok-see.ensures lines line c.loop-k.invariant.sees;
      founded = rw (add-one k) (next_founded g.H.Host.meaning lines c.args.history.now k c.loop-k.invariant.founded
          (grounded g.H.Host.meaning (place_in c.args.places.now) c.args.history.now c.args.answers.now c.requires.index c.requires.apart
          c.requires.answers lines k (place_in c.loop-k.submitted) (place_in c.loop-k.accepted) c.loop-k.invariant.sees (line_of claim) line
          c.if-not-is_founded.ensures));
    }

pub returns-clause-ok : goal.returns-clause-ok
returns-clause-ok g c =
    all_founded g.H.Host.meaning (lines_of c.args.claims.now) c.args.history.now c.loop-k.k
    (omega (arith, c.loop-k-test.false, length-mapped line_of c.args.claims.now)) c.loop-k.invariant.founded
