use Rattle.std.proofs.Common.{refl}
use Rattle.std.proofs.lemmas.Option.{slice_get_read}
use Rattle.transcript_reader.specs.Claims.{line_of, lines_of}
use Rattle.judge.proofs.LineLemmas.{slice_get-map}
use Rattle.judge.proofs.submitted.marks_of.Goals as goal

pub loop-claim-preserved : goal.loop-claim-preserved
loop-claim-preserved c =
    let k = c.loop-claim.claim-index in
    let claims = c.args.claims.now in
    let here = slice_get_read claims _ k c.claim-item.result refl c.loop-claim-test.true c.claim-item.is in
    c.mark.ensures (lines_of claims) k (slice_get-map line_of claims k c.claim-item.result here) c.loop-claim.invariant
