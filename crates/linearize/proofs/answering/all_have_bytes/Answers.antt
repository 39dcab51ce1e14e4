use Rattle.std.proofs.Common.{◌≡◌, ℕ, Some, below_more, refl, subst, arith}
use Rattle.std.specs.Prelude.{slice_get}
use Rattle.std.proofs.lemmas.List.{length-map}
use Rattle.std.proofs.lemmas.Option.{slice_get_read, slice_get_within}
use Rattle.judge.proofs.LineLemmas.{slice_get-map}
use Rattle.lemmas.proofs.Options.{same_Some-at}
use Rattle.linearize.proofs.answering.all_have_bytes.Goals as goal
use Rattle.linearize.specs.Answering.{HasBytes}
use Rattle.nop_types.specs.Lines.{Line}
use Rattle.transcript_reader.specs.Claims.{line_of, lines_of}

pub loop-claim-preserved : goal.loop-claim-preserved
loop-claim-preserved c =
    let k = c.loop-claim.claim-index in
    let claims = c.args.claims.now in
    let claim = c.claim-item.result in
    let here = slice_get_read claims _ k claim refl c.loop-claim-test.true c.claim-item.is in
    let at = slice_get-map line_of claims k claim here in
    below_more (λ (i : ℕ). (line : Line) → slice_get (lines_of claims) i ≡ Some line → HasBytes line) k c.loop-claim.invariant
    (λ line e. subst HasBytes (same_Some-at (slice_get (lines_of claims) k) (line_of claim) line at e) c.has_bytes.ensures)

pub returns : goal.returns
returns c k line e =
    let claims = c.args.claims.now in
    let within = slice_get_within (lines_of claims) k line e in
    c.loop-claim.invariant k (omega (arith, within, length-map claims line_of, c.loop-claim-test.false)) line e
