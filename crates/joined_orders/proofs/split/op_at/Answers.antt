use Rattle.std.proofs.Common.{◌≡◌, Some, ap, ◌∙◌}
use Rattle.std.specs.Prelude.{slice_get}
use Rattle.joined_orders.proofs.split.op_at.Goals as goal
use Rattle.lemmas.proofs.Options.{same_Some-at}
use Rattle.nop_types.specs.Lines.{Submit}
use Rattle.nop_types.specs.declared.request.Request.{Request}
use Rattle.pairs.specs.Said.{said_by}
use Rattle.transcript_reader.specs.Claims.{line_of}
use Rattle.transcript_reader.specs.declared.claim.Claim.{Claim}

pub returns : goal.returns
returns c =
    let lines = said_by c.args.claims.now in
    let about = c.submit_at-submit.ensures in
    let at : slice_get lines c.submit_at-submit.result ≡ Some (Submit c.in-Submitted.request) =
    c.claim_at.ensures ∙ ap (λ (t : Claim). Some (line_of t)) c.in-Submitted.is in
    let same_line : Submit c.in-Submitted.request ≡ Submit about.request =
    same_Some-at (slice_get lines c.submit_at-submit.result) (Submit c.in-Submitted.request) (Submit about.request) at about.submits in
    let same : c.in-Submitted.request ≡ about.request = cc in
    record {
      submit = c.submit_at-submit.result;
      about = about;
      op_is = c.as_slice.ensures.bytes ∙ ap (λ (t : Request). t.op) same;
    }
