use Rattle.std.proofs.Common.{◌∙◌, Some, sym, ap, arith}
use Rattle.std.proofs.lemmas.List.{length-map}
use Rattle.std.proofs.lemmas.Option.{slice_get_within}
use Rattle.filled_orders.proofs.filling.request_at.Goals as goal
use Rattle.nop_types.specs.Lines.{Submit}
use Rattle.transcript_reader.specs.Claims.{line_of, lines_of}
use Rattle.transcript_reader.specs.declared.claim.Claim.{Claim}

pub claim_at-requires : goal.claim_at-requires
claim_at-requires c =
    let claims = c.args.claims.now in
    let l = slice_get_within (lines_of claims) c.args.place (Submit c.requires.0) c.requires.1 in
    omega (arith, l, length-map claims line_of)

pub unreachable-requires : goal.unreachable-requires
unreachable-requires c =
    let at = c.claim_at.ensures ∙ ap (λ (t : Claim). Some (line_of t)) c.in_default.is in
    absurd (let x = sym at ∙ c.requires.1 in cc)

pub returns : goal.returns
returns c = c.claim_at.ensures ∙ ap (λ (t : Claim). Some (line_of t)) c.in-Submitted.is
