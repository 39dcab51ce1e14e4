use Rattle.std.proofs.Common.{◌∙◌, Some, refl, ap, inl, inr}
use Rattle.filled_orders.proofs.asking.accept_of.Goals as goal
use Rattle.transcript_reader.specs.Claims.{line_of}
use Rattle.transcript_reader.specs.declared.claim.Claim.{Claim}

pub returns-in-Submitted : goal.returns-in-Submitted
returns-in-Submitted c = inl (
  c.in-Submitted._request,
  c.claim_at.ensures ∙ ap (λ (t : Claim). Some (line_of t)) c.in-Submitted.is,
  c.accept_at.ensures,
)

pub returns-in-Accepted : goal.returns-in-Accepted
returns-in-Accepted c = inr (
  c.in-Accepted.client,
  c.in-Accepted.id,
  c.in-Accepted.result,
  c.claim_at.ensures ∙ ap (λ (t : Claim). Some (line_of t)) c.in-Accepted.is,
  refl,
)
