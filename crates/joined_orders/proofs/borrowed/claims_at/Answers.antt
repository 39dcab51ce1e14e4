use Rattle.std.proofs.Common.{List, ap, ◌∙◌}
use Rattle.std.specs.Borrow.{Bor}
use Rattle.joined_orders.proofs.SelectLemmas.{chosen_more}
use Rattle.joined_orders.proofs.borrowed.claims_at.Goals as goal
use Rattle.pairs.specs.Said.{said_by}
use Rattle.transcript_reader.specs.declared.claim.Claim.{Claim}

pub loop-place-preserved : goal.loop-place-preserved
loop-place-preserved c =
    ap (λ (t : List (Bor Claim)). said_by t) c.in_ok-push.ensures.items
    ∙ chosen_more c.args.claims.now c.loop-place.chosen.items c.args.places.now c.loop-place.place-index 0 c.claim_at.result
    c.loop-place-test.true c.loop-place.invariant c.claim_at.ensures
