-- What a search came to, in one piece.
use Rattle.std.proofs.Common.{◌<◌, List, length, ap, arith}
use Rattle.std.specs.Borrow.{Bor}
use Rattle.std.specs.Prelude.{All}
use Rattle.std.proofs.lemmas.Option.{get_or_from_slice_get, slice_get_within}
use Rattle.fronts.specs.Fronts.{HasOrder}
use Rattle.fronts.specs.Parts.{AreTimed}
use Rattle.joined_orders.specs.Joining.{IsFoundOrder, LacksAt}
use Rattle.nop_types.specs.Legality.{Legal}
use Rattle.nop_types.specs.Meaning.{Meaning}
use Rattle.order_search.specs.Bounds.{AcceptsAt}
use Rattle.order_search.specs.Outcomes.{IfFound, IfNothing, submits_of, time_of}
use Rattle.order_search.specs.Turns.{AllSubmit, history_at}
use Rattle.order_search.specs.declared.outcome.Outcome.{Outcome}
use Rattle.order_search.specs.declared.outcome.Outcome.TheVariants.{Found, Nothing}
use Rattle.order_search.specs.declared.outcome.Placed.{Placed}
use Rattle.pairs.proofs.SaidLemmas.{length_said}
use Rattle.pairs.specs.Said.{said_by}
use Rattle.transcript_reader.specs.declared.claim.Claim.{Claim}

module _ {S : Type 0} (m : Meaning S) (claims : List (Bor Claim)) where
  abbrev Within : List Placed → Type 0
  Within placed = All (λ p. (p.submit < length claims) × (p.line < length claims)) placed

  pub found_order : (o : Outcome) → IfFound o (λ placed. Legal m (said_by claims) (history_at (said_by claims) (submits_of placed)))
      → IfFound o (λ placed. AllSubmit (said_by claims) (submits_of placed))
      → IfFound o (λ placed. AreTimed (said_by claims) (history_at (said_by claims) (submits_of placed)) (time_of placed))
      → IfFound o Within → IfFound o (IsFoundOrder m (said_by claims))
  found_order (Found v) legal submit timed within = record {
    legal = legal;
    submit = submit;
    timed = timed;
    within = λ x h.
        let w = within h.0 x (slice_get_within v.items h.0 x h.1) in
        let same = get_or_from_slice_get v.items h.0 x x h.1 in
        let s = ap (λ (t : Placed). t.submit) same in
        let l = ap (λ (t : Placed). t.line) same in
        let e = length_said claims in
        (omega (arith, w.0, s, e), omega (arith, w.1, l, e));
  }
  found_order (Nothing k) legal submit timed within = tt

  pub lacks_order : (o : Outcome) → IfNothing o (λ k. HasOrder m (said_by claims) → ⊥) → IfNothing o (λ k. k < length claims)
      → IfNothing o (AcceptsAt (said_by claims)) → IfNothing o (LacksAt m (said_by claims))
  lacks_order (Found v) none within accepts = tt
  lacks_order (Nothing k) none within accepts = (none, let e = length_said claims in omega (arith, within, e), accepts)
