use Rattle.std.proofs.Common.{◌≡◌, ◌∙◌, ◌++◌, ◌∷◌, [], Bool, List, map, take, sym, ap, arith}
use Rattle.std.proofs.lemmas.List.{length-map, take_all}
use Rattle.filled_orders.proofs.Placed.{asked_is, asked_more, lines_push}
use Rattle.filled_orders.proofs.asking.asked_claims.Goals as goal
use Rattle.nop_types.specs.Lines.{Line}
use Rattle.transcript_reader.specs.Claims.{line_of, lines_of}
use Rattle.transcript_reader.specs.declared.claim.Claim.{Claim}
use Rattle.unknown_results.specs.Asking.{asked_by, asked_line, unknown_in}

pub loop-place-preserved : goal.loop-place-preserved
loop-place-preserved c =
    let lines = lines_of c.args.claims.now in
    let unknown = unknown_in c.args.marks.now lines in
    let place = c.loop-place.place in
    let line = line_of c.claim_at.result.now in
    let claim = c.in_ok-asked_claim.field-0 in
    let is : line_of claim ≡ asked_line unknown line =
    c.in_ok-asked_claim.ensures ∙ ap (λ (b : Bool). asked_by b line) (c.is_unknown-any.ensures line c.claim_at.ensures)
    ∙ asked_is unknown line in
    ap (λ (t : List Claim). lines_of t) c.in_ok-push.ensures.items
    ∙ lines_push c.loop-place.asked.items claim
    ∙ ap (λ (ls : List Line). ls ++ line_of claim ∷ []) c.loop-place.invariant
    ∙ ap (λ (l : Line). map (asked_line unknown) (take place lines) ++ l ∷ []) is
    ∙ sym (asked_more (asked_line unknown) lines place line c.claim_at.ensures)

pub returns : goal.returns
returns c =
    let claims = c.args.claims.now in
    let lines = lines_of claims in
    let n = length-map claims line_of in
    c.loop-place.invariant
    ∙ ap (map (asked_line (unknown_in c.args.marks.now lines)))
    (take_all c.loop-place.place lines (omega (arith, n, c.loop-place-test.false)))
