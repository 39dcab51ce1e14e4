use Rattle.std.proofs.Common.{◌≡◌, ◌∙◌, List, Some, sym, ap, arith}
use Rattle.std.specs.Prelude.{slice_get}
use Rattle.std.proofs.lemmas.List.{length-map}
use Rattle.std.proofs.lemmas.Option.{slice_get_within}
use Rattle.filled_orders.proofs.Placed.{set_in_lines}
use Rattle.filled_orders.proofs.filling.set_result.Goals as goal
use Rattle.filled_orders.specs.Filling.{with_result}
use Rattle.nop_types.specs.Lines.{Accept}
use Rattle.transcript_reader.specs.Claims.{line_of, lines_of}
use Rattle.transcript_reader.specs.declared.claim.Claim.{Claim}
use Rattle.transcript_reader.specs.declared.claim.Claim.TheVariants.{Accepted}

pub claim_at-requires : goal.claim_at-requires
claim_at-requires c =
    let claims = c.args.claims.now.items in
    let l = slice_get_within (lines_of claims) c.args.place (Accept c.requires.0 c.requires.1 c.requires.2) c.requires.3 in
    omega (arith, l, length-map claims line_of)

pub unreachable-requires : goal.unreachable-requires
unreachable-requires c =
    let read : slice_get (lines_of c.args.claims.now.items) c.args.place ≡ Some (line_of c.claim_at.result.now) =
    ap (λ (cs : List Claim). slice_get (lines_of cs) c.args.place) (sym c.deref.ensures.value) ∙ c.claim_at.ensures in
    let at = read ∙ ap (λ (t : Claim). Some (line_of t)) c.in_default.is in
    absurd (let x = sym at ∙ c.requires.3 in cc)

pub put-requires : goal.put-requires
put-requires c =
    let claims = c.args.claims.now.items in
    let l = slice_get_within (lines_of claims) c.args.place (Accept c.requires.0 c.requires.1 c.requires.2) c.requires.3 in
    omega (arith, l, length-map claims line_of)

pub returns : goal.returns
returns c =
    let claims = c.args.claims.now.items in
    let read : slice_get (lines_of claims) c.args.place ≡ Some (line_of c.claim_at.result.now) =
    ap (λ (cs : List Claim). slice_get (lines_of cs) c.args.place) (sym c.deref.ensures.value) ∙ c.claim_at.ensures in
    ap (λ (cs : List Claim). lines_of cs) c.put.ensures
    ∙ set_in_lines claims c.args.place c.claim_at.result.now (Accepted c.in-Accepted.client c.in-Accepted.id c.args.answer) c.args.answer read
    (ap (λ (t : Claim). with_result c.args.answer (line_of t)) (sym c.in-Accepted.is))
