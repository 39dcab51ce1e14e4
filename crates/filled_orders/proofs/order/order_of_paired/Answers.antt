use Rattle.std.proofs.Common.{◌≡◌, ◌∙◌, ◌<◌, ℕ, List, sym, ap, subst}
use Rattle.std.proofs.lemmas.List.{length-map}
use Rattle.filled_orders.proofs.order.order_of_paired.Goals as goal
use Rattle.filled_orders.specs.FilledAnswers.{IsSaid}
use Rattle.joined_orders.specs.Answers.{IfNothing}
use Rattle.nop_types.specs.Lines.{Line}
use Rattle.transcript_reader.specs.Claims.{line_of, lines_of}
use Rattle.transcript_reader.specs.declared.claim.Claim.{Claim}
use Rattle.unknown_results.proofs.Lines.{asked_lines}
use Rattle.unknown_results.specs.AnyResults.{any_result}
use Rattle.unknown_results.specs.Asking.{unknown_in, without_first}

pub filled-requires-clause-said : goal.filled-requires-clause-said
filled-requires-clause-said g c =
    let lines = lines_of c.args.claims.items in
    let unknown = unknown_in c.args.marks.now lines in
    let asked = c.deref-2.result.now in
    let found = c.in_ok-found.found in
    let e = c.in_ok-found.ensures in
    let same : lines_of asked ≡ asked_lines unknown lines =
    ap lines_of c.deref-2.ensures.value ∙ c.in_ok-asked.ensures
    ∙ ap (λ (cs : List Claim). asked_lines (unknown_in c.args.marks.now (lines_of cs)) (lines_of cs)) c.deref.ensures.value in
    subst (λ (ls : List Line). IsSaid (any_result g.P.Service.Host.meaning) (λ op. g.P.Parted.part (without_first op)) g.P.Parted.MAX_PARTS ls found)
    same
    (record {
      legal = e.found;
      submit = e.places;
      none = e.none;
      part_lacks = e.part;
      within = subst (λ (n : ℕ). IfNothing found (λ p claim. claim < n)) (sym (length-map asked line_of)) e.within;
      accepts = e.accepts;
      groundless = e.groundless;
      repeated = e.repeated;
    })
