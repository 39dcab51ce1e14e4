use Rattle.std.proofs.Common.{◌<◌, ℕ, List, sym, ap, subst}
use Rattle.std.proofs.lemmas.List.{length-map}
use Rattle.filled_orders.proofs.Found.{known_answer, no_marks}
use Rattle.filled_orders.proofs.order.filled_order_of.Goals as goal
use Rattle.filled_orders.specs.FilledAnswers.{IsSaid}
use Rattle.joined_orders.specs.Answers.{IfNothing}
use Rattle.nop_types.specs.Lines.{Line}
use Rattle.transcript_reader.specs.Claims.{line_of, lines_of}
use Rattle.unknown_results.specs.Asking.{unknown_in}

pub returns-then-not-has_mark-clause-answer : goal.returns-then-not-has_mark-clause-answer
returns-then-not-has_mark-clause-answer g c =
    let lines = lines_of c.args.claims.items in
    let unknown = unknown_in c.args.marks.now lines in
    let claims = c.deref.result.now in
    let found = c.in_ok-found.found in
    let e = c.in_ok-found.ensures in
    let said : IsSaid g.P.Service.Host.meaning g.P.Parted.part g.P.Parted.MAX_PARTS lines found =
    subst (λ (ls : List Line). IsSaid g.P.Service.Host.meaning g.P.Parted.part g.P.Parted.MAX_PARTS ls found)
    (ap lines_of c.deref.ensures.value)
    (record {
      legal = e.found;
      submit = e.places;
      none = e.none;
      part_lacks = e.part;
      within = subst (λ (n : ℕ). IfNothing found (λ p claim. claim < n)) (sym (length-map claims line_of)) e.within;
      accepts = e.accepts;
      groundless = e.groundless;
      repeated = e.repeated;
    }) in
    known_answer g.P.Service.Host.meaning g.P.Parted.part g.P.Parted.MAX_PARTS unknown lines
    (no_marks c.args.marks.now lines (c.has_mark.ensures c.if-not-has_mark.true)) found said
