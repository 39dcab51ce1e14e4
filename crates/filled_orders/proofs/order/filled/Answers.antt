use Rattle.std.proofs.Common.{◌∙◌, ℕ, List, sym, ap, subst}
use Rattle.filled_orders.proofs.Found.{found_none, found_order, places_submit}
use Rattle.filled_orders.proofs.Structure.{never_groundless, never_repeated}
use Rattle.filled_orders.proofs.order.filled.Goals as goal
use Rattle.filled_orders.specs.FilledAnswers.{IsSaid}
use Rattle.filled_orders.specs.Filling.{filled_along}
use Rattle.order_search.specs.Turns.{AllSubmit, history_at}
use Rattle.transcript_reader.specs.Claims.{lines_of}
use Rattle.unknown_results.proofs.Lines.{asked_lines}
use Rattle.unknown_results.specs.AnyResults.{any_result}
use Rattle.unknown_results.specs.Asking.{unknown_in, without_first}

pub fill_answers-requires-clause-submit : goal.fill_answers-requires-clause-submit
fill_answers-requires-clause-submit g c =
    let lines = lines_of c.args.claims.items in
    let unknown = unknown_in c.args.marks.now lines in
    let said = subst (IsSaid (any_result g.P.Service.Host.meaning) (λ op. g.P.Parted.part (without_first op)) g.P.Parted.MAX_PARTS
    (asked_lines unknown lines)) c.in-Order.is c.requires.said in
    subst (AllSubmit lines) (sym c.deref.ensures.value)
    (places_submit g.P.Service.Host.meaning g.P.Parted.part g.P.Parted.MAX_PARTS unknown lines c.in-Order.places.items said.submit)

pub returns-in_ok-fill_answers-in-Order : goal.returns-in_ok-fill_answers-in-Order
returns-in_ok-fill_answers-in-Order g c =
    let lines = lines_of c.args.claims.items in
    let unknown = unknown_in c.args.marks.now lines in
    let said = subst (IsSaid (any_result g.P.Service.Host.meaning) (λ op. g.P.Parted.part (without_first op)) g.P.Parted.MAX_PARTS
    (asked_lines unknown lines)) c.in-Order.is c.requires.said in
    found_order g.P.Service.Host.meaning g.P.Parted.part g.P.Parted.MAX_PARTS unknown lines c.in-Order.places.items said.legal said.submit
    (lines_of c.fill_answers.new.claims.items)
    (c.in_ok-fill_answers-in-Order.ensures
    ∙ ap (λ (ps : List ℕ). filled_along g.P.Service.Host.meaning unknown g.P.Service.Host.meaning.opening (history_at lines ps) lines)
    c.deref.ensures.value)

pub returns-in-Nothing : goal.returns-in-Nothing
returns-in-Nothing g c =
    let lines = lines_of c.args.claims.items in
    let unknown = unknown_in c.args.marks.now lines in
    let said = subst (IsSaid (any_result g.P.Service.Host.meaning) (λ op. g.P.Parted.part (without_first op)) g.P.Parted.MAX_PARTS
    (asked_lines unknown lines)) c.in-Nothing.is c.requires.said in
    found_none g.P.Service.Host.meaning g.P.Parted.part g.P.Parted.MAX_PARTS unknown lines c.requires.later c.in-Nothing.part.items
    c.in-Nothing.claim said.none said.within said.part_lacks said.accepts

pub unreachable-requires : goal.unreachable-requires
unreachable-requires g c =
    let lines = lines_of c.args.claims.items in
    let unknown = unknown_in c.args.marks.now lines in
    let said = subst (IsSaid (any_result g.P.Service.Host.meaning) (λ op. g.P.Parted.part (without_first op)) g.P.Parted.MAX_PARTS
    (asked_lines unknown lines)) c.in-Groundless.is c.requires.said in
    absurd (never_groundless unknown lines c.requires.accepted c.requires.later c.in-Groundless._claim said.groundless.0)

pub unreachable-requires-in-Repeated : goal.unreachable-requires-in-Repeated
unreachable-requires-in-Repeated g c =
    let lines = lines_of c.args.claims.items in
    let unknown = unknown_in c.args.marks.now lines in
    let said = subst (IsSaid (any_result g.P.Service.Host.meaning) (λ op. g.P.Parted.part (without_first op)) g.P.Parted.MAX_PARTS
    (asked_lines unknown lines)) c.in-Repeated.is c.requires.said in
    absurd (never_repeated unknown lines c.requires.submitted c.in-Repeated._claim said.repeated.0)
