use Rattle.std.proofs.Common.{◌∙◌, List, sym, ap, subst}
use Rattle.execution_laws.specs.Legality.{SubmittedOnce}
use Rattle.fronts.specs.Fronts.{AcceptedLater}
use Rattle.fronts.specs.Parts.{is_of}
use Rattle.joined_orders.proofs.FoundLemmas.{found_order, lacks_order}
use Rattle.joined_orders.proofs.GoodLemmas.{submitted_once, accepted_once, accepted_later}
use Rattle.joined_orders.proofs.Owned.{owns}
use Rattle.joined_orders.proofs.part_order.own_order.Goals as goal
use Rattle.joined_orders.specs.Joining.{IsFoundOrder, LacksAt}
use Rattle.joined_orders.specs.Owning.{is_own}
use Rattle.nop_types.specs.Legality.{AcceptedOnce}
use Rattle.nop_types.specs.Lines.{Line}
use Rattle.order_search.specs.Outcomes.{IfFound, IfNothing}
use Rattle.pairs.specs.Said.{said_by}

pub pairs_of_good-requires-clause-submitted : goal.pairs_of_good-requires-clause-submitted
pairs_of_good-requires-clause-submitted g c =
    let lines = said_by c.args.claims.now in
    let own = is_own g.P.Parted.part lines c.args.part.now.name.now in
    subst (λ (t : List Line). SubmittedOnce t) (sym (ap said_by c.as_slice.ensures.value ∙ c.in_ok-own.ensures))
    (submitted_once lines own c.requires.submitted)

pub pairs_of_good-requires-clause-accepted : goal.pairs_of_good-requires-clause-accepted
pairs_of_good-requires-clause-accepted g c =
    let lines = said_by c.args.claims.now in
    let own = is_own g.P.Parted.part lines c.args.part.now.name.now in
    subst (λ (t : List Line). AcceptedOnce t) (sym (ap said_by c.as_slice.ensures.value ∙ c.in_ok-own.ensures))
    (accepted_once lines own c.requires.accepted)

pub pairs_of_good-requires-clause-later : goal.pairs_of_good-requires-clause-later
pairs_of_good-requires-clause-later g c =
    let lines = said_by c.args.claims.now in
    let p = c.args.part.now.name.now in
    let part = g.P.Parted.part in
    subst (λ (t : List Line). AcceptedLater t) (sym (ap said_by c.as_slice.ensures.value ∙ c.in_ok-own.ensures))
    (accepted_later lines (is_own part lines p) (is_of part p) (owns part lines p c.requires.submitted) c.requires.later)

pub find_order-requires-clause-submitted : goal.find_order-requires-clause-submitted
find_order-requires-clause-submitted g c =
    let lines = said_by c.args.claims.now in
    let own = is_own g.P.Parted.part lines c.args.part.now.name.now in
    subst (λ (t : List Line). SubmittedOnce t) (sym (ap said_by c.as_slice-2.ensures.value ∙ c.in_ok-own.ensures))
    (submitted_once lines own c.requires.submitted)

pub find_order-requires-clause-accepted : goal.find_order-requires-clause-accepted
find_order-requires-clause-accepted g c =
    let lines = said_by c.args.claims.now in
    let own = is_own g.P.Parted.part lines c.args.part.now.name.now in
    subst (λ (t : List Line). AcceptedOnce t) (sym (ap said_by c.as_slice-2.ensures.value ∙ c.in_ok-own.ensures))
    (accepted_once lines own c.requires.accepted)

pub find_order-requires-clause-later : goal.find_order-requires-clause-later
find_order-requires-clause-later g c =
    let lines = said_by c.args.claims.now in
    let p = c.args.part.now.name.now in
    let part = g.P.Parted.part in
    subst (λ (t : List Line). AcceptedLater t) (sym (ap said_by c.as_slice-2.ensures.value ∙ c.in_ok-own.ensures))
    (accepted_later lines (is_own part lines p) (is_of part p) (owns part lines p c.requires.submitted) c.requires.later)

pub returns-clause-found : goal.returns-clause-found
returns-clause-found g c =
    let m = g.P.Service.Host.meaning in
    let e = c.in_ok-outcome.ensures in
    let own = c.as_slice-2.result.now in
    let outcome = c.in_ok-outcome.outcome in
    subst (λ (t : List Line). IfFound outcome (IsFoundOrder m t)) (ap said_by c.as_slice-2.ensures.value ∙ c.in_ok-own.ensures)
    (found_order m own outcome e.found e.places e.timed e.within)

pub returns-clause-none : goal.returns-clause-none
returns-clause-none g c =
    let m = g.P.Service.Host.meaning in
    let e = c.in_ok-outcome.ensures in
    let own = c.as_slice-2.result.now in
    let outcome = c.in_ok-outcome.outcome in
    subst (λ (t : List Line). IfNothing outcome (LacksAt m t)) (ap said_by c.as_slice-2.ensures.value ∙ c.in_ok-own.ensures)
    (lacks_order m own outcome e.none e.furthest e.accepts)
