use Rattle.std.proofs.Common.{◌∙◌, ◌++◌, ◌+◌, ◌<◌, ℕ, List, length, take, refl, sym, ap, subst, arith}
use Rattle.std.specs.Prelude.{filter}
use Rattle.std.proofs.lemmas.List.{length-map, take_all}
use Rattle.std.proofs.lemmas.Option.{slice_get_read}
use Rattle.fronts.specs.Fronts.{HasOrder}
use Rattle.joined_orders.proofs.JoinLemmas.{one_more_at}
use Rattle.joined_orders.proofs.LackLemmas.{has_parts, lacks_however}
use Rattle.joined_orders.proofs.SplitLemmas.{name_at}
use Rattle.joined_orders.proofs.WholeLemmas.{joined_is_legal, no_whole_order}
use Rattle.joined_orders.proofs.join.order_by_parts.Goals as goal
use Rattle.joined_orders.specs.Answers.{LacksOrder}
use Rattle.joined_orders.specs.Joining.{IsPartOrder, AreJoined}
use Rattle.joined_orders.specs.Owning.{is_own}
use Rattle.joined_orders.specs.Splitting.{part_names}
use Rattle.joined_orders.specs.declared.part.Part.{Part}
use Rattle.nop_types.specs.Legality.{Legal}
use Rattle.order_search.specs.Bounds.{AcceptsAt}
use Rattle.order_search.specs.Outcomes.{IfFound, IfNothing}
use Rattle.order_search.specs.Turns.{AllSubmit, history_at}
use Rattle.order_search.specs.declared.outcome.Outcome.{Outcome}
use Rattle.order_search.specs.declared.outcome.Placed.{Placed}
use Rattle.pairs.proofs.SaidLemmas.{length_said}
use Rattle.pairs.specs.Said.{said_by}

pub returns-in-Nothing-clause-answer : goal.returns-in-Nothing-clause-answer
returns-in-Nothing-clause-answer g c =
    let m = g.P.Service.Host.meaning in
    let part = g.P.Parted.part in
    let most = g.P.Parted.MAX_PARTS in
    let claims = c.args.claims.now in
    let lines = said_by claims in
    let p = c.part-item.result.name.now in
    let none : HasOrder m (filter (is_own part lines p) lines) → ⊥ =
    subst (λ (t : Outcome). IfNothing t (λ k. HasOrder m (filter (is_own part lines p) lines) → ⊥)) c.in-Nothing.is c.in_ok-order.ensures.none in
    let within = subst (λ (t : Outcome). IfNothing t (λ k. k < length claims)) c.in-Nothing.is c.in_ok-order.ensures.within in
    let has = has_parts claims part c.requires.submitted most c.args.parts.now c.requires.split c.requires.few in (
      no_whole_order m part most _ g.met.P.Parted.are_parts lines
          (part_names c.args.parts.now) has c.requires.submitted p none,
      omega (arith, within, length_said claims),
      subst (λ (t : List ℕ). LacksOrder m part most lines t) (sym c.in_ok-part-in-Nothing.ensures)
          (lacks_however claims part c.requires.submitted m most p c.requires.later none),
      subst (λ (t : Outcome). IfNothing t (AcceptsAt lines)) c.in-Nothing.is c.in_ok-order.ensures.accepts,
    )

pub loop-part-preserved : goal.loop-part-preserved
loop-part-preserved g c =
    let m = g.P.Service.Host.meaning in
    let part = g.P.Parted.part in
    let lines = said_by c.args.claims.now in
    let parts = c.args.parts.now in
    let i = c.loop-part.part-index in
    let item = c.part-item.result in
    let at = name_at parts i item (slice_get_read parts _ i item refl c.loop-part-test.true c.part-item.is) in
    let order : IsPartOrder m part lines item.name.now c.in-Found.order.items =
    subst (λ (t : Outcome). IfFound t (IsPartOrder m part lines item.name.now)) c.in-Found.is c.in_ok-order.ensures.found in
    let placed = c.loop-part.placed.items in
    let items = c.in_ok-append-in-Found.ensures ∙ ap (λ (t : List Placed). placed ++ t) c.as_slice.ensures.value in
    record {
      joined =
          subst (λ (t : List Placed). AreJoined m part lines (take (i + 1) (part_names parts)) t) (sym items)
          (one_more_at m part lines (part_names parts) i item.name.now placed c.in-Found.order.items c.requires.split.distinct at
          c.loop-part.invariant.joined order);
      left = omega (arith, c.in_ok-order.ensures.left, c.loop-part.invariant.left);
    }

pub returns-clause-answer : goal.returns-clause-answer
returns-clause-answer g c =
    let m = g.P.Service.Host.meaning in
    let part = g.P.Parted.part in
    let most = g.P.Parted.MAX_PARTS in
    let claims = c.args.claims.now in
    let lines = said_by claims in
    let parts = c.args.parts.now in
    let placed = c.loop-part.placed.items in
    let n = length-map parts (λ (t : Part). t.name.now) in
    let all = take_all c.loop-part.part-index (part_names parts) (omega (arith, n, c.loop-part-test.false)) in
    let joined = subst (λ (t : List (List ℕ)). AreJoined m part lines t placed) all c.loop-part.invariant.joined in
    let has = has_parts claims part c.requires.submitted most parts c.requires.split c.requires.few in
    let sort = c.in_ok-places.ensures in
    let legal =
    joined_is_legal m part most _ g.met.P.Parted.are_parts lines (part_names parts) has
    c.requires.submitted placed sort.0 c.requires.accepted c.requires.later joined sort.1 in
    subst (λ (t : List ℕ). Legal m lines (history_at lines t) × AllSubmit lines t) (sym sort.2) legal
