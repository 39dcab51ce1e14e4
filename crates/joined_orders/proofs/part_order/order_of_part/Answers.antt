use Rattle.std.proofs.Common.{◌≡◌, ◌∙◌, ◌<◌, ℕ, List, Some, length, get_or, refl, sym, ap, subst, arith}
use Rattle.std.specs.Prelude.{filter, map, slice_get}
use Rattle.std.proofs.lemmas.Option.{slice_get-get_or, slice_get_read}
use Rattle.joined_orders.proofs.MoveLemmas.{part_order}
use Rattle.joined_orders.proofs.Chosen.{kept_stands}
use Rattle.joined_orders.proofs.SelectLemmas.{below, by_lines, length-own}
use Rattle.joined_orders.proofs.part_order.order_of_part.Goals as goal
use Rattle.joined_orders.specs.Joining.{moved, IsFoundOrder, IsPartOrder, LacksAt}
use Rattle.joined_orders.specs.Owning.{is_own, places_where}
use Rattle.order_search.specs.Outcomes.{IfFound, IfNothing}
use Rattle.order_search.specs.declared.outcome.Outcome.{Outcome}
use Rattle.order_search.specs.declared.outcome.Placed.{Placed}
use Rattle.pairs.specs.Said.{said_by}

pub move_all-requires : goal.move_all-requires
move_all-requires g c =
    let claims = c.args.claims.now in
    let lines = said_by claims in
    let own = is_own g.P.Parted.part lines c.args.part.now.name.now in
    let found : IsFoundOrder g.P.Service.Host.meaning (filter own lines) c.in-Found.placed.items =
    subst (λ (t : Outcome). IfFound t (IsFoundOrder g.P.Service.Host.meaning (filter own lines))) c.in-Found.is c.in_ok-placed.ensures.found in
    let e = length-own claims own c.args.part.now.places.items c.requires.places in
    let f = ap length c.as_slice-places.ensures.value in
    subst (λ (t : List Placed). (k : ℕ) (d : Placed) → k < length t
    → ((get_or t k d).submit < length c.as_slice-places.result.now) × ((get_or t k d).line < length c.as_slice-places.result.now))
    (sym c.as_slice.ensures.value)
    (λ k d l.
    let w = found.within (get_or c.in-Found.placed.items k d) (k, slice_get-get_or c.in-Found.placed.items k d l) in
    (omega (arith, w.0, e, f), omega (arith, w.1, e, f)))

pub index-requires : goal.index-requires
index-requires g c =
    let claims = c.args.claims.now in
    let own = is_own g.P.Parted.part (said_by claims) c.args.part.now.name.now in
    let m = g.P.Service.Host.meaning in
    let lacks : LacksAt m (filter own (said_by claims)) c.in-Nothing.line =
    subst (λ (t : Outcome). IfNothing t (LacksAt m (filter own (said_by claims)))) c.in-Nothing.is c.in_ok-placed.ensures.none in
    let e = length-own claims own c.args.part.now.places.items c.requires.places in
    omega (arith, lacks.1, e)

pub returns-in_ok-order-in-Found-clause-found : goal.returns-in_ok-order-in-Found-clause-found
returns-in_ok-order-in-Found-clause-found g c =
    let claims = c.args.claims.now in
    let lines = said_by claims in
    let part = g.P.Parted.part in
    let p = c.args.part.now.name.now in
    let own = is_own part lines p in
    let m = g.P.Service.Host.meaning in
    let placed = c.in-Found.placed.items in
    let found : IsFoundOrder m (filter own lines) placed =
    subst (λ (t : Outcome). IfFound t (IsFoundOrder m (filter own lines))) c.in-Found.is c.in_ok-placed.ensures.found in
    let places = c.as_slice-places.ensures.value ∙ by_lines claims own c.args.part.now.places.items c.requires.places in
    let items =
    c.in_ok-order-in-Found.ensures
    ∙ ap (λ (t : List Placed). map (moved c.as_slice-places.result.now) t) c.as_slice.ensures.value
    ∙ ap (λ (t : List ℕ). map (moved t) placed) places in
    subst (λ (t : List Placed). IsPartOrder m part lines p t) (sym items)
    (part_order m part lines p c.requires.submitted placed found.legal found.submit found.timed (λ x h. (found.within x h).1))

pub returns-in-Nothing-clause-within : goal.returns-in-Nothing-clause-within
returns-in-Nothing-clause-within g c =
    let claims = c.args.claims.now in
    let own = is_own g.P.Parted.part (said_by claims) c.args.part.now.name.now in
    let m = g.P.Service.Host.meaning in
    let lacks : LacksAt m (filter own (said_by claims)) c.in-Nothing.line =
    subst (λ (t : Outcome). IfNothing t (LacksAt m (filter own (said_by claims)))) c.in-Nothing.is c.in_ok-placed.ensures.none in
    let places = c.args.part.now.places.items in
    let e = length-own claims own places c.requires.places in
    let b = below claims own places c.requires.places c.in-Nothing.line c.index.result.now (omega (arith, lacks.1, e)) in
    omega (arith, b, c.index.ensures)

pub returns-in-Nothing-clause-accepts : goal.returns-in-Nothing-clause-accepts
returns-in-Nothing-clause-accepts g c =
    let claims = c.args.claims.now in
    let lines = said_by claims in
    let own = is_own g.P.Parted.part lines c.args.part.now.name.now in
    let m = g.P.Service.Host.meaning in
    let lacks : LacksAt m (filter own lines) c.in-Nothing.line =
    subst (λ (t : Outcome). IfNothing t (LacksAt m (filter own lines))) c.in-Nothing.is c.in_ok-placed.ensures.none in
    let places = c.args.part.now.places.items in
    let e = length-own claims own places c.requires.places in
    let within : c.in-Nothing.line < length places = omega (arith, lacks.1, e) in
    let here : slice_get places c.in-Nothing.line ≡ Some c.index.result.now =
    slice_get_read places _ c.in-Nothing.line c.index.result.now refl within c.index.ensures in
    let there : slice_get (places_where own lines (length lines)) c.in-Nothing.line ≡ Some c.index.result.now =
    ap (λ (t : List ℕ). slice_get t c.in-Nothing.line) (sym (by_lines claims own places c.requires.places)) ∙ here in
    let a = lacks.2 in
    record {
      client = a.client;
      id = a.id;
      result = a.result;
      accepts = kept_stands own lines c.in-Nothing.line c.index.result.now _ a.accepts there;
    }
