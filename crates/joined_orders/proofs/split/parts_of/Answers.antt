use Rattle.std.proofs.Common.{◌≡◌, ℕ, List, length, subst, arith}
use Rattle.std.proofs.lemmas.List.{length-map}
use Rattle.joined_orders.proofs.SplitLemmas.{takes}
use Rattle.joined_orders.proofs.split.parts_of.Goals as goal
use Rattle.joined_orders.specs.Splitting.{part_names, AreSplit, Takes}
use Rattle.joined_orders.specs.declared.part.Part.{Part}
use Rattle.pairs.specs.Said.{said_by}

pub returns-then-len-MAX_PARTS-clause-many : goal.returns-then-len-MAX_PARTS-clause-many
returns-then-len-MAX_PARTS-clause-many g c =
    let lines = said_by c.args.claims.now in
    let part = g.P.Parted.part in
    let old = c.loop-place.split.parts.items in
    let new = c.take.new.self.parts.items in
    let taken : Takes old new (part c.op_at.result.now) c.loop-place.place =
    subst (λ (t : List ℕ). Takes old new t c.loop-place.place) c.part_of-name.ensures c.in_ok-take.ensures.parts in
    let split = takes part lines c.requires.once c.loop-place.place old new c.op_at.result.now c.loop-place.invariant.split c.op_at.ensures taken in
    record {
      parts = part_names new;
      distinct = split.distinct;
      used = split.used;
      many = let e = length-map new (λ (t : Part). t.name.now) in omega (arith, e, c.if-len-MAX_PARTS.true, c.len.ensures, c.MAX_PARTS.ensures);
    }

pub loop-place-preserved : goal.loop-place-preserved
loop-place-preserved g c =
    let lines = said_by c.args.claims.now in
    let part = g.P.Parted.part in
    let old = c.loop-place.split.parts.items in
    let new = c.take.new.self.parts.items in
    let taken : Takes old new (part c.op_at.result.now) c.loop-place.place =
    subst (λ (t : List ℕ). Takes old new t c.loop-place.place) c.part_of-name.ensures c.in_ok-take.ensures.parts in
    record {
      names = c.in_ok-take.ensures.names;
      split = takes part lines c.requires.once c.loop-place.place old new c.op_at.result.now c.loop-place.invariant.split c.op_at.ensures taken;
      few = omega (arith, c.if-len-MAX_PARTS.false, c.len.ensures, c.MAX_PARTS.ensures);
      within = omega (arith, c.loop-place-test.true);
    }

pub returns-clause-split : goal.returns-clause-split
returns-clause-split g c =
    let lines = said_by c.args.claims.now in
    let e : c.loop-place.place ≡ length c.args.claims.now = omega (arith, c.loop-place-test.false, c.loop-place.invariant.within) in
    subst (λ (t : ℕ). AreSplit g.P.Parted.part lines t c.loop-place.split.parts.items) e c.loop-place.invariant.split
