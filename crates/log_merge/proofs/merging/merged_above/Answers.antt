use Rattle.std.proofs.Common.{ℕ, suc, length, ap, ◌∙◌, arith}
use Rattle.std.proofs.lemmas.List.FromFn.{length-map-range_with_len, map-range_with_len_more}
use Rattle.nop_types.specs.declared.request.Entry.{Entry}
use Rattle.log_merge.specs.Merge.{chosen, entry_of}
use Rattle.log_merge.specs.Given.{rests}
use Rattle.log_merge.proofs.merging.merged_above.Goals as goal

pub loop-place-preserved : goal.loop-place-preserved
loop-place-preserved c =
    let won : ℕ → Entry = λ k. entry_of (chosen (rests c.args.view c.args.slot c.args.changes.now) k) in
    let next = map-range_with_len_more won 1 c.loop-place.place (suc c.loop-place.place) (omega arith) in
    let entries = c.in_ok-push.ensures.items in
    let entry = c.in_ok-entry_at.ensures in
    cc

pub returns-clause-room : goal.returns-clause-room
returns-clause-room c =
    let won : ℕ → Entry = λ k. entry_of (chosen (rests c.args.view c.args.slot c.args.changes.now) k) in
    omega (
      arith,
      ap length c.loop-place.invariant ∙ length-map-range_with_len won 1 c.loop-place.place,
      c.longest-slots.ensures.room,
    )

pub returns-clause-limit : goal.returns-clause-limit
returns-clause-limit c =
    let won : ℕ → Entry = λ k. entry_of (chosen (rests c.args.view c.args.slot c.args.changes.now) k) in
    omega (
      arith,
      ap length c.loop-place.invariant ∙ length-map-range_with_len won 1 c.loop-place.place,
      c.longest-slots.ensures.limit,
    )
