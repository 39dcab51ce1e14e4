use Rattle.std.proofs.Common.{◌≡◌, ◌+◌, suc, ◌∙◌, arith}
use Rattle.log_merge.proofs.Descending.{put_more, all_put}
use Rattle.log_merge.proofs.moving.put_noops.Goals as goal

pub loop-place-preserved : goal.loop-place-preserved
loop-place-preserved c =
    let more =
    put_more c.args.entries.now.items c.args.others.now c.loop-place.place c.index-others-place.result (omega arith) (omega arith) in
    let next : suc c.loop-place.place ≡ c.loop-place.place + 1 = omega arith in
    let put = c.put_noop.ensures in
    cc

pub returns : goal.returns
returns c = c.loop-place.invariant ∙ all_put c.args.entries.now.items c.args.others.now c.loop-place.place (omega arith)
