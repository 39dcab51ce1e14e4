use Rattle.std.proofs.Common.{◌≡◌}
use Rattle.log_merge.specs.Pairs.{with_noops}
use Rattle.log_merge.proofs.Descending.{noops_over}
use Rattle.log_merge.proofs.moving.of_logs.Goals as goal

pub returns : goal.returns
returns c =
    let seen = c.deref.ensures.value in
    let put = c.put_noops.ensures in
    let all : c.put_noops.new.entries.items ≡ with_noops c.args.lower.items c.args.higher.items = cc in
    noops_over c.put_noops.new.entries.items c.lay_over.new.entries.items c.args.lower.items c.args.higher.items all
    c.lay_over.ensures.over
