use Rattle.std.proofs.Common.{◌≡◌, take}
use Rattle.log_merge.specs.Pairs.{with_noops}
use Rattle.log_merge.proofs.moving.put_noops.Given as goal

abbrev pub invariant-loop-place : goal.invariant-loop-place
invariant-loop-place l = l.entries.items ≡ with_noops l.initial.entries.items (take l.place l.others)
