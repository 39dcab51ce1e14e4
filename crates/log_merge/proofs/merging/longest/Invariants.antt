use Rattle.std.proofs.Common.{◌≡◌, ◌≤◌, ◌+◌, max, drop}
use Rattle.nop_types.specs.declared.limits.TheConstants.{MAX_SLOTS, MAX_LENGTH}
use Rattle.log_merge.specs.Merge.{longest}
use Rattle.log_merge.specs.Given.{rests}
use Rattle.log_merge.proofs.merging.longest.Given as goal

abbrev pub invariant-loop-change : goal.invariant-loop-change
invariant-loop-change l = record {
  most : max l.most (longest (rests l.view l.slot (drop l.change-index l.changes))) ≡ longest (rests l.view l.slot l.changes);
  room : l.most ≤ MAX_SLOTS;
  limit : l.slot + l.most ≤ MAX_LENGTH;
}
