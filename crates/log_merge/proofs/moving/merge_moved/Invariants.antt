use Rattle.std.proofs.Common.{◌≡◌, ◌≤◌, ◌+◌, [], None, length, filter, vec_len}
use Rattle.nop_types.specs.declared.limits.TheConstants.{MAX_SLOTS, MAX_LENGTH}
use Rattle.nop_types.specs.Views.{is_view}
use Rattle.log_merge.specs.Given.{rests}
use Rattle.log_merge.proofs.Descending.{of_all, taken}
use Rattle.log_merge.proofs.moving.merge_moved.Given as goal

abbrev pub invariant-loop-change : goal.invariant-loop-change
invariant-loop-change l = record {
  merged : of_all (rests l.view l.sync_point l.changes.items) l.entries.items
      ≡ of_all (rests l.view l.sync_point l.initial.changes.items) [];
  taken : taken l.sender (filter (λ c. is_view c.last_normal l.view) l.changes.items) l.checkpoint
      ≡ taken l.sender (filter (λ c. is_view c.last_normal l.view) l.initial.changes.items) None;
  room : length l.entries.items ≤ MAX_SLOTS;
  limit : l.sync_point + length l.entries.items ≤ MAX_LENGTH;
}

abbrev pub decreases-loop-change : goal.decreases-loop-change
decreases-loop-change l = vec_len l.changes
