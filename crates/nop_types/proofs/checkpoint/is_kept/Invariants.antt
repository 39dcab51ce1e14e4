use Rattle.std.proofs.Common.{◌≡◌, drop}
use Rattle.nop_types.specs.Checkpoints.{least_kept, runs_to}
use Rattle.nop_types.proofs.checkpoint.is_kept.Given as goal

-- the answer turns on the others
abbrev pub invariant-loop-answered : goal.invariant-loop-answered
invariant-loop-answered l = runs_to l.greatest l.least (drop l.answered-index l.kept) ≡ runs_to l.greatest (least_kept l.greatest) l.kept
