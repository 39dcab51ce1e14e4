use Rattle.std.proofs.Common.{◌≡◌, take}
use Rattle.nop_types.proofs.checkpoint.try_clone_answers.Given as goal

-- the results that were copied so far
abbrev pub invariant-loop-answered : goal.invariant-loop-answered
invariant-loop-answered l = l.copy.items ≡ take l.answered-index l.kept
