use Rattle.std.proofs.Common.{◌≡◌, drop, map, Some, []}
use Rattle.command_line.specs.Commands.{ops_on}
use Rattle.command_line.proofs.ops.each_op.Given as goal

abbrev pub invariant-loop-text : goal.invariant-loop-text
invariant-loop-text l =
    ops_on (Some l.ops.items) (drop l.text-index (map (λ t. t.now) l.texts)) ≡ ops_on (Some []) (map (λ t. t.now) l.texts)
