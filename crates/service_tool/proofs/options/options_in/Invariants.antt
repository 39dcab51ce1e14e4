use Rattle.std.proofs.Common.{◌≡◌, ◌+◌, length}
use Rattle.service_tool.specs.Options.{opening, options_in}
use Rattle.service_tool.proofs.options.options_in.Given as goal

abbrev pub invariant-loop-left : goal.invariant-loop-left
invariant-loop-left l =
    (options_in l.options l.at l.left ≡ options_in opening 0 l.words) × (l.at + length l.left ≡ length l.words)

abbrev pub decreases-loop-left : goal.decreases-loop-left
decreases-loop-left l = length l.left
