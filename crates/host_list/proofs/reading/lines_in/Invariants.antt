use Rattle.std.proofs.Common.{◌≡◌, ◌+◌, ◌≤◌, length}
use Rattle.std.specs.Option.{option_copied}
use Rattle.host_list.specs.Reading.{nothing, with_lines}
use Rattle.host_list.specs.Words.{lines_of, other_lines}
use Rattle.host_list.proofs.Pieces.{size}
use Rattle.host_list.proofs.reading.lines_in.Given as goal

abbrev pub invariant-loop-left : goal.invariant-loop-left
invariant-loop-left l =
    (with_lines l.found (l.count + 1) (other_lines (option_copied l.left)) ≡ with_lines nothing 1 (lines_of l.text))
    × (l.count + length (other_lines (option_copied l.left)) ≡ length (lines_of l.text))
    × (l.count + size (option_copied l.left) ≤ 1 + length l.text)

abbrev pub decreases-loop-left : goal.decreases-loop-left
decreases-loop-left l = size (option_copied l.left)
