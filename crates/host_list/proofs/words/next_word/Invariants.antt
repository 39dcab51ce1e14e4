use Rattle.std.proofs.Common.{◌≡◌}
use Rattle.std.specs.Option.{option_copied}
use Rattle.host_list.specs.Words.{other_words}
use Rattle.host_list.proofs.Pieces.{size}
use Rattle.host_list.proofs.words.next_word.Given as goal

abbrev pub invariant-loop-left : goal.invariant-loop-left
invariant-loop-left l = other_words (option_copied l.left) ≡ other_words (option_copied l.rest)

abbrev pub decreases-loop-left : goal.decreases-loop-left
decreases-loop-left l = size (option_copied l.left)
