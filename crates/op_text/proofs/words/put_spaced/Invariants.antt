use Rattle.std.proofs.Common.{◌≡◌, ◌++◌, take}
use Rattle.std.specs.List.{flat_map}
use Rattle.op_text.specs.Words.{after_space}
use Rattle.op_text.proofs.words.put_spaced.Given as goal

abbrev pub invariant-loop-word : goal.invariant-loop-word
invariant-loop-word l = l.to.items ≡ l.fn.to.items ++ flat_map after_space (take l.word-index l.words)
