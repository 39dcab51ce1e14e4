use Rattle.std.proofs.Common.{◌≡◌, ◌+◌, length, take}
use Rattle.service_load.specs.Loads.{answer_count}
use Rattle.service_load.proofs.tally.Tally.note_all.Given as goal

abbrev pub invariant-loop-one : goal.invariant-loop-one
invariant-loop-one l =
    length l.self.times.items ≡ length l.fn.self.times.items + answer_count (take l.one-index l.told)
