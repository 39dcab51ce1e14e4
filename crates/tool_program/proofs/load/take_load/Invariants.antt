use Rattle.std.proofs.Common.{◌≡◌, length}
use Rattle.tool_program.proofs.load.take_load.Given as goal

abbrev pub invariant-loop : goal.invariant-loop
invariant-loop l = length l.loading.lanes.items ≡ length l.fn.loading.lanes.items
