use Rattle.std.proofs.Common.{◌≡◌}
use Rattle.drawing.proofs.running.record.Given as goal

abbrev pub invariant-loop-turn : goal.invariant-loop-turn
invariant-loop-turn g l = g.S.Source.fault_count l.source ≡ g.S.Source.fault_count l.fn.source
