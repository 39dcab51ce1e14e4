use Rattle.std.proofs.Common.{◌≡◌, drop}
use Rattle.trace_text.specs.Traces.{submitted}
use Rattle.trace_text.proofs.step.submitted.Given as goal

abbrev pub invariant-loop-out : goal.invariant-loop-out
invariant-loop-out l = submitted (drop l.out-index l.outs) ≡ submitted l.outs
