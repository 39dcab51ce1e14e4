use Rattle.std.proofs.Common.{◌≡◌, drop}
use Rattle.nop_types.specs.Given.{given}
use Rattle.trace_text.specs.Traces.{asked_or}
use Rattle.trace_text.proofs.step.asked_or.Given as goal

abbrev pub invariant-loop-out : goal.invariant-loop-out
invariant-loop-out l = asked_or (given l.input) (drop l.out-index l.outs) ≡ asked_or (given l.input) l.outs
