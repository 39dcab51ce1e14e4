use Rattle.std.proofs.Common.{◌≡◌, ◌++◌, take}
use Rattle.std.specs.List.{concat}
use Rattle.trace_text.specs.Traces.{out_lines}
use Rattle.trace_text.proofs.step.put_outs.Given as goal

abbrev pub invariant-loop-out : goal.invariant-loop-out
invariant-loop-out l = l.to.items ≡ l.fn.to.items ++ concat (out_lines l.actor (take l.out-index l.outs))
