use Rattle.std.proofs.Common.{rules, sym, ◌∙◌}
use Rattle.command_line.proofs.OpLemmas.{op_stops, op_goes_on}
use Rattle.command_line.proofs.ops.each_op.Goals as goal

pub returns-in-None : goal.returns-in-None
returns-in-None c =
    sym (op_stops c.loop-text.ops.items c.args.texts.now c.loop-text.text-index _ c.loop-text-test.true
    (sym c.in_ok-op.ensures ∙ c.in-None.is) c.loop-text.invariant)

pub loop-text-preserved : goal.loop-text-preserved
loop-text-preserved c =
    op_goes_on c.loop-text.ops.items c.push.new.self.items c.in-Some.op c.args.texts.now c.loop-text.text-index _ c.loop-text-test.true
    (sym c.in_ok-op.ensures ∙ c.in-Some.is) (search rules) c.loop-text.invariant
