use Rattle.std.proofs.Common.{arith}
use Rattle.braiding.proofs.Orders.{in_turn_if}
use Rattle.braiding.proofs.running.order_of.Goals as goal

pub returns : goal.returns
returns c = in_turn_if c.args.traces.now.lines.items c.len.result (omega (arith, c.len.ensures, c.args.traces.now.lines.ok.0)) c.all_in_turn.result c.all_in_turn.ensures
