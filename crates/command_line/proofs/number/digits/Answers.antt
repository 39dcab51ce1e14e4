use Rattle.std.proofs.Common.{sym}
use Rattle.command_line.proofs.Digits.{digit_stops}
use Rattle.command_line.proofs.number.digits.Goals as goal

pub returns-in-None-clause-value : goal.returns-in-None-clause-value
returns-in-None-clause-value c =
    sym (digit_stops c.args.most c.loop-d.n c.loop-d.d-index c.args.text.now c.loop-d-test.true
    (sym c.in-None.ensures) c.loop-d.invariant.value)
