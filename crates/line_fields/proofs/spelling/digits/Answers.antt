use Rattle.std.proofs.Common.{sym}
use Rattle.line_fields.proofs.Digits.{digit_stops}
use Rattle.line_fields.proofs.spelling.digits.Goals as goal

pub returns-in-None : goal.returns-in-None
returns-in-None c =
    sym (digit_stops c.loop-d.n c.loop-d.d-index c.args.text.now c.loop-d-test.true (sym c.in-None.ensures) c.loop-d.invariant)
