use Rattle.std.proofs.Common.{arith}
use Rattle.line_reader.proofs.Searched.{none, found}
use Rattle.line_reader.proofs.first_line.line_end.Goals as goal

pub returns-in_err-at : goal.returns-in_err-at
returns-in_err-at c =
    let bytes = c.args.bytes.now in
    let reach = c.min-reach.result in
    rw (c.from_residual.ensures, ← c.min-reach.ensures)
    (none bytes c.args.searched reach c.requires (omega (arith, c.min-reach.ensures, c.requires)) (omega (arith, c.min-reach.ensures))
    c.in_err-at.ensures)

pub returns : goal.returns
returns c =
    let bytes = c.args.bytes.now in
    let reach = c.min-reach.result in
    found bytes c.args.searched reach c.requires (omega (arith, c.min-reach.ensures, c.requires)) (omega (arith, c.min-reach.ensures))
    c.in_ok-at.at (omega (arith, c.min-reach.ensures)) c.in_ok-at.ensures.0 c.in_ok-at.ensures.1
