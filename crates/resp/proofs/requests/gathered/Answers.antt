use Rattle.std.proofs.Common.{arith}
use Rattle.resp.proofs.Collected.{is_in}
use Rattle.resp.proofs.requests.gathered.Goals as goal

pub returns : goal.returns
returns c =
    is_in c.args.bytes.now c.args.body.now c.args.rest.now c.args.count _ c.requires.line c.requires.rest c.in_ok-arguments.ensures
    (omega arith)
