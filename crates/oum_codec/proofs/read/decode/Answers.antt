use Rattle.std.proofs.Common.{arith}
use Rattle.oum_codec.proofs.Datagrams.{is_found, is_only}
use Rattle.oum_codec.proofs.read.decode.Goals as goal

pub returns-clause-found : goal.returns-clause-found
returns-clause-found c = is_found c.args.bytes.now c.datagram.result (λ i. omega (arith, c.type_inv.bytes i)) c.datagram.ensures

pub returns-clause-only : goal.returns-clause-only
returns-clause-only c = λ d s. is_only c.args.bytes.now c.datagram.result d c.datagram.ensures s
