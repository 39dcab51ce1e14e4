use Rattle.std.proofs.Common.{arith}
use Rattle.peer_codec.proofs.Peers.{is_found, is_only}
use Rattle.peer_codec.proofs.read.decode_peer.Goals as goal

pub returns-clause-found : goal.returns-clause-found
returns-clause-found c = is_found c.args.bytes.now c.peer.result (λ i. omega (arith, c.type_inv.bytes i)) c.peer.ensures

pub returns-clause-only : goal.returns-clause-only
returns-clause-only c = λ p s. is_only c.args.bytes.now c.peer.result p c.peer.ensures s
