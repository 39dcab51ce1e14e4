-- A message has some bytes, and no more than the most fragments hold.
use Rattle.std.proofs.Common.{arith}
use Rattle.nop_types.specs.Ranges.{PeerFits}
use Rattle.nop_types.specs.declared.peer.Peer.{Peer}
use Rattle.fragments.proofs.Limits.{has_cut}
use Rattle.fragments.specs.Cutting.{HasNoCut}
use Rattle.peer_codec.specs.Spelling.{spelling}
use Rattle.peer_codec.proofs.Longest.{spelling_most}
use Rattle.peer_codec.proofs.SpelledLengths.{spelling_len}

pub message_is_cut : (p : Peer) → PeerFits p → ¬ HasNoCut (spelling p)
message_is_cut p fits =
    let exact = spelling_len p in
    let most = spelling_most p fits in
    has_cut (spelling p) (omega (arith, exact)) (omega (arith, most))
