-- The message that bytes stand for.
use Rattle.std.specs.Prelude.{ℕ, List, Result, Ok, Err}
use Rattle.nop_types.specs.declared.peer.Peer.{Peer}
use Rattle.nop_types.specs.declared.peer.Body.TheVariants.{ViewChangeReq}
use Rattle.peer_codec.specs.declared.bad_peer.BadPeer.{BadPeer}
use Rattle.peer_codec.specs.Reading.{reading}

abbrev pub message_or_other : Result Peer BadPeer → Peer
message_or_other (Ok p) = p
message_or_other (Err e) = record { sender = 0; view = record { leader = 0; session = 0 }; body = ViewChangeReq }

-- the message that the bytes spell; some message, where they spell none
abbrev pub message_in : List ℕ → Peer
message_in bytes = message_or_other (reading bytes)
