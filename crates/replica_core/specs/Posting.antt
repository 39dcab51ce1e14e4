-- How what a replica sends becomes outputs.
use Rattle.std.specs.Prelude.{ℕ, ◌+◌, List, [], ◌∷◌, ◌++◌}
use Rattle.nop_types.specs.declared.datagram.Reply.{Reply}
use Rattle.nop_types.specs.declared.datagram.Datagram.TheVariants as datagrams
use Rattle.nop_types.specs.declared.output.Out.{Out}
use Rattle.nop_types.specs.declared.output.Out.TheVariants as outs
use Rattle.nop_types.specs.declared.output.Dest.{Dest}
use Rattle.nop_types.specs.declared.output.Dest.TheVariants.{One}
use Rattle.nop_types.specs.declared.output.Actor.TheVariants.{Client}
use Rattle.nop_types.specs.declared.peer.Peer.{Peer}
use Rattle.oum_codec.specs.Spelling as datagram
use Rattle.peer_codec.specs.Spelling as peer
use Rattle.fragments.specs.Cutting.{fragments_of, sends_of}
use Rattle.replica_state.specs.declared.sending.Sending.{Sending}
use Rattle.replica_state.specs.declared.sending.Sending.TheVariants.{ToClient, ToReplicas, Trims}

-- a reply is one datagram, to its client
abbrev pub reply_out : Reply → Out
reply_out r = outs.Send (One (Client r.client)) (datagram.spelling (datagrams.Reply r))

-- a message is cut under its number
abbrev pub message_outs : ℕ → Dest → Peer → List Out
message_outs number dest p = sends_of dest (fragments_of p.sender number (peer.spelling p))

-- the outputs of what is sent in order, where this message number was used last: each message takes the next one, and entries that
-- moved out of the log none
unfoldable pub posted : ℕ → List Sending → List Out
posted number [] = []
posted number (ToClient r ∷ sends) = reply_out r ∷ posted number sends
posted number (ToReplicas dest p ∷ sends) = message_outs (number + 1) dest p ++ posted (number + 1) sends
posted number (Trims first entries ∷ sends) = outs.Trimmed first entries ∷ posted number sends
