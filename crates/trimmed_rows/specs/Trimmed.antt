-- What becomes of a replica's state, of what arrives and of what is sent where logs are trimmed.
use Rattle.std.specs.Prelude.{map}
use Rattle.std.specs.Option.{option_map}
use Rattle.nop_types.specs.Meaning.{Meaning}
use Rattle.nop_types.specs.declared.peer.Body.{Body}
use Rattle.nop_types.specs.declared.peer.Body.TheVariants as bodies
use Rattle.nop_types.specs.declared.peer.Change.{Change}
use Rattle.nop_types.specs.declared.peer.Peer.{Peer}
use Rattle.trimming.specs.Merging.{trim_change}
use Rattle.trimming.specs.Trimming.{trim}
use Rattle.view_change.specs.Gathering.{Gathering}
use Rattle.replica_state.specs.declared.sending.Sending.{Sending}
use Rattle.replica_state.specs.declared.sending.Sending.TheVariants.{ToClient, ToReplicas, Trims}
use Rattle.replica_state.specs.declared.state.ReplicaState.{ReplicaState}
use Rattle.replica_state.specs.Sends.{Effect}
use Rattle.replica_rows.specs.Messages.{Arrival, Packet, PeerMessage, Ticked}

module _ {S : Type 0} (m : Meaning S) where
  abbrev pub trimmed_gathering : Gathering Change → Gathering Change
  trimmed_gathering g = record g { changes = map (trim_change m) g.changes }

  -- its log, and those of the changes that it has gathered
  abbrev pub trimmed : ReplicaState → ReplicaState
  trimmed s = record s { log = trim m s.log; changes = option_map trimmed_gathering s.changes }

  abbrev pub trimmed_body : Body → Body
  trimmed_body (bodies.ViewChange u x l) = bodies.ViewChange u x (trim m l)
  trimmed_body (bodies.StartView x l) = bodies.StartView x (trim m l)
  trimmed_body (bodies.SyncPrepare l) = bodies.SyncPrepare (trim m l)
  trimmed_body body = body

  -- the log of a message, if it has one
  abbrev pub trimmed_peer : Peer → Peer
  trimmed_peer p = record p { body = trimmed_body p.body }

  -- the entries that move out of the log are the same
  abbrev pub trimmed_sending : Sending → Sending
  trimmed_sending (ToClient r) = ToClient r
  trimmed_sending (ToReplicas dest p) = ToReplicas dest (trimmed_peer p)
  trimmed_sending (Trims first entries) = Trims first entries

  abbrev pub trimmed_effect : Effect → Effect
  trimmed_effect e = (trimmed e.0, map trimmed_sending e.1)

  abbrev pub trimmed_arrival : Arrival → Arrival
  trimmed_arrival (Packet p) = Packet p
  trimmed_arrival (PeerMessage p) = PeerMessage (trimmed_peer p)
  trimmed_arrival (Ticked tick) = Ticked tick
