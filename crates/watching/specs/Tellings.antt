-- What leaders tell of their synchronised lengths, in datagrams.
use Rattle.std.specs.Prelude.{ℕ, List, Bool, true, false, Option, Some, None, Result, Ok, Err, nat_lt, ◌==◌}
use Rattle.nop_types.specs.Views.{leader_of}
use Rattle.nop_types.specs.declared.datagram.Datagram.{Datagram}
use Rattle.nop_types.specs.declared.datagram.Datagram.TheVariants as datagrams
use Rattle.nop_types.specs.declared.datagram.Fragment.{Fragment}
use Rattle.nop_types.specs.declared.peer.Body.{Body}
use Rattle.nop_types.specs.declared.peer.Body.TheVariants as bodies
use Rattle.nop_types.specs.declared.peer.Peer.{Peer}
use Rattle.oum_codec.specs.declared.bad.Bad.{Bad}
use Rattle.oum_codec.specs.Reading.{reading}
use Rattle.peer_codec.specs.declared.bad_peer.BadPeer.{BadPeer}
use Rattle.peer_codec.specs.Reading as peers
use Rattle.fragments.specs.Joining.{Waiting, taken}
use Rattle.watching.specs.declared.telling.Telling.{Telling}

-- up to where the log is synchronised, by a message
abbrev pub synced_of : Body → Option ℕ
synced_of (bodies.StartView next log) = Some log.sync_point
synced_of (bodies.SyncPrepare log) = Some log.sync_point
synced_of (bodies.SyncCommit len) = Some len
synced_of body = None

abbrev pub telling_at : Peer → Option ℕ → Option Telling
telling_at p None = None
telling_at p (Some len) = Some (record { view = p.view; len = len })

abbrev pub telling_if : Bool → Peer → Option Telling
telling_if true p = telling_at p (synced_of p.body)
telling_if false p = None

module _ (n : ℕ) where
  -- of the leader of its view, of n replicas
  abbrev pub telling_of : Peer → Option Telling
  telling_of p = telling_if (p.sender == leader_of p.view n) p

  abbrev pub of_sender_if : Bool → Peer → Option Telling
  of_sender_if true p = telling_of p
  of_sender_if false p = None

  -- a message that was joined of the fragments of a replica has to be of that replica
  abbrev pub read : ℕ → Result Peer BadPeer → Option Telling
  read q (Ok p) = of_sender_if (p.sender == q) p
  read q (Err e) = None

  abbrev pub joined : ℕ → Option (List ℕ) → Option Telling
  joined q None = None
  joined q (Some bytes) = read q (peers.reading bytes)

  abbrev pub fragment_if : Bool → List Waiting → Fragment → List Waiting × Option Telling
  fragment_if true kept f = ((taken kept f).0, joined f.replica (taken kept f).1)
  fragment_if false kept f = (kept, None)

  abbrev pub on_datagram : List Waiting → Result Datagram Bad → List Waiting × Option Telling
  on_datagram kept (Ok (datagrams.Fragment f)) = fragment_if (nat_lt f.replica n) kept f
  on_datagram kept _ = (kept, None)

  -- the fragments that wait after a datagram, and what the message tells that it completes
  unfoldable pub told_by : List Waiting → List ℕ → List Waiting × Option Telling
  told_by kept bytes = on_datagram kept (reading bytes)
