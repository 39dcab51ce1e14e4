-- What the protocol sees of a replica's state and of what it sends.
use Rattle.std.specs.Prelude.{List, [], ◌∷◌, map}
use Rattle.std.specs.Option.{option_map}
use Rattle.nop_types.specs.declared.datagram.Reply.{Reply}
use Rattle.nop_types.specs.PlainChanges.{Change, plain}
use Rattle.nop_types.specs.declared.peer.Change as code
use Rattle.nop_types.specs.declared.peer.Peer.{Peer}
use Rattle.nop_types.specs.declared.peer.Body.{Body}
use Rattle.nop_types.specs.declared.peer.Body.TheVariants as bodies
use Rattle.view_change.specs.Gathering.{Gathering}
use Rattle.replica_state.specs.declared.sending.Sending.{Sending}
use Rattle.replica_state.specs.declared.sending.Sending.TheVariants.{ToClient, ToReplicas, Trims}
use Rattle.replica_state.specs.declared.state.ReplicaState.{ReplicaState}
use Rattle.protocol.specs.LocalState.{LocalState}
use Rattle.protocol.specs.Said.{Said, Word, Plain, Found, GapCommit, GapRep, ViewChange, StartView, SyncPrepare, SyncRep, SyncCommit, says}

-- the logs of what a leader gathers as lists
abbrev pub plain_gathering : Gathering code.Change → Gathering Change
plain_gathering g = record { view = g.view; f = g.f; changes = map plain g.changes }

-- without what keeps no promise to others: the slot that was asked for last, and whether the leader was heard
abbrev pub local_state_of : ReplicaState → LocalState
local_state_of s =
    record {
      number = s.number;
      replicas = s.config.replicas;
      view = s.view;
      status = s.status;
      last_normal = s.last_normal;
      log = s.log.entries;
      next = s.next;
      base = s.base;
      receiver = s.receiver;
      gap = s.gap;
      sync = s.sync;
      changes = option_map plain_gathering s.changes;
    }

abbrev pub word_of : Body → Word
word_of (bodies.SlotLookup k) = Plain
word_of (bodies.Found k r) = Found k r
word_of (bodies.GapCommit k) = GapCommit k
word_of (bodies.GapRep k) = GapRep k
word_of bodies.ViewChangeReq = Plain
word_of (bodies.ViewChange u x l) = ViewChange u x l.sync_point l.entries
word_of (bodies.StartView x l) = StartView x l.sync_point l.entries
word_of (bodies.SyncPrepare l) = SyncPrepare l.sync_point l.entries
word_of (bodies.SyncRep k) = SyncRep k
word_of (bodies.SyncCommit k) = SyncCommit k

abbrev pub said_of : Peer → Said
said_of p = says p.sender p.view (word_of p.body)

-- what is said to other replicas, whoever they are
abbrev pub said_in : List Sending → List Said
said_in [] = []
said_in (ToClient r ∷ sends) = said_in sends
said_in (ToReplicas dest p ∷ sends) = said_of p ∷ said_in sends
said_in (Trims first entries ∷ sends) = said_in sends

-- the replies to clients
abbrev pub replied_in : List Sending → List Reply
replied_in [] = []
replied_in (ToClient r ∷ sends) = r ∷ replied_in sends
replied_in (ToReplicas dest p ∷ sends) = replied_in sends
replied_in (Trims first entries ∷ sends) = replied_in sends
