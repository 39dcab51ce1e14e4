-- A log that is trimmed, step by step: three replicas, of which the leader and one follower log a request; it is synchronised; the third
-- replica, which missed it, is told the log.
use Rattle.std.specs.Prelude.{◌≡◌, ℕ, List, [], ◌∷◌, true, Option, Some, None}
use Rattle.std.specs.FinMap as finite
use Rattle.nop_types.specs.Checkpoints.{checkpoint_of}
use Rattle.nop_types.specs.Configuration.{Configuration}
use Rattle.nop_types.specs.Execution.{exec}
use Rattle.nop_types.specs.Logs.{Log, Keeping, Whole, Trimmed, whole}
use Rattle.nop_types.specs.Meaning.{Meaning}
use Rattle.nop_types.specs.Views.{first_view}
use Rattle.nop_types.specs.declared.datagram.Stamped.{Stamped}
use Rattle.nop_types.specs.declared.input.Tick.TheVariants as ticks
use Rattle.nop_types.specs.declared.output.Actor.TheVariants.{Replica}
use Rattle.nop_types.specs.declared.output.Dest.TheVariants.{Replicas, One}
use Rattle.nop_types.specs.declared.peer.Body.{Body}
use Rattle.nop_types.specs.declared.peer.Body.TheVariants as bodies
use Rattle.nop_types.specs.declared.peer.Peer.{Peer}
use Rattle.nop_types.specs.declared.replica_state.Phase.TheVariants.{Normal}
use Rattle.nop_types.specs.declared.request.Entry.{Entry}
use Rattle.nop_types.specs.declared.request.Entry.TheVariants.{Req}
use Rattle.nop_types.specs.declared.request.Request.{Request}
use Rattle.oum_receiver.specs.Receiving as receiving
use Rattle.oum_receiver.specs.Receiving.{Receiving}
use Rattle.slot_votes.specs.Synchronisation.{Synchronisation, Round}
use Rattle.replica_state.specs.declared.sending.Sending.{Sending}
use Rattle.replica_state.specs.declared.sending.Sending.TheVariants.{ToClient, ToReplicas, Trims}
use Rattle.replica_state.specs.declared.state.ReplicaState.{ReplicaState}
use Rattle.replica_rows.specs.Messages.{Packet, PeerMessage, Ticked, arrive}

-- client 0 puts v at the key k, and gets it
abbrev pub put : Request
put = record { client = 0; id = 1; op = 80 ∷ 0 ∷ 1 ∷ 107 ∷ 0 ∷ 1 ∷ 118 ∷ [] }

abbrev pub get : Request
get = record { client = 0; id = 2; op = 71 ∷ 0 ∷ 1 ∷ 107 ∷ [] }

abbrev pub stamp : ℕ → Request → Stamped
stamp n q = record { session = 1; number = n; request = q }

abbrev pub three : Configuration
three = record { replicas = 3; sequencers = 1; clients = 1; controllers = 1; observers = 0 }

abbrev pub sync_of : ℕ → ℕ → Option Round → Synchronisation
sync_of n p x = record { f = 1; sync_point = n; prepared = p; syncing = x }

abbrev pub round : Option Round
round = Some (record { len = 1; votes = [] })

-- replica r in Normal in the first view, with its log, its next number, its receiver and the slot that it asked for last
abbrev pub stands : ℕ → Log → ℕ → Receiving → Synchronisation → ℕ → ReplicaState
stands r l next receiver sync asked = record {
  config = three;
  number = r;
  view = first_view;
  status = Normal;
  last_normal = first_view;
  log = l;
  next = next;
  base = 0;
  receiver = receiver;
  gap = None;
  sync = sync;
  changes = None;
  asked = asked;
  heard = true;
}

abbrev pub start : ℕ → ReplicaState
start r = stands r (whole 0 []) 1 (receiving.opened 1 1) (sync_of 0 0 None) 0

abbrev pub says : ℕ → Body → Peer
says r body = record { sender = r; view = first_view; body = body }

abbrev pub replies : ℕ → ℕ → Request → ℕ → List ℕ → Sending
replies r slot q tag result =
    ToClient (record { replica = r; view = first_view; slot = slot; client = q.client; id = q.id; tag = tag; result = result })

-- a receiver at n with the one request q queued, of number k
abbrev pub queued : ℕ → ℕ → Request → Receiving
queued n k q = record { session = 1; next = n; queued = finite.insert finite.empty k q }

-- the put alone, not synchronised
abbrev pub one : Log
one = whole 0 (Req put ∷ [])

module _ {S : Type 0} (m : Meaning S) where
  -- the put is synchronised, and these entries stand behind it
  abbrev pub synced : Keeping → List Entry → Log
  synced Whole es = whole 1 (Req put ∷ es)
  synced Trimmed es = record { sync_point = 1; checkpoint = Some (checkpoint_of m (exec m (Req put ∷ []))); entries = es }

  pub record WorkedSteps (k : Keeping) : Type 0 where
    -- both take the put; the leader replies with its result
    pub leader_takes : arrive m k (start 0) (Packet (stamp 1 put))
        ≡ (stands 0 one 2 (receiving.opened 1 2) (sync_of 0 0 None) 0, replies 0 1 put 1 (m.answer m.opening put.op) ∷ [])
    pub follower_takes : arrive m k (start 1) (Packet (stamp 1 put))
        ≡ (stands 1 one 2 (receiving.opened 1 2) (sync_of 0 0 None) 0, replies 1 1 put 0 [] ∷ [])
    -- the leader sends its log, the follower votes, and the log is synchronised. The put moves out of the log: where that is trimmed, a
    -- checkpoint is in its place
    pub leader_sends : arrive m k (stands 0 one 2 (receiving.opened 1 2) (sync_of 0 0 None) 0) (Ticked ticks.Sync)
        ≡ (stands 0 one 2 (receiving.opened 1 2) (sync_of 0 0 round) 0, ToReplicas Replicas (says 0 (bodies.SyncPrepare one)) ∷ [])
    pub follower_votes : arrive m k (stands 1 one 2 (receiving.opened 1 2) (sync_of 0 0 None) 0) (PeerMessage (says 0 (bodies.SyncPrepare one)))
        ≡ (stands 1 one 2 (receiving.opened 1 2) (sync_of 0 1 None) 0, ToReplicas (One (Replica 0)) (says 1 (bodies.SyncRep 1)) ∷ [])
    pub leader_settles : arrive m k (stands 0 one 2 (receiving.opened 1 2) (sync_of 0 0 round) 0) (PeerMessage (says 1 (bodies.SyncRep 1)))
        ≡ (
          stands 0 (synced k []) 2 (receiving.opened 1 2) (sync_of 1 0 None) 0,
          ToReplicas Replicas (says 0 (bodies.SyncCommit 1)) ∷ Trims 1 (whole 0 (Req put ∷ [])) ∷ [],
        )
    -- the third replica gets the next request alone, and asks for slot 1; it is told what is synchronised, and goes on from there
    pub third_asks : arrive m k (start 2) (Packet (stamp 2 get))
        ≡ (stands 2 (whole 0 []) 1 (queued 1 2 get) (sync_of 0 0 None) 1, ToReplicas (One (Replica 0)) (says 2 (bodies.SlotLookup 1)) ∷ [])
    pub leader_answers : arrive m k (stands 0 (synced k []) 2 (receiving.opened 1 2) (sync_of 1 0 None) 0) (PeerMessage (says 2 (bodies.SlotLookup 1)))
        ≡ (
          stands 0 (synced k []) 2 (receiving.opened 1 2) (sync_of 1 0 None) 0,
          ToReplicas (One (Replica 2)) (says 0 (bodies.SyncPrepare (synced k []))) ∷ [],
        )
    pub third_goes_on : arrive m k (stands 2 (whole 0 []) 1 (queued 1 2 get) (sync_of 0 0 None) 1) (PeerMessage (says 0 (bodies.SyncPrepare (synced k []))))
        ≡ (
          stands 2 (synced k (Req get ∷ [])) 3 (receiving.opened 1 3) (sync_of 1 1 None) 1,
          ToReplicas (One (Replica 0)) (says 2 (bodies.SyncRep 1)) ∷ replies 2 2 get 0 [] ∷ [],
        )
