-- The step table of a replica over whole messages.
use Rattle.std.specs.Prelude.{ℕ, Bool, true, false}
use Rattle.nop_types.specs.Meaning.{Meaning}
use Rattle.nop_types.specs.CheckpointedLogs.{loads}
use Rattle.nop_types.specs.Logs.{Keeping}
use Rattle.nop_types.specs.declared.view.View.{View}
use Rattle.nop_types.specs.declared.input.Tick.{Tick}
use Rattle.nop_types.specs.declared.input.Tick.TheVariants as ticks
use Rattle.nop_types.specs.declared.datagram.Stamped.{Stamped}
use Rattle.nop_types.specs.declared.peer.Peer.{Peer}
use Rattle.nop_types.specs.declared.peer.Body.{Body}
use Rattle.nop_types.specs.declared.peer.Body.TheVariants as bodies
use Rattle.replica_rows.specs.declared.arrivals.Arrival as code
use Rattle.replica_rows.specs.declared.arrivals.Arrival.TheVariants as arrivals
use Rattle.replica_state.specs.declared.state.ReplicaState.{ReplicaState}
use Rattle.replica_state.specs.State.{is_other, is_from_leader, is_to_leader}
use Rattle.replica_state.specs.Sends.{Effect, still, when}
use Rattle.replica_state.specs.Repeating.{resend}
use Rattle.replica_rows.specs.Rows as rows

-- what a replica takes: a stamped request, a message of another replica, or a tick
pub data Arrival : Type 0 where
  Packet : Stamped → Arrival
  PeerMessage : Peer → Arrival
  Ticked : Tick → Arrival

-- what the code calls an arrival
abbrev pub arrival_of : code.Arrival → Arrival
arrival_of (arrivals.Stamped p) = Packet p
arrival_of (arrivals.PeerMessage p) = PeerMessage p
arrival_of (arrivals.Ticked tick) = Ticked tick

-- ---- messages of the view in which the replica is Normal

abbrev pub from_leader : {S : Type 0} → Meaning S → Keeping → Body → ReplicaState → Effect
from_leader m k (bodies.GapCommit n) s = rows.gap_commit m k n s
from_leader m k (bodies.Found n r) s = rows.found m k n r s
from_leader m k (bodies.SyncPrepare l) s = rows.sync_prepare m k l s
from_leader m k (bodies.SyncCommit n) s = rows.sync_commit m k n s
from_leader m k _ s = still s

abbrev pub from_follower : {S : Type 0} → Meaning S → Keeping → ℕ → Body → ReplicaState → Effect
from_follower m k q (bodies.SlotLookup n) s = rows.slot_lookup m k q n s
from_follower m k q (bodies.GapRep n) s = rows.gap_reply m k q n s
from_follower m k q (bodies.SyncRep n) s = rows.sync_reply m k q n s
from_follower m k q _ s = still s

abbrev pub by_role : {S : Type 0} → Meaning S → Keeping → Bool → Bool → ℕ → Body → ReplicaState → Effect
by_role m k true to_leader q body s = from_leader m k body s
by_role m k false true q body s = from_follower m k q body s
by_role m k false false q body s = still s

abbrev pub dispatch : {S : Type 0} → Meaning S → Keeping → ℕ → View → Body → ReplicaState → Effect
dispatch m k q v body s = by_role m k (is_from_leader s v q) (is_to_leader s v) q body s

-- ---- all messages

abbrev pub on_body : {S : Type 0} → Meaning S → Keeping → Peer → Body → ReplicaState → Effect
on_body m k p bodies.ViewChangeReq s = rows.view_change_request m k p.view s
on_body m k p (bodies.ViewChange u x l) s =
    rows.view_change m k p.view (record { sender = p.sender; last_normal = u; next = x; log = l }) s
on_body m k p (bodies.StartView x l) s = rows.start_view m k p.sender p.view x l s
on_body m k p body s = dispatch m k p.sender p.view body s

unfoldable pub on_message : {S : Type 0} → Meaning S → Keeping → Peer → ReplicaState → Effect
on_message m k p s = when (is_other s p.sender) (on_body m k p p.body) s

abbrev pub ticked : {S : Type 0} → Meaning S → Keeping → Tick → ReplicaState → Effect
ticked m k ticks.Suspect s = rows.suspect m k s
ticked m k ticks.Watch s = rows.watch m k s
ticked m k ticks.Resend s = resend k s
ticked m k ticks.Sync s = rows.sync m k s
ticked m k _ s = still s

-- the log of a message, if it has one, has no checkpoint or one that loads
unfoldable pub loads_in : {S : Type 0} → Meaning S → Body → Bool
loads_in m (bodies.ViewChange u x l) = loads m l
loads_in m (bodies.StartView x l) = loads m l
loads_in m (bodies.SyncPrepare l) = loads m l
loads_in m _ = true

-- a message whose checkpoint does not load does nothing
unfoldable pub arrive : {S : Type 0} → Meaning S → Keeping → ReplicaState → Arrival → Effect
arrive m k s (Packet p) = rows.stamped m k p s
arrive m k s (PeerMessage p) = when (loads_in m p.body) (on_message m k p) s
arrive m k s (Ticked tick) = ticked m k tick s
