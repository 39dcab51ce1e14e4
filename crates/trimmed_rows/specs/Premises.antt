-- What whole logs have to meet so that they may be trimmed; the protocol gives it.
use Rattle.std.specs.Prelude.{◌≡◌, ◌≤◌, ◌<◌, length, true, Some, None, ⊤}
use Rattle.nop_types.specs.Logs.{Whole, IsWithin}
use Rattle.nop_types.specs.Meaning.{Meaning}
use Rattle.nop_types.specs.declared.peer.Body.{Body}
use Rattle.nop_types.specs.declared.peer.Body.TheVariants as bodies
use Rattle.nop_types.specs.declared.peer.Change.{Change}
use Rattle.nop_types.specs.declared.peer.Peer.{Peer}
use Rattle.log_merge.specs.Merging.{kept_changes, merged}
use Rattle.slot_votes.specs.Synchronisation.{Round}
use Rattle.trimming.specs.Merging.{Agree}
use Rattle.view_change.specs.Gathering.{Gathering, change_added, change_sender}
use Rattle.replica_state.specs.declared.state.ReplicaState.{ReplicaState}
use Rattle.replica_state.specs.State.{PointsMeet, is_other}
use Rattle.replica_rows.specs.Messages.{Arrival, Packet, PeerMessage, Ticked}
use Rattle.replica_rows.specs.Rows.{view_change_request}

-- sync point, what was prepared and a round that waits for votes are within the log, the round above the sync point; the log is sent with
-- the sync point
pub record PointsWithin (s : ReplicaState) : Type 0 where
  pub points : PointsMeet s
  pub sync_point : s.sync.sync_point ≤ length s.log.entries
  pub prepared : s.sync.prepared ≤ length s.log.entries
  pub round : (x : Round) → s.sync.syncing ≡ Some x → (s.sync.sync_point < x.len) × (x.len ≤ length s.log.entries)

-- where enough changes are there to start the view, the merge of those that are kept begins with what the one of the greatest sync point,
-- and of those the one of the lowest sender, has up to there, and is no shorter
pub record StartAgrees (g : Gathering Change) : Type 0 where
  pub agree : Agree (kept_changes g.changes)
  pub within : IsWithin (merged Whole (kept_changes g.changes))

abbrev pub Opens : Gathering Change → Type 0
Opens g = g.f < length g.changes → StartAgrees g

module _ {S : Type 0} (m : Meaning S) where
  -- a replica once it has entered the view that a message asks for
  abbrev pub after_request : Peer → ReplicaState → ReplicaState
  after_request p s = (view_change_request m Whole p.view s).0

  -- a whole log has no checkpoint, and its sync point is within it; and with the change that it tells, what a leader has gathered agrees
  abbrev pub MessageIsWithin : ReplicaState → Peer → Body → Type 0
  MessageIsWithin s p (bodies.ViewChange u x l) = (l.checkpoint ≡ None) × ((g : Gathering Change) → is_other s p.sender ≡ true
      → (after_request p s).view ≡ p.view → (after_request p s).changes ≡ Some g
      → Opens (change_added change_sender g (record { sender = p.sender; last_normal = u; next = x; log = l })))
  MessageIsWithin s p (bodies.StartView x l) = (l.checkpoint ≡ None) × IsWithin l
  MessageIsWithin s p (bodies.SyncPrepare l) = (l.checkpoint ≡ None) × IsWithin l
  MessageIsWithin s p _ = ⊤

  abbrev pub ArrivesWithin : ReplicaState → Arrival → Type 0
  ArrivesWithin s (Packet p) = ⊤
  ArrivesWithin s (PeerMessage p) = MessageIsWithin s p p.body
  ArrivesWithin s (Ticked tick) = ⊤
