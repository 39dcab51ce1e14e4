-- Which sync points are sent with logs.
use Rattle.std.specs.Prelude.{ℕ, map, Option, Some, None}
use Rattle.nop_types.specs.declared.peer.Body.{Body}
use Rattle.nop_types.specs.declared.peer.Change.{Change}
use Rattle.nop_types.specs.PlainChanges.{plain}
use Rattle.nop_types.specs.declared.peer.Body.TheVariants as bodies
use Rattle.log_merge.specs.Starting.{greatest_point}
use Rattle.view_change.specs.Gathering.{Gathering}
use Rattle.replica_rows.specs.Messages.{Arrival, Packet, PeerMessage, Ticked}

-- in a message; 0 where it has no log
abbrev pub point_in_body : Body → ℕ
point_in_body (bodies.ViewChange u x l) = l.sync_point
point_in_body (bodies.StartView x l) = l.sync_point
point_in_body (bodies.SyncPrepare l) = l.sync_point
point_in_body _ = 0

abbrev pub point_in_arrival : Arrival → ℕ
point_in_arrival (Packet p) = 0
point_in_arrival (PeerMessage p) = point_in_body p.body
point_in_arrival (Ticked tick) = 0

-- in the changes that a leader has gathered
abbrev pub gathered_point : Option (Gathering Change) → ℕ
gathered_point None = 0
gathered_point (Some g) = greatest_point (map plain g.changes)
