-- What the whole world tells of sync points, after any events: so much as trimming needs of it.
use Rattle.std.specs.Prelude.{◌≡◌, ◌≤◌, ℕ, List, true, Option, Some, None, slice_get}
use Rattle.nop_types.specs.Configuration.{Configuration, is_configuration}
use Rattle.nop_types.specs.Lists.{Has}
use Rattle.nop_types.specs.Logs.{Log, Whole, Trimmed, IsWithin}
use Rattle.nop_types.specs.Meaning.{Meaning}
use Rattle.nop_types.specs.declared.output.Actor.{Actor}
use Rattle.nop_types.specs.declared.peer.Body.{Body}
use Rattle.nop_types.specs.declared.peer.Body.TheVariants as bodies
use Rattle.nop_types.specs.declared.peer.Change.{Change}
use Rattle.nop_types.specs.declared.view.View.{View}
use Rattle.started_views.specs.Logs.{SameTo}
use Rattle.view_change.specs.Gathering.{Gathering, change_added, change_sender}
use Rattle.replica_state.specs.Moves.{enter}
use Rattle.replica_state.specs.State.{is_other}
use Rattle.replica_rows.specs.Messages.{Arrival, arrive}
use Rattle.replica_rows.specs.Within.{ResultsShort}
use Rattle.trimmed_rows.specs.Premises.{PointsWithin, Opens, after_request}
use Rattle.trimmed_rows.specs.Trimmed.{trimmed, trimmed_effect, trimmed_arrival}
use Rattle.world.specs.Seats.{Seated}
use Rattle.whole_world.specs.Whole.{WholeReplica, WholeWorld, Letter, Brings, arrival_of}
use Rattle.whole_world.specs.Passed.{passed}
use Rattle.whole_world.specs.Safe.{AllFit, IsSafe}

-- the log of a message
abbrev pub log_in_body : Body → Option Log
log_in_body (bodies.ViewChange u x l) = Some l
log_in_body (bodies.StartView x l) = Some l
log_in_body (bodies.SyncPrepare l) = Some l
log_in_body _ = None

-- ---- sync points are within the logs

-- of each replica, of each log that was sent, which has no checkpoint, and of each change that a leader has gathered
pub record AllWithin (w : WholeWorld) : Type 0 where
  pub replicas : (i : ℕ) (p : Seated WholeReplica) → slice_get w.replicas i ≡ Some p → PointsWithin p.state.state
  pub letters : (x : Letter) (l : Log) → Has w.letters x → log_in_body x.peer.body ≡ Some l → IsWithin l
  pub whole : (x : Letter) (l : Log) → Has w.letters x → log_in_body x.peer.body ≡ Some l → l.checkpoint ≡ None
  pub gathered : (i : ℕ) (p : Seated WholeReplica) (g : Gathering Change) (c : Change) → slice_get w.replicas i ≡ Some p
      → p.state.state.changes ≡ Some g → Has g.changes c → IsWithin c.log

-- ---- changes agree

-- of what a leader has gathered, of what a replica gathers as it enters a view, and of what it has gathered with the change of
-- another replica that a letter delivers for the view that it is in then
pub record StartsAgree {S : Type 0} (m : Meaning S) (w : WholeWorld) : Type 0 where
  pub gathered : (i : ℕ) (p : Seated WholeReplica) (g : Gathering Change) → slice_get w.replicas i ≡ Some p → p.state.state.changes ≡ Some g
      → Opens g
  pub entered : (i : ℕ) (p : Seated WholeReplica) (v : View) (g : Gathering Change) → slice_get w.replicas i ≡ Some p
      → (enter p.state.state v).0.changes ≡ Some g → Opens g
  pub with_letter : (i : ℕ) (p : Seated WholeReplica) (x : Letter) (u : View) (n : ℕ) (l : Log) (g : Gathering Change)
      → slice_get w.replicas i ≡ Some p → Has w.letters x → is_other p.state.state x.peer.sender ≡ true
      → x.peer.body ≡ bodies.ViewChange u n l
      → (after_request m x.peer p.state.state).view ≡ x.peer.view → (after_request m x.peer p.state.state).changes ≡ Some g
      → Opens (change_added change_sender g (record { sender = x.peer.sender; last_normal = u; next = n; log = l }))

-- ---- what is synchronised agrees

-- any two replicas, and each replica and each log that was sent, have the same up to each point that is at most both sync points
pub record PrefixesAgree (w : WholeWorld) : Type 0 where
  pub replicas : (i j n : ℕ) (p q : Seated WholeReplica) → slice_get w.replicas i ≡ Some p → slice_get w.replicas j ≡ Some q
      → n ≤ p.state.state.sync.sync_point → n ≤ q.state.state.sync.sync_point → SameTo n p.state.state.log.entries q.state.state.log.entries
  pub letters : (i n : ℕ) (p : Seated WholeReplica) (x : Letter) (l : Log) → slice_get w.replicas i ≡ Some p → Has w.letters x
      → log_in_body x.peer.body ≡ Some l → n ≤ p.state.state.sync.sync_point → n ≤ l.sync_point → SameTo n p.state.state.log.entries l.entries

-- ---- all of it

pub record CanTrim {S : Type 0} (m : Meaning S) (w : WholeWorld) : Type 0 where
  pub within : AllWithin w
  pub starts : StartsAgree m w
  pub prefixes : PrefixesAgree w

-- whatever an event delivers to a replica: the row over its trimmed log does what the row over the whole one does, trimmed
abbrev pub RowsTrim : {S : Type 0} → Meaning S → WholeWorld → Type 0
RowsTrim m w = (i : ℕ) (p : Seated WholeReplica) (x : Brings) (a : Arrival) → slice_get w.replicas i ≡ Some p → arrival_of w x ≡ Some a
    → arrive m Trimmed (trimmed m p.state.state) (trimmed_arrival m a) ≡ trimmed_effect m (arrive m Whole p.state.state a)

-- of each safe run
abbrev pub SafeCanTrim : {S : Type 0} → Meaning S → Type 0
SafeCanTrim m = (config : Configuration) (es : List (Actor × Brings)) → is_configuration config ≡ true → IsSafe m config es
    → CanTrim m (passed m config es).world

-- over each host with short results, and for every list of events in their ranges
abbrev pub WholeCanTrim : {S : Type 0} → Meaning S → Type 0
WholeCanTrim m = ResultsShort m → (config : Configuration) (es : List (Actor × Brings)) → is_configuration config ≡ true → AllFit es
    → CanTrim m (passed m config es).world
