-- The entries that moved out of logs, each once, in the order of their slots: whole logs keep them too.
use Rattle.std.specs.Prelude.{◌≡◌, ◌≤◌, ◌||◌, ℕ, List, [], ◌∷◌, length, take, cond, true, Option, Some, None, slice_get}
use Rattle.nop_types.specs.Configuration.{Configuration, is_configuration}
use Rattle.nop_types.specs.Lists.{Has}
use Rattle.nop_types.specs.Logs.{Log}
use Rattle.nop_types.specs.Meaning.{Meaning}
use Rattle.nop_types.specs.declared.output.Actor.{Actor}
use Rattle.nop_types.specs.declared.peer.Change.{Change}
use Rattle.nop_types.specs.declared.request.Entry.{Entry}
use Rattle.view_change.specs.Gathering.{Gathering}
use Rattle.replica_state.specs.declared.sending.Sending.{Sending}
use Rattle.replica_state.specs.declared.sending.Sending.TheVariants.{Trims}
use Rattle.replica_rows.specs.Within.{ResultsShort}
use Rattle.world.specs.Archive.{with_entries}
use Rattle.world.specs.Others.{Who, AReplica, who}
use Rattle.world.specs.Seats.{Seated}
use Rattle.whole_world.specs.Whole.{WholeReplica, WholeWorld, Letter, Brings, is_crash, effect_of, arrival_of, whole_step}
use Rattle.whole_world.specs.Passed.{passed}
use Rattle.whole_world.specs.Safe.{BringsFits, AllFit}
use Rattle.whole_world.specs.Trimming.{log_in_body}

-- ---- what a step adds

-- of what a row sends
abbrev pub with_sends : List Entry → List Sending → List Entry
with_sends archive [] = archive
with_sends archive (Trims first entries ∷ sends) = with_sends (with_entries archive first entries.entries) sends
with_sends archive (_ ∷ sends) = with_sends archive sends

module _ {S : Type 0} (m : Meaning S) where
  -- a crashed replica takes no row
  abbrev pub row_sends : WholeWorld → Option (Seated WholeReplica) → Brings → List Sending
  row_sends w None b = []
  row_sends w (Some p) b = cond (p.crashed || is_crash b) [] (effect_of m p.state (arrival_of w b)).1

  -- only replicas have logs
  abbrev pub archive_of : List Entry → WholeWorld → Who → Brings → List Entry
  archive_of archive w (AReplica i) b = with_sends archive (row_sends w (slice_get w.replicas i) b)
  archive_of archive w _ b = archive

  abbrev pub archive_after : List Entry → WholeWorld → Actor → Brings → List Entry
  archive_after archive w actor b = archive_of archive w (who actor) b

-- ---- what it has

-- a replica is synchronised just as far
pub record Reaches (archive : List Entry) (w : WholeWorld) : Type 0 where
  pub replica : ℕ
  pub seat : Seated WholeReplica
  pub there : slice_get w.replicas replica ≡ Some seat
  pub far : seat.state.state.sync.sync_point ≡ length archive

-- the archive has what is synchronised of each replica, and one is synchronised just as far; no log that is sent or gathered is
-- synchronised further
pub record IsArchive (archive : List Entry) (w : WholeWorld) : Type 0 where
  pub within : (i : ℕ) (p : Seated WholeReplica) → slice_get w.replicas i ≡ Some p → p.state.state.sync.sync_point ≤ length archive
  pub prefixes : (i : ℕ) (p : Seated WholeReplica) → slice_get w.replicas i ≡ Some p
      → take p.state.state.sync.sync_point archive ≡ take p.state.state.sync.sync_point p.state.state.log.entries
  pub reaches : Reaches archive w
  pub letters : (x : Letter) (l : Log) → Has w.letters x → log_in_body x.peer.body ≡ Some l → l.sync_point ≤ length archive
  pub gathered : (i : ℕ) (p : Seated WholeReplica) (g : Gathering Change) (c : Change) → slice_get w.replicas i ≡ Some p
      → p.state.state.changes ≡ Some g → Has g.changes c → c.log.sync_point ≤ length archive

-- after any list of events in their ranges, an archive goes on to be one, whatever the next event delivers
abbrev pub ArchivesGoOn : {S : Type 0} → Meaning S → Type 0
ArchivesGoOn m = ResultsShort m → (config : Configuration) (es : List (Actor × Brings)) → is_configuration config ≡ true → AllFit es
    → (archive : List Entry) → IsArchive archive (passed m config es).world → (actor : Actor) (b : Brings) → BringsFits b
    → IsArchive (archive_after m archive (passed m config es).world actor b) (whole_step m (passed m config es).world actor b)
