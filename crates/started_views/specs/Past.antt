-- What replicas had, view by view.
use Rattle.std.specs.Prelude.{◌≡◌, ◌==◌, ◌&&◌, ◌+◌, ◌-◌, ◌*◌, ℕ, Bool, cond, not, List, [], Option, Some, None, length, take}
use Rattle.nop_types.specs.declared.view.View.{View}
use Rattle.nop_types.specs.declared.request.Entry.{Entry}
use Rattle.nop_types.specs.Views.{first_view, is_view, leader_of}
use Rattle.log_merge.specs.Starting.{Start}

-- what a replica had when it entered a view
pub record Entered : Type 0 where
  pub last_normal : View
  pub next : ℕ
  pub sync_point : ℕ
  pub log : List Entry

-- the last log of a replica while a view was its last normal view; what a view was started with; what a replica had when it entered a view
pub record Past : Type 0 where
  pub log : ℕ → View → Option (List Entry)
  pub start : View → Option Start
  pub entry : ℕ → View → Option Entered

abbrev pub HadLog : Past → ℕ → View → List Entry → Type 0
HadLog past r w l = past.log r w ≡ Some l

-- the leader of w, of 2 f + 1 replicas, had the log m in w
abbrev pub LeaderHad : ℕ → Past → View → List Entry → Type 0
LeaderHad f past w m = HadLog past (leader_of w (2 * f + 1)) w m

abbrev pub IsStart : Past → View → Start → Type 0
IsStart past w x = past.start w ≡ Some x

abbrev pub IsStarted : Past → View → Type 0
IsStarted past w = (x : Start) × IsStart past w x

-- all replicas begin in the first view, with an empty log
abbrev pub first_past : Past
first_past =
    record {
      log = λ r w. cond (is_view w first_view) (Some []) None;
      start = λ w. cond (is_view w first_view) (Some (record { next = 1; log = [] })) None;
      entry = λ r v. None;
    }

-- ---- what a step of a replica adds

-- what is noted of a replica: base is the length of the log that it adopted in its last normal view
pub record Standing : Type 0 where
  pub view : View
  pub last_normal : View
  pub next : ℕ
  pub base : ℕ
  pub sync_point : ℕ
  pub log : List Entry

abbrev pub is_of : ℕ → View → ℕ → View → Bool
is_of q w r v = (q == r) && is_view w v

abbrev pub with_log : ℕ → View → List Entry → Past → Past
with_log r v l past = record past { log = λ q w. cond (is_of q w r v) (Some l) (past.log q w) }

abbrev pub with_entry : Bool → ℕ → View → Entered → Past → Past
with_entry b r v e past = record past { entry = λ q w. cond (b && is_of q w r v) (Some e) (past.entry q w) }

abbrev pub with_start : Bool → View → Start → Past → Past
with_start b v x past = record past { start = λ w. cond (b && is_view w v) (Some x) (past.start w) }

abbrev pub entered_with : Standing → Entered
entered_with s = record { last_normal = s.last_normal; next = s.next; sync_point = s.sync_point; log = s.log }

abbrev pub started_with : Standing → Start
started_with s = record { next = s.next - (length s.log - s.base); log = take s.base s.log }

-- the log that the replica r has; what it had, where its view rose; and what a view was started with, where its leader adopted it
abbrev pub note : ℕ → Past → ℕ → Standing → Standing → Past
note f past r old new =
    with_start (not (is_view new.last_normal old.last_normal) && (r == leader_of new.last_normal (2 * f + 1))) new.last_normal
    (started_with new)
    (with_entry (not (is_view new.view old.view)) r new.view (entered_with old)
    (with_log r new.last_normal new.log past))
