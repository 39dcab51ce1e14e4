-- What holds of the past in each world of a run, as far as fixed prefixes depend on it, and what follows.
use Rattle.std.specs.Prelude.{◌≡◌, ◌⊎◌, ℕ, ◌+◌, ◌-◌, ◌*◌, ◌<◌, ◌≤◌, length, take, List, Some}
use Rattle.nop_types.specs.declared.view.View.{View}
use Rattle.nop_types.specs.declared.request.Request.{Request}
use Rattle.nop_types.specs.declared.request.Entry.{Entry}
use Rattle.nop_types.specs.declared.request.Entry.TheVariants.{NoOp, Req}
use Rattle.nop_types.specs.PlainChanges.{Change}
use Rattle.nop_types.specs.declared.datagram.Stamped.{Stamped}
use Rattle.nop_types.specs.Lists.{IsPrefixOf, slot_of}
use Rattle.nop_types.specs.Stamps.{WasStamped}
use Rattle.nop_types.specs.Views.{AtMost, Below, Comparable, first_view}
use Rattle.log_merge.specs.Starting.{Start, start_of}
use Rattle.started_views.specs.Logs.{SameTo}
use Rattle.started_views.specs.Past.{Entered, Past, HadLog, LeaderHad, IsStart, IsStarted}
use Rattle.started_views.specs.Settled.{Certificate, Fixed, Anchored, MainLog}

-- what the theorems below need of stamps, last normal views and the past; each is kept by every step of a replica
pub record Grounds (f : ℕ) (stamps : List Stamped) (last_normal : ℕ → View) (past : Past) : Type 0 where
  -- one request for each session and number
  pub stamped_once : (n k : ℕ) (a b : Request) → WasStamped stamps n k a → WasStamped stamps n k b → a ≡ b
  pub session_positive : (w : View) → IsStarted past w → 1 ≤ w.session
  pub current_log : (r : ℕ) → r < 2 * f + 1 → (l : List Entry) × HadLog past r (last_normal r) l
  pub log_in_started : (r : ℕ) (w : View) (l : List Entry) → HadLog past r w l → IsStarted past w × AtMost w (last_normal r)
  pub started_has_leader : (w : View) → IsStarted past w → (m : List Entry) × LeaderHad f past w m
  -- a replica enters views above its last normal view, with the log that it had there
  pub entry_order : (r : ℕ) (v : View) (e : Entered) → past.entry r v ≡ Some e → Below e.last_normal v
  pub entry_log : (r : ℕ) (v : View) (e : Entered) → past.entry r v ≡ Some e → HadLog past r e.last_normal e.log
  pub entries_chain : (r : ℕ) (v w : View) (d e : Entered) → past.entry r v ≡ Some d → past.entry r w ≡ Some e → Comparable v w
  pub nothing_between : (r : ℕ) (v w : View) (e : Entered) (l : List Entry) → past.entry r v ≡ Some e → HadLog past r w l
      → AtMost w e.last_normal ⊎ AtMost v w
  -- each started view but the first is started by the rule, from what f + 1 replicas entered it with
  pub certificate : (w : View) (x : Start) → IsStart past w x → (w ≡ first_view → ⊥)
      → (cs : List Change) × Certificate f past w cs × (x ≡ start_of w cs)
  -- a log begins with the start of its view; above it each slot has the request of its number, or a NO-OP that the leader has there too
  pub begins_with_start : (r : ℕ) (w : View) (l : List Entry) (x : Start) → HadLog past r w l → IsStart past w x → IsPrefixOf x.log l
  pub request_by_number : (r : ℕ) (w : View) (l : List Entry) (x : Start) (k : ℕ) (q : Request) → HadLog past r w l → IsStart past w x
      → length x.log < k → slot_of l k ≡ Some (Req q) → WasStamped stamps w.session (x.next + (k - length x.log - 1)) q
  pub noop_is_leaders : (r : ℕ) (w : View) (l m : List Entry) (x : Start) (k : ℕ) → HadLog past r w l → LeaderHad f past w m
      → IsStart past w x → length x.log < k → slot_of l k ≡ Some NoOp → slot_of m k ≡ Some NoOp

-- of any two started views one is at most the other
abbrev pub StartedAreComparable : Type 0
StartedAreComparable =
    (f : ℕ) (stamps : List Stamped) (last_normal : ℕ → View) (past : Past) → Grounds f stamps last_normal past → (v w : View)
    → IsStarted past v → IsStarted past w → Comparable v w

-- each view that is started later begins with each prefix that is fixed
abbrev pub FixedPrefixesAreKept : Type 0
FixedPrefixesAreKept =
    (f : ℕ) (stamps : List Stamped) (last_normal : ℕ → View) (past : Past) → Grounds f stamps last_normal past
    → (w v : View) (m : List Entry) (s : ℕ) (x : Start) → Fixed f past w m s → Below w v → IsStart past v x → IsPrefixOf (take s m) x.log

-- the log from which the history is read begins with each prefix that is fixed
abbrev pub MainLogHasFixed : Type 0
MainLogHasFixed =
    (f : ℕ) (stamps : List Stamped) (last_normal : ℕ → View) (past : Past) → Grounds f stamps last_normal past
    → (v w : View) (a m : List Entry) (s : ℕ) → MainLog f last_normal past v a → Fixed f past w m s → IsPrefixOf (take s m) a

-- it begins with what a replica has up to its sync point s, where its log l is that of its leader there
abbrev pub SynchronisedAgree : Type 0
SynchronisedAgree =
    (f : ℕ) (stamps : List Stamped) (last_normal : ℕ → View) (past : Past) → Grounds f stamps last_normal past
    → (v u : View) (a b l : List Entry) (s : ℕ) → MainLog f last_normal past v a → LeaderHad f past u b → SameTo s l b
    → Anchored f past u s → IsPrefixOf (take s l) a
