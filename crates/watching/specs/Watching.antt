-- What a watch keeps of what was told, and what it shows of it.
use Rattle.std.specs.Prelude.{ℕ, ◌-◌, ◌*◌, ◌/◌, max, List, Bool, true, false, cond, not, Option, Some, None, nat_le, ◌==◌, ◌&&◌, ◌||◌}
use Rattle.std.specs.Option.{option_or}
use Rattle.nop_types.specs.Views.{outranks, is_view}
use Rattle.nop_types.specs.Sessions.{home}
use Rattle.fragments.specs.Joining.{Waiting}
use Rattle.fragments.specs.Joining as joining
use Rattle.roll_call.specs.Rolls.{Rolled, heard, is_due, silent_since, turned}
use Rattle.watching.specs.Tellings.{told_by}
use Rattle.watching.specs.declared.lines.Change.{Change}
use Rattle.watching.specs.declared.lines.State.{State}
use Rattle.watching.specs.declared.lines.Warning.{Warning}
use Rattle.watching.specs.declared.seen.Known.{Known}
use Rattle.watching.specs.declared.seen.Seen.{Seen}
use Rattle.watching.specs.declared.telling.Telling.{Telling}
use Rattle.watching.specs.declared.seen.TheConstants.{SECOND_MILLIS}

-- of so many replicas, and whether lines are written over those before: the fragments that wait, what is known, if something is, the
-- change and the state that were shown last, the nodes that are asked whether they are there, and the warning that was shown last
pub record Watching : Type 0 where
  pub replicas : ℕ
  pub redraws : Bool
  pub kept : List Waiting
  pub seen : Option Seen
  pub changed : Option Change
  pub shown : Option State
  pub roll : Rolled
  pub warned : Option Warning

abbrev pub opening : Bool → ℕ → Rolled → Watching
opening redraws n roll = record {
  replicas = n;
  redraws = redraws;
  kept = joining.opening n;
  seen = None;
  changed = None;
  shown = None;
  roll = roll;
  warned = None;
}

-- ---- what is told

-- the first that is told; a second begins with it
abbrev pub first_seen : ℕ → Telling → Seen
first_seen now t = record {
  known = record { view = t.view; synced = t.len; told = now };
  since = now;
  before = t.len;
}

-- what is told of a view that is less than the known one is passed over
abbrev pub known_after : Known → ℕ → Telling → Known
known_after k now t = cond (outranks k.view t.view) k (record { view = t.view; synced = max k.synced t.len; told = now })

abbrev pub seen_after : Option Seen → ℕ → Telling → Seen
seen_after None now t = first_seen now t
seen_after (Some s) now t = record s { known = known_after s.known now t }

-- the view rises
abbrev pub change_by : Option Seen → ℕ → Telling → Option Change
change_by None now t = None
change_by (Some s) now t = cond (outranks t.view s.known.view) (Some (record { view = t.view; at = now })) None

abbrev pub told : Watching → ℕ → Option Telling → Watching × Option Change
told w now None = (w, None)
told w now (Some t) = (
  record w { seen = Some (seen_after w.seen now t); changed = option_or (change_by w.seen now t) w.changed },
  change_by w.seen now t,
)

-- a datagram comes
abbrev pub hear : Watching → ℕ → List ℕ → Watching × Option Change
hear w now bytes =
    told (record w { kept = (told_by w.replicas w.kept bytes).0; roll = heard w.roll now bytes }) now (told_by w.replicas w.kept bytes).1

-- ---- which nodes answer

abbrev pub warning_at : ℕ → Option ℕ → Option Warning
warning_at c None = None
warning_at c (Some since) = Some (record { controller = c; since = since })

-- the controller that gave out the session in use is silent
abbrev pub warning_of : Option Seen → Rolled → Option Warning
warning_of None roll = None
warning_of (Some s) roll = warning_at (home s.known.view.session) (silent_since roll (home s.known.view.session))

abbrev pub round_if : Bool → Watching → ℕ → Watching
round_if true w now = record w { roll = turned w.roll now; warned = warning_of w.seen (turned w.roll now) }
round_if false w now = w

-- a round of questions, where it is time for one
abbrev pub round : Watching → ℕ → Watching
round w now = round_if (is_due w.roll now) w now

-- ---- what is shown each second

-- the slots of the second, by the milliseconds that it had
abbrev pub rate_at : Seen → ℕ → ℕ
rate_at s now = (s.known.synced - s.before) * SECOND_MILLIS / (now - s.since)

abbrev pub state_at : Seen → ℕ → State
state_at s now = record {
  view = s.known.view;
  synced = s.known.synced;
  rate = rate_at s now;
  age = now - s.known.told;
}

abbrev pub is_same : State → State → Bool
is_same a b = is_view a.view b.view && ((a.synced == b.synced) && (a.rate == b.rate))

-- something else than before, or nothing was told for a second
abbrev pub is_news : Option State → State → Bool
is_news None s = true
is_news (Some last) s = not (is_same last s) || nat_le SECOND_MILLIS s.age

-- the next second begins
abbrev pub next_second : Seen → ℕ → Seen
next_second s now = record s { since = now; before = s.known.synced }

abbrev pub show_if : Bool → Watching → State → Watching × Option State
show_if true w s = (record w { shown = Some s }, Some s)
show_if false w s = (w, None)

abbrev pub tick_if : Bool → Watching → Seen → ℕ → Watching × Option State
tick_if true w s now = show_if (is_news w.shown (state_at s now)) (record w { seen = Some (next_second s now) }) (state_at s now)
tick_if false w s now = (w, None)

abbrev pub tick_by : Option Seen → Watching → ℕ → Watching × Option State
tick_by None w now = (w, None)
tick_by (Some s) w now = tick_if (nat_le SECOND_MILLIS (now - s.since)) w s now

-- it is so late
abbrev pub tick : Watching → ℕ → Watching × Option State
tick w now = tick_by w.seen w now
