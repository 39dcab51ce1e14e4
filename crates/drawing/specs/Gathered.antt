-- What is gathered for the row that comes next, unless memory runs out.
use Rattle.std.specs.Prelude.{◌≡◌, ℕ, List, [], ◌∷◌, ◌++◌, Bool, true, false, Option, None, Some, nat_lt, slice_get}
use Rattle.std.specs.Prelude.{if◌then◌else◌, string_bytes}
use Rattle.nop_types.specs.declared.output.Actor.{Actor}
use Rattle.picture.specs.declared.data.Arrow.{Arrow}
use Rattle.picture.specs.declared.data.Mark.{Mark}
use Rattle.picture.specs.declared.data.Mark.TheVariants as marks
use Rattle.picture.specs.declared.data.Note.{Note}
use Rattle.picture.specs.declared.data.Row.{Row}
use Rattle.picture.specs.declared.data.Stretch.{Stretch}
use Rattle.picture_arrows.specs.Deliveries.{arrow_of}
use Rattle.picture_arrows.specs.declared.flight.Flight.{Flight}
use Rattle.picture_arrows.specs.declared.missed.Crash.{Crash}
use Rattle.schedule_text.specs.declared.event.Event.{Event}
use Rattle.schedule_text.specs.declared.event.Event.TheVariants as events
use Rattle.drawing.specs.declared.notes.Notes.{Notes}
use Rattle.drawing.specs.declared.recorder.Recorder.{Recorder}
use Rattle.drawing.specs.declared.recorder.Turn.{Turn}
use Rattle.drawing.specs.declared.recorder.Watched.{Watched}
use Rattle.drawing.specs.declared.standing.Standing.{Standing}

-- ---- notes

abbrev pub notes_of : Option Note → List Note
notes_of None = []
notes_of (Some note) = note ∷ []

-- one more note, with this mark
pub record HasMarked (old new : List Note) (mark : Mark) : Type 0 where
  pub note : Note
  pub mark_is : note.mark ≡ mark
  pub is : new ≡ old ++ note ∷ []

-- the old notes, and maybe more behind them
pub record Extends (old new : List Note) : Type 0 where
  pub more : List Note
  pub is : new ≡ old ++ more

-- these notes were appended, unless memory ran out, now or before
pub record AddsNotes (old new : Notes) (more : List Note) : Type 0 where
  pub failed : new.failed ≡ false → old.failed ≡ false
  pub notes : new.failed ≡ false → new.written.items ≡ old.written.items ++ more

-- a note with this mark was
pub record AddsMarked (old new : Notes) (mark : Mark) : Type 0 where
  pub failed : new.failed ≡ false → old.failed ≡ false
  pub notes : new.failed ≡ false → HasMarked old.written.items new.written.items mark

-- some notes were
pub record AddsSome (old new : Notes) : Type 0 where
  pub failed : new.failed ≡ false → old.failed ≡ false
  pub notes : new.failed ≡ false → Extends old.written.items new.written.items

-- a note with this mark was where the test holds; else nothing changed
abbrev pub AddsIf : Bool → Notes → Notes → Mark → Type 0
AddsIf true old new mark = AddsMarked old new mark
AddsIf false old new mark = new ≡ old

-- ---- what a recorder keeps

-- no memory ran out, for the notes or for the rest
pub record IsIntact (r : Recorder) : Type 0 where
  pub picture : r.failed ≡ false
  pub notes : r.notes.failed ≡ false

-- one more replica, as it stands at the top
pub record Watches (old new : List Watched) (standing : Standing) : Type 0 where
  pub watched : Watched
  pub standing_is : watched.standing ≡ standing
  pub since_is : watched.since ≡ None
  pub is : new ≡ old ++ watched ∷ []

-- the arrow of a delivery, none where no such datagram was sent
abbrev pub with_arrow : Option Flight → Actor → ℕ → List Arrow → List Arrow
with_arrow None to row arrows = arrows
with_arrow (Some f) to row arrows = arrows ++ arrow_of f.leg f.reached.items to row ∷ []

-- what was delivered, in words
abbrev pub text_of : Option Flight → List ℕ
text_of None = []
text_of (Some f) = string_bytes f.text

-- with the arrow of the event in a row, if it is a delivery
abbrev pub arrows_after : Event → ℕ → List Flight → List Arrow → List Arrow
arrows_after (events.Deliver index to) row flights arrows = with_arrow (slice_get flights index) to row arrows
arrows_after _ row flights arrows = arrows

abbrev pub stretches_of : Option Stretch → List Stretch
stretches_of None = []
stretches_of (Some stretch) = stretch ∷ []

-- ---- the end of a turn

abbrev pub is_none : List Note → Bool
is_none [] = true
is_none _ = false

-- a crash in which nothing else was seen: the actor had not crashed before
abbrev pub crashes_now : Event → List Note → Bool
crashes_now (events.Crash actor) notes = is_none notes
crashes_now _ notes = false

abbrev pub with_crash : Bool → Turn → List Crash → List Crash
with_crash true turn crashes = crashes ++ record { actor = turn.actor; row = turn.row } ∷ []
with_crash false turn crashes = crashes

-- the mark of a turn in which nothing else shows, where so many datagrams were sent
abbrev pub idle_mark : Turn → ℕ → Mark
idle_mark turn sent = if nat_lt turn.sent_before sent then marks.Acted else marks.Idle

abbrev pub mark_of : Event → Turn → ℕ → Mark
mark_of (events.Crash actor) turn sent = marks.Crashed
mark_of _ turn sent = idle_mark turn sent

-- all notes that were gathered; where there were none, one with this mark
abbrev pub ShowsAll : List Note → Mark → List Note → Type 0
ShowsAll [] mark shown = HasMarked [] shown mark
ShowsAll (note ∷ notes) mark shown = shown ≡ note ∷ notes

-- one more row, with these notes
pub record RowShows (old new : List Row) (gathered : List Note) (mark : Mark) : Type 0 where
  pub row : Row
  pub rows : new ≡ old ++ row ∷ []
  pub notes : ShowsAll gathered mark row.notes.items
