-- The notes of a row: what was gathered in its turn, or one note where that was nothing.
use Rattle.std.proofs.Common.{◌≡◌, ℕ, List, [], ◌∷◌, Bool, true, false, sym, ap, ◌∙◌}
use Rattle.picture.specs.declared.data.Mark.{Mark}
use Rattle.picture.specs.declared.data.Mark.TheVariants as marks
use Rattle.picture.specs.declared.data.Note.{Note}
use Rattle.schedule_text.specs.declared.event.Event.{Event}
use Rattle.schedule_text.specs.declared.event.Event.TheVariants as events
use Rattle.drawing.specs.declared.notes.Notes.{Notes}
use Rattle.drawing.specs.declared.recorder.Turn.{Turn}
use Rattle.drawing.specs.Gathered.{HasMarked, AddsIf, ShowsAll, crashes_now, idle_mark, is_none, mark_of}

-- a note with this mark is there where the test holds, else nothing changed
abbrev IsMarked : Bool → List Note → List Note → Mark → Type 0
IsMarked true xs ys mark = HasMarked xs ys mark
IsMarked false xs ys mark = ys ≡ xs

marked_if : (test : Bool) (a b : Notes) (mark : Mark) → AddsIf test a b mark → b.failed ≡ false
    → IsMarked test a.written.items b.written.items mark
marked_if true a b mark adds kept = adds.notes kept
marked_if false a b mark same kept = ap (λ (n : Notes). n.written.items) same

failed_if : (test : Bool) (a b : Notes) (mark : Mark) → AddsIf test a b mark → b.failed ≡ false → a.failed ≡ false
failed_if true a b mark adds kept = adds.failed kept
failed_if false a b mark same kept = ap (λ (n : Notes). n.failed) (sym same) ∙ kept

-- nothing else was seen: a note of its own, if there is none
filled : (xs ys zs : List Note) (mark : Mark) → ys ≡ xs → IsMarked (is_none ys) ys zs mark → ShowsAll xs mark zs
filled [] [] zs mark same is = is
filled [] (y ∷ ys) zs mark same is = cc
filled (x ∷ xs) [] zs mark same is = cc
filled (x ∷ xs) (y ∷ ys) zs mark same is = is ∙ same

-- the note of a crash stays the only one
crashed : (ys zs : List Note) (mark : Mark) → HasMarked [] ys marks.Crashed → IsMarked (is_none ys) ys zs mark
    → HasMarked [] zs marks.Crashed
crashed [] zs mark has is = let none = has.is in cc
crashed (y ∷ ys) zs mark has is = record { note = has.note; mark_is = has.mark_is; is = is ∙ has.is }

ended : (e : Event) (turn : Turn) (sent : ℕ) (xs ys zs : List Note) → IsMarked (crashes_now e xs) xs ys marks.Crashed
    → IsMarked (is_none ys) ys zs (idle_mark turn sent) → ShowsAll xs (mark_of e turn sent) zs
ended (events.Crash actor) turn sent [] ys zs is fills = crashed ys zs (idle_mark turn sent) is fills
ended (events.Crash actor) turn sent (x ∷ xs) ys zs is fills = filled (x ∷ xs) ys zs (idle_mark turn sent) is fills
ended _ turn sent xs ys zs is fills = filled xs ys zs (idle_mark turn sent) is fills

-- what is there after the crash and the note of a turn in which nothing else shows
pub shows_all : (e : Event) (turn : Turn) (sent : ℕ) (a b c : Notes) → AddsIf (crashes_now e a.written.items) a b marks.Crashed
    → AddsIf (is_none b.written.items) b c (idle_mark turn sent) → c.failed ≡ false
    → ShowsAll a.written.items (mark_of e turn sent) c.written.items
shows_all e turn sent a b c crash fill kept =
    ended e turn sent a.written.items b.written.items c.written.items
    (marked_if (crashes_now e a.written.items) a b marks.Crashed crash (failed_if (is_none b.written.items) b c (idle_mark turn sent) fill kept))
    (marked_if (is_none b.written.items) b c (idle_mark turn sent) fill kept)
