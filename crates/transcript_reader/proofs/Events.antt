-- Rows of lines: they are events, and they fit together.
use Rattle.std.proofs.Common.{◌≡◌, Bool, true, List, [], ◌∷◌, ◌++◌, map, refl}
use Rattle.std.specs.List.{list_all}
use Rattle.nop_types.specs.Lines as lines
use Rattle.nop_types.specs.Lines.{Line}
use Rattle.transcript_rows.specs.LineRows.{row_of}
use Rattle.transcript_rows.specs.declared.row.Row.{Row}
use Rattle.transcript_reader.specs.Transcripts.{AllFit, is_event}

pub fit_both : (xs ys : List Row) → AllFit xs → AllFit ys → AllFit (xs ++ ys)
fit_both [] ys f g = g
fit_both (x ∷ xs) ys f g = (f.0, fit_both xs ys f.1 g)

line_is_event : (l : Line) → is_event (row_of l) ≡ true
line_is_event (lines.Dead actor) = refl
line_is_event _ = refl

first_then : (p : Row → Bool) (x : Row) (xs : List Row) → p x ≡ true → list_all p xs ≡ true → list_all p (x ∷ xs) ≡ true
first_then p x xs e f = rw e f

pub all_events : (ls : List Line) → list_all is_event (map row_of ls) ≡ true
all_events [] = refl
all_events (l ∷ ls) = first_then is_event (row_of l) (map row_of ls) (line_is_event l) (all_events ls)
