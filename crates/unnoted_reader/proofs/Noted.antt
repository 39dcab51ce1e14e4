-- Transcripts of which all results were noted.
use Rattle.std.proofs.Common.{◌≡◌, ◌∙◌, ℕ, zero, suc, Bool, true, false, List, [], ◌∷◌, ◌++◌, length, map, Option, refl, sym, ap, subst}
use Rattle.std.specs.Prelude.{cond}
use Rattle.std.specs.List.{flat_map}
use Rattle.transcript_reader.specs.Reading.{whole}
use Rattle.transcript_reader.specs.Reading as transcripts
use Rattle.transcript_reader.specs.Steps.{SoFar}
use Rattle.transcript_reader.specs.Transcripts.{Spells, body, said_by, transcript_lines}
use Rattle.transcript_rows.specs.declared.row.Row.{Row}
use Rattle.transcript_rows.specs.declared.row.Row.TheVariants.{Submit, Accept}
use Rattle.unnoted_reader.specs.Reading.{IsTranscript}
use Rattle.unnoted_reader.specs.Unnoted.{as_read, is_unnoted, marks_of, with_dash, AllNoted, AllUnmarked}

later_noted : (t : List ℕ) (texts : List (List ℕ)) → AllNoted (t ∷ texts) → AllNoted texts
later_noted t texts noted k text e = noted (suc k) text e

as_it_is : (b : Bool) (text other : List ℕ) → b ≡ false → cond b other text ≡ text
as_it_is true text other e = absurd cc
as_it_is false text other e = refl

all_as_they_are : (texts : List (List ℕ)) → AllNoted texts → map as_read texts ≡ texts
all_as_they_are [] noted = refl
all_as_they_are (t ∷ texts) noted =
    ap (λ (ts : List (List ℕ)). as_read t ∷ ts) (all_as_they_are texts (later_noted t texts noted))
    ∙ ap (λ (x : List ℕ). x ∷ texts) (as_it_is (is_unnoted t) t (with_dash t) (noted 0 t refl))

-- ---- marks

one_unmarked : (mark : Bool) (row : Row) (rest : List Bool) → mark ≡ false → AllUnmarked rest
    → AllUnmarked (map (λ l. mark) (said_by row) ++ rest)
one_unmarked mark (Submit request) rest e h zero f = let x : mark ≡ true = cc in absurd cc
one_unmarked mark (Submit request) rest e h (suc k) f = h k f
one_unmarked mark (Accept client id result) rest e h zero f = let x : mark ≡ true = cc in absurd cc
one_unmarked mark (Accept client id result) rest e h (suc k) f = h k f
one_unmarked mark _ rest e h k f = h k f

all_unmarked : (texts : List (List ℕ)) (rows : List Row) → AllNoted texts → AllUnmarked (marks_of texts rows)
all_unmarked [] rows noted k e = absurd cc
all_unmarked (t ∷ texts) [] noted k e = absurd cc
all_unmarked (t ∷ texts) (row ∷ rows) noted k e =
    one_unmarked (is_unnoted t) row (marks_of texts rows) (noted 0 t refl) (all_unmarked texts rows (later_noted t texts noted)) k e

-- ---- the whole

pub read_as_ever : (before left : Option (List ℕ)) (s : SoFar) (marks : List Bool) (read : IsTranscript before left s marks)
    → AllNoted read.texts → transcripts.IsTranscript before left s (length (transcript_lines read.transcript))
read_as_ever before left s marks read noted =
    let same = all_as_they_are read.texts noted in
    record {
      all = flat_map whole (read.first ∷ read.texts);
      went = read.went;
      whole = read.transcript;
      spells = subst (λ (ts : List (List ℕ)). Spells read.transcript (flat_map whole (read.first ∷ ts))) same read.spells;
      claims = read.claims;
      places = read.places;
      history = read.history;
      lines = refl;
    }

pub unmarked : (before left : Option (List ℕ)) (s : SoFar) (marks : List Bool) (read : IsTranscript before left s marks)
    → AllNoted read.texts → AllUnmarked marks
unmarked before left s marks read noted =
    subst AllUnmarked (sym read.marks_are) (all_unmarked read.texts (body read.transcript) noted)
