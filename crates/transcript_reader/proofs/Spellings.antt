-- Bytes that spell a transcript are cut into its lines, and its rows are the only ones that they spell: so they are never refused.
use Rattle.std.proofs.Common.{◌≡◌, ◌∙◌, ℕ, ◌+◌, ◌≤◌, Bool, true, List, [], ◌∷◌, ◌++◌, length, map, slice_index, Option, Some, None}
use Rattle.std.proofs.Common.{refl, sym, ap, subst, append_assoc, append-nil, arith, length-append, inl, inr}
use Rattle.std.specs.List.{flat_map, list_all}
use Rattle.std.proofs.lemmas.Bool.{leb-true}
use Rattle.std.proofs.lemmas.List.{length-map, map-append}
use Rattle.std.proofs.lemmas.List.Sums.{AllPass-from_list_all}
use Rattle.line_reader.proofs.Cuts.{cut_end}
use Rattle.line_reader.specs.Cutting.{Cut, with_end, lines_on, lines_of}
use Rattle.line_reader.specs.Deciding.{HasNoEnd, Follows}
use Rattle.nop_types.specs.declared.header.Header.{Header}
use Rattle.transcript_reader.proofs.RowLemmas.{same_row}
use Rattle.transcript_reader.proofs.Runs.{then_run, what_it_says, body_runs}
use Rattle.transcript_reader.proofs.Shapes.{none_runs}
use Rattle.transcript_reader.specs.Reading.{Admits, whole, Place, First, After, IsAt, IsTooMuch, IsMisplaced, RefusesCut, RefusesNext}
use Rattle.transcript_reader.specs.Reading.{IsRefused, IsUnfinished}
use Rattle.transcript_reader.specs.Steps.{SoFar, nothing_yet, step, run_on, run}
use Rattle.transcript_reader.specs.Transcripts.{AllFit, Transcript, TranscriptFits, Spells, SaysTheSame, body, transcript_lines}
use Rattle.transcript_reader.specs.declared.limits.TheConstants.{MAX_TRANSCRIPT_LINES}
use Rattle.transcript_rows.proofs.RowLines.{is_inside, IsLine, row_is_line, header_is_line}
use Rattle.transcript_rows.proofs.RowTexts as rows
use Rattle.transcript_rows.specs.Rows.{RowFits, row_text}
use Rattle.transcript_rows.specs.declared.row.Row.{Row}
use Rattle.transcript_text.specs.Transcript.{transcript_line}

-- ---- lines that are whole

abbrev AllLines : List (List ℕ) → Type 0
AllLines [] = Unit {0}
AllLines (text ∷ texts) = IsLine text × AllLines texts

no_end : (text : List ℕ) → list_all is_inside text ≡ true → HasNoEnd (length text) text
no_end text e = λ k below is. let high = leb-true 11 (slice_index text k) (AllPass-from_list_all is_inside text e k 0 below) in omega (arith, is)

lines_cut : (most before : ℕ) (texts : List (List ℕ)) → AllLines texts → before + length texts ≤ most
    → lines_on most true before [] (flat_map whole texts) ≡ map with_end texts
lines_cut most before [] all room = refl
lines_cut most before (text ∷ texts) all room =
    let short = all.0.short in
    ap (lines_on most true before []) (append_assoc text (10 ∷ []) (flat_map whole texts))
    ∙ cut_end most true before (omega arith) [] text (flat_map whole texts) (no_end text all.0.inside) (omega arith)
    ∙ ap (λ (cuts : List Cut). with_end text ∷ cuts) (lines_cut most (before + 1) texts all.1 (omega arith))

-- ---- the lines of a transcript

abbrev texts_of : Transcript → List (List ℕ)
texts_of t = rows.spelled_header t.header ∷ map rows.spelled (body t)

rows_are_lines : (xs : List Row) → AllFit xs → AllLines (map rows.spelled xs)
rows_are_lines [] fit = tt
rows_are_lines (row ∷ xs) fit = (row_is_line row fit.0, rows_are_lines xs fit.1)

all_are_lines : (t : Transcript) → TranscriptFits t → AllLines (texts_of t)
all_are_lines t fits = (header_is_line t.header fits.header, rows_are_lines (body t) fits.rows)

whole_rows : (xs : List Row) → map row_text xs ≡ map whole (map rows.spelled xs)
whole_rows [] = refl
whole_rows (row ∷ xs) =
    ap (λ (x : List ℕ). x ∷ map row_text xs) (rows.whole row)
    ∙ ap (λ (ys : List (List ℕ)). whole (rows.spelled row) ∷ ys) (whole_rows xs)

whole_lines : (t : Transcript) → TranscriptFits t → transcript_lines t ≡ map whole (texts_of t)
whole_lines t fits =
    ap (λ (x : List ℕ). x ∷ map row_text (body t)) (rows.whole_header t.header fits.header)
    ∙ ap (λ (ys : List (List ℕ)). whole (rows.spelled_header t.header) ∷ ys) (whole_rows (body t))

joined : (texts : List (List ℕ)) → flat_map (λ line. line) (map whole texts) ≡ flat_map whole texts
joined [] = refl
joined (text ∷ texts) = ap (λ (xs : List ℕ). whole text ++ xs) (joined texts)

line_total : (t : Transcript) → TranscriptFits t → length (transcript_lines t) ≡ length (texts_of t)
line_total t fits = ap length (whole_lines t fits) ∙ length-map (texts_of t) whole

pub cut_as_written : (t : Transcript) (bytes : List ℕ) → Spells t bytes
    → lines_of MAX_TRANSCRIPT_LINES true 0 bytes ≡ map with_end (texts_of t)
unfolding lines_of
cut_as_written t bytes spells =
    ap (lines_on MAX_TRANSCRIPT_LINES true 0 [])
    (spells.text ∙ ap (flat_map (λ (line : List ℕ). line)) (whole_lines t spells.fits) ∙ joined (texts_of t))
    ∙ lines_cut MAX_TRANSCRIPT_LINES 0 (texts_of t) (all_are_lines t spells.fits)
    (let most = spells.most in omega (arith, line_total t spells.fits))

-- ---- lists of lines

same_texts : (xs ys : List (List ℕ)) → map with_end xs ≡ map with_end ys → xs ≡ ys
same_texts [] [] e = refl
same_texts [] (y ∷ ys) e = absurd cc
same_texts (x ∷ xs) [] e = absurd cc
same_texts (x ∷ xs) (y ∷ ys) e =
    let first : with_end x ≡ with_end y = cc in
    let rest : map with_end xs ≡ map with_end ys = cc in
    ap (λ (c : Cut). c.text ∷ xs) first ∙ ap (λ (zs : List (List ℕ)). y ∷ zs) (same_texts xs ys rest)

-- a line behind some lines
record Next (all prefix : List (List ℕ)) (cut : Cut) : Type 0 where
  text : List ℕ
  behind : List (List ℕ)
  are : all ≡ prefix ++ text ∷ behind
  is : cut ≡ with_end text

one_line_more : (x y : List ℕ) (all prefix : List (List ℕ)) (cut : Cut) → with_end x ≡ with_end y → Next all prefix cut
    → Next (x ∷ all) (y ∷ prefix) cut
one_line_more x y all prefix cut e n = record {
  text = n.text;
  behind = n.behind;
  are = ap (λ (c : Cut). c.text ∷ all) e ∙ ap (λ (zs : List (List ℕ)). y ∷ zs) n.are;
  is = n.is;
}

next_line : (all prefix : List (List ℕ)) (cut : Cut) (rest : List Cut) → map with_end all ≡ map with_end prefix ++ cut ∷ rest → Next all prefix cut
next_line [] [] cut rest e = absurd cc
next_line [] (y ∷ prefix) cut rest e = absurd cc
next_line (x ∷ all) [] cut rest e =
    let first : with_end x ≡ cut = cc in record { text = x; behind = all; are = refl; is = sym first }
next_line (x ∷ all) (y ∷ prefix) cut rest e =
    let first : with_end x ≡ with_end y = cc in
    let later : map with_end all ≡ map with_end prefix ++ cut ∷ rest = cc in
    one_line_more x y all prefix cut first (next_line all prefix cut rest later)

line_there : (prefix : List (List ℕ)) (text : List ℕ) (behind : List (List ℕ)) → AllLines (prefix ++ text ∷ behind) → IsLine text
line_there [] text behind all = all.0
line_there (x ∷ prefix) text behind all = line_there prefix text behind all.1

-- ---- lists of rows

one_row : (r s : Row) → RowFits r → RowFits s → row_text r ≡ row_text s → r ≡ s
one_row r s fits_r fits_s e = same_row r s (rows.spelled r) fits_r fits_s (rows.whole r) (sym e ∙ rows.whole r)

same_rows : (xs ys : List Row) → AllFit xs → AllFit ys → map row_text xs ≡ map row_text ys → xs ≡ ys
same_rows [] [] fit_x fit_y e = refl
same_rows [] (y ∷ ys) fit_x fit_y e = absurd cc
same_rows (x ∷ xs) [] fit_x fit_y e = absurd cc
same_rows (x ∷ xs) (y ∷ ys) fit_x fit_y e =
    let first : row_text x ≡ row_text y = cc in
    let rest : map row_text xs ≡ map row_text ys = cc in
    ap (λ (r : Row). r ∷ xs) (one_row x y fit_x.0 fit_y.0 first) ∙ ap (λ (zs : List Row). y ∷ zs) (same_rows xs ys fit_x.1 fit_y.1 rest)

record NextRow (all prefix : List Row) (text : List ℕ) : Type 0 where
  row : Row
  behind : List Row
  are : all ≡ prefix ++ row ∷ behind
  fits : RowFits row
  is : row_text row ≡ whole text

one_row_more : (x y : Row) (all prefix : List Row) (text : List ℕ) → x ≡ y → NextRow all prefix text → NextRow (x ∷ all) (y ∷ prefix) text
one_row_more x y all prefix text e n = record {
  row = n.row;
  behind = n.behind;
  are = ap (λ (r : Row). r ∷ all) e ∙ ap (λ (zs : List Row). y ∷ zs) n.are;
  fits = n.fits;
  is = n.is;
}

next_row : (all prefix : List Row) (text : List ℕ) (rest : List (List ℕ)) → AllFit all → AllFit prefix
    → map row_text all ≡ map row_text prefix ++ whole text ∷ rest → NextRow all prefix text
next_row [] [] text rest fit_all fit_prefix e = absurd cc
next_row [] (y ∷ prefix) text rest fit_all fit_prefix e = absurd cc
next_row (x ∷ all) [] text rest fit_all fit_prefix e =
    let first : row_text x ≡ whole text = cc in record { row = x; behind = all; are = refl; fits = fit_all.0; is = first }
next_row (x ∷ all) (y ∷ prefix) text rest fit_all fit_prefix e =
    let first : row_text x ≡ row_text y = cc in
    let later : map row_text all ≡ map row_text prefix ++ whole text ∷ rest = cc in
    one_row_more x y all prefix text (one_row x y fit_all.0 fit_prefix.0 first) (next_row all prefix text rest fit_all.1 fit_prefix.1 later)

-- ---- nothing is refused

some_runs : {A : Type 0} (s n : SoFar) (xs : List Row) (row : Row) (ys : List Row) → run xs ≡ Some s → run (xs ++ row ∷ ys) ≡ Some n
    → step (length xs + 2) s row ≡ None → A
some_runs s n xs row ys ran all stuck =
    absurd (let none : None ≡ Some n = sym (none_runs (length xs + 2 + 1) ys)
    ∙ ap (λ (o : Option SoFar). run_on o (length xs + 2 + 1) ys) (sym stuck)
    ∙ sym (then_run xs (row ∷ ys) (Some nothing_yet) (Some s) 2 (length xs + 2) refl ran) ∙ all in cc)

module _ (t : Transcript) (bytes : List ℕ) (spells : Spells t bytes) where
  -- a line that stands there is whole, and the row that comes next
  module _ (texts : List (List ℕ)) (text : List ℕ) (behind : List (List ℕ)) (are : texts_of t ≡ texts ++ text ∷ behind) where
    not_too_much : IsTooMuch (length texts) (with_end text) → ⊥
    not_too_much (inl past) =
        let most = spells.most in omega (arith, past, line_total t spells.fits, ap length are, length-append texts (text ∷ behind))
    not_too_much (inr long) =
        let short = (line_there texts text behind (subst AllLines are (all_are_lines t spells.fits))).short in omega (arith, long)

    lines_there : transcript_lines t ≡ map whole texts ++ whole text ∷ map whole behind
    lines_there = whole_lines t spells.fits ∙ ap (map whole) are ∙ map-append whole texts (text ∷ behind)

    misplaced_no_row : (s : SoFar) (header : Header) (xs : List Row) → Admits texts header xs s → NextRow (body t) xs text
        → IsMisplaced (length texts + 1) (After s) text → ⊥
    misplaced_no_row s header xs admits n none =
        let count : length texts + 1 ≡ length xs + 2 =
        omega (arith, ap length admits.lines, length-map texts whole, length-map xs row_text) in
        some_runs s (what_it_says t) xs n.row n.behind admits.ran (ap run (sym n.are) ∙ body_runs t spells.fits)
        (ap (λ (k : ℕ). step k s n.row) (sym count) ∙ none n.row n.fits n.is)

    not_misplaced : (place : Place) → IsAt texts place → IsMisplaced (length texts + 1) place text → ⊥
    not_misplaced First at none =
        let lines : transcript_lines t ≡ whole text ∷ map whole behind =
        lines_there ∙ ap (λ (xs : List (List ℕ)). map whole xs ++ whole text ∷ map whole behind) at in
        let first : transcript_line t.header.form t.header.config ≡ whole text = cc in none t.header spells.fits.header first
    not_misplaced (After s) at none =
        let admits = at.2 in
        let lines : transcript_line t.header.form t.header.config ∷ map row_text (body t)
        ≡ transcript_line at.0.form at.0.config ∷ (map row_text at.1 ++ whole text ∷ map whole behind) =
        lines_there ∙ ap (λ (xs : List (List ℕ)). xs ++ whole text ∷ map whole behind) admits.lines in
        let rest : map row_text (body t) ≡ map row_text at.1 ++ whole text ∷ map whole behind = cc in
        misplaced_no_row s at.0 at.1 admits (next_row (body t) at.1 text (map whole behind) spells.fits.rows admits.fit rest) none

    not_refused : (place : Place) (clause : ℕ) → IsAt texts place → RefusesCut (length texts) place (with_end text) clause → ⊥
    not_refused place clause at (inl h) = not_too_much h.1
    not_refused place clause at (inr h) = not_misplaced place at (h.2 refl)

  -- behind all lines it is finished
  not_unfinished : (texts : List (List ℕ)) → texts_of t ≡ texts → (place : Place) → IsAt texts place → IsUnfinished place → ⊥
  not_unfinished texts are First at open_end = let none : texts_of t ≡ [] = are ∙ at in absurd cc
  not_unfinished texts are (After s) at open_end =
      let admits = at.2 in
      let lines : transcript_line t.header.form t.header.config ∷ map row_text (body t)
      ≡ transcript_line at.0.form at.0.config ∷ map row_text at.1 =
      whole_lines t spells.fits ∙ ap (map whole) are ∙ admits.lines in
      let rest : map row_text (body t) ≡ map row_text at.1 = cc in
      let ran : Some s ≡ Some (what_it_says t) =
      sym admits.ran ∙ ap run (sym (same_rows (body t) at.1 spells.fits.rows admits.fit rest)) ∙ body_runs t spells.fits in
      let same : s ≡ what_it_says t = cc in open_end (ap (λ (x : SoFar). x.part) same)

  by_cut : (texts : List (List ℕ)) (place : Place) (clause : ℕ) (cut : Cut) → Next (texts_of t) texts cut → IsAt texts place
      → RefusesCut (length texts) place cut clause → ⊥
  by_cut texts place clause cut n at h =
      not_refused texts n.text n.behind n.are place clause at (subst (λ (c : Cut). RefusesCut (length texts) place c clause) n.is h)

  -- whatever was read of these bytes
  module _ (all more : List ℕ) (ended : Bool) (are : bytes ≡ all ++ more) (end : ended ≡ true → more ≡ []) where
    follows : Follows ended true more
    follows = record { nothing = end; end = λ was. refl }

    none_refused : (texts : List (List ℕ)) (place : Place) (clause : ℕ) → IsAt texts place → RefusesNext all ended texts place clause → ⊥
    none_refused texts place clause at (inl h) =
        let lines = h.1 true more follows in
        by_cut texts place clause h.0
        (next_line (texts_of t) texts h.0 lines.0
        (sym (cut_as_written t bytes spells) ∙ ap (lines_of MAX_TRANSCRIPT_LINES true 0) are ∙ lines.1
        ∙ append_assoc (map with_end texts) (h.0 ∷ []) lines.0)) at h.2
    none_refused texts place clause at (inr h) =
        let same : bytes ≡ all = are ∙ ap (λ (xs : List ℕ). all ++ xs) (end h.1) ∙ append-nil all in
        not_unfinished texts
        (same_texts (texts_of t) texts (sym (cut_as_written t bytes spells) ∙ ap (lines_of MAX_TRANSCRIPT_LINES true 0) same ∙ h.2))
        place at h.3

  by_source : (left : Option (List ℕ)) (line clause : ℕ) → IsRefused (Some bytes) left line clause → ⊥
  by_source None line clause h = absurd h.went.source
  by_source (Some more) line clause h =
      let r = h.refuses in none_refused h.all more h.ended h.went.source h.went.end r.texts r.place clause r.at r.refuses

pub written_is_not_refused : (t : Transcript) (bytes : List ℕ) (left : Option (List ℕ)) (line clause : ℕ) → Spells t bytes
    → IsRefused (Some bytes) left line clause → ⊥
written_is_not_refused t bytes left line clause spells h = by_source t bytes spells left line clause h

-- ---- what bytes say

pub read_in_one_way : (t u : Transcript) (bytes : List ℕ) → Spells t bytes → Spells u bytes → SaysTheSame t u
read_in_one_way t u bytes spells_t spells_u =
    let lines : transcript_line t.header.form t.header.config ∷ map row_text (body t)
    ≡ transcript_line u.header.form u.header.config ∷ map row_text (body u) =
    whole_lines t spells_t.fits
    ∙ ap (map whole) (same_texts (texts_of t) (texts_of u) (sym (cut_as_written t bytes spells_t) ∙ cut_as_written u bytes spells_u))
    ∙ sym (whole_lines u spells_u.fits) in
    let rest : map row_text (body t) ≡ map row_text (body u) = cc in
    let ran : Some (what_it_says t) ≡ Some (what_it_says u) =
    sym (body_runs t spells_t.fits) ∙ ap run (same_rows (body t) (body u) spells_t.fits.rows spells_u.fits.rows rest)
    ∙ body_runs u spells_u.fits in
    let same : what_it_says t ≡ what_it_says u = cc in
    record {
      claims = ap (λ (s : SoFar). s.said) same;
      places = ap (λ (s : SoFar). s.places) same;
      history = ap (λ (s : SoFar). s.history) same;
    }
