-- What is written of a run is the text of its transcript.
use Rattle.std.proofs.Common.{◌≡◌, ◌∙◌, ℕ, ◌+◌, ◌≤◌, List, [], ◌∷◌, ◌++◌, length, map, take, refl, sym, ap, arith, append_assoc}
use Rattle.std.proofs.Common.{append-nil}
use Rattle.std.specs.Prelude.{cond, count_by, Bool, true, false}
use Rattle.std.specs.List.{flat_map, list_all}
use Rattle.std.proofs.lemmas.Bool.{and_parts, leb-true, ne_eqb}
use Rattle.std.proofs.lemmas.Grind.{flat_map-append}
use Rattle.std.proofs.lemmas.List.{length-map}
use Rattle.std.proofs.lemmas.List.Sums.{sum_by-append, sum_by-cons}
use Rattle.nop_types.specs.Headers.{is_header}
use Rattle.nop_types.specs.declared.header.Header.{Header}
use Rattle.nop_types.specs.Lines.{Line}
use Rattle.nop_types.specs.Logs.{Trimmed, length_of}
use Rattle.nop_types.specs.declared.request.Entry.{Entry}
use Rattle.nop_types.specs.declared.request.Request.{Request}
use Rattle.observer.specs.ObserverSteps.{Observer}
use Rattle.observer.specs.Observing.{position}
use Rattle.replica_core.specs.ReplicaSteps.{Replica}
use Rattle.replica_state.specs.declared.state.ReplicaState.{ReplicaState}
use Rattle.transcript_reader.specs.Transcripts.{Transcript, Spells, AllFit, members, body, transcript_lines, transcript_text}
use Rattle.transcript_rows.proofs.RowLines.{is_inside, row_is_line, header_is_line}
use Rattle.transcript_rows.proofs.RowTexts as texts
use Rattle.transcript_rows.proofs.LineRows.{line_as_row, state_as_row, observer_as_row, entry_as_row, member_as_row, end_as_row}
use Rattle.transcript_rows.specs.Rows.{row_text}
use Rattle.transcript_rows.specs.LineRows.{row_of}
use Rattle.transcript_rows.specs.declared.row.Row.{Row}
use Rattle.transcript_rows.specs.declared.row.Row.TheVariants.{End}
use Rattle.transcript_text.specs.Transcript.{line_text, lines_text, transcript_line, replica_line, entry_line, history_line, end_line}
use Rattle.world.specs.Ending.{history_text, final_text}
use Rattle.world.specs.Seats.{Seated}
use Rattle.world.specs.StateLines.{entries_text, replica_text, replicas_text, observer_text, observers_text}
use Rattle.world.specs.WorldSteps.{Happened, WorldState, history}
use Rattle.judged_runs.specs.Runs.{slot_rows, rows_of, state_rows, watching_rows, transcript_of, is_line_end, HasRoom}

-- ---- each part

abbrev rows_text : List Row → List ℕ
rows_text rows = flat_map row_text rows

events_text : (ls : List Line) → rows_text (map row_of ls) ≡ lines_text ls
events_text [] = refl
events_text (l ∷ ls) =
    ap (λ (xs : List ℕ). xs ++ rows_text (map row_of ls)) (line_as_row l) ∙ ap (λ (xs : List ℕ). line_text l ++ xs) (events_text ls)

slots_text : (i slot : ℕ) (es : List Entry) → rows_text (slot_rows i slot es) ≡ entries_text i slot es
slots_text i slot [] = refl
slots_text i slot (e ∷ es) =
    ap (λ (xs : List ℕ). xs ++ rows_text (slot_rows i (slot + 1) es)) (entry_as_row i slot e)
    ∙ ap (λ (xs : List ℕ). entry_line i slot e ++ xs) (slots_text i (slot + 1) es)

module _ (archive : List Entry) where
  one_text : (i : ℕ) (p : Seated Replica) → rows_text (rows_of archive i p) ≡ replica_text archive i p
  one_text i p =
      let s : ReplicaState = p.state.state in
      let len : ℕ = length_of Trimmed s.log in
      let slots : List Entry = take s.sync.sync_point archive in
      ap (λ (xs : List ℕ). xs ++ rows_text (slot_rows i 1 slots)) (state_as_row i p.crashed s.status s.view len s.sync.sync_point)
      ∙ ap (λ (xs : List ℕ). replica_line i p.crashed s.status s.view len s.sync.sync_point ++ xs) (slots_text i 1 slots)

  states_text : (i : ℕ) (ps : List (Seated Replica)) → rows_text (state_rows archive i ps) ≡ replicas_text archive i ps
  states_text i [] = refl
  states_text i (p ∷ ps) =
      flat_map-append row_text (rows_of archive i p) (state_rows archive (i + 1) ps)
      ∙ ap (λ (xs : List ℕ). xs ++ rows_text (state_rows archive (i + 1) ps)) (one_text i p)
      ∙ ap (λ (xs : List ℕ). replica_text archive i p ++ xs) (states_text (i + 1) ps)

watching_text : (i : ℕ) (ps : List (Seated Observer)) → rows_text (watching_rows i ps) ≡ observers_text i ps
watching_text i [] = refl
watching_text i (p ∷ ps) =
    ap (λ (xs : List ℕ). xs ++ rows_text (watching_rows (i + 1) ps)) (observer_as_row i p.crashed (position p.state.heard.state))
    ∙ ap (λ (xs : List ℕ). observer_text i p ++ xs) (watching_text (i + 1) ps)

members_text : (place : ℕ) (rs : List Request) → rows_text (members place rs) ≡ history_text place rs
members_text place [] = refl
members_text place (r ∷ rs) =
    ap (λ (xs : List ℕ). xs ++ rows_text (members (place + 1) rs)) (member_as_row place r)
    ∙ ap (λ (xs : List ℕ). history_line place r ++ xs) (members_text (place + 1) rs)

last_text : rows_text (End ∷ []) ≡ end_line
last_text = append-nil (row_text End) ∙ end_as_row

-- ---- the whole

joined : (rows : List Row) → flat_map (λ (line : List ℕ). line) (map row_text rows) ≡ rows_text rows
joined [] = refl
joined (row ∷ rows) = ap (λ (xs : List ℕ). row_text row ++ xs) (joined rows)

-- four parts, of which each is equal
same_parts : (a b c d w x y z : List ℕ) → a ≡ w → b ≡ x → c ≡ y → d ≡ z → a ++ (b ++ (c ++ d)) ≡ w ++ x ++ y ++ z
same_parts a b c d w x y z e f g h =
    ap (λ (xs : List ℕ). xs ++ (b ++ (c ++ d))) e ∙ ap (λ (xs : List ℕ). w ++ (xs ++ (c ++ d))) f
    ∙ ap (λ (xs : List ℕ). w ++ (x ++ (xs ++ d))) g ∙ ap (λ (xs : List ℕ). w ++ (x ++ (y ++ xs))) h
    ∙ sym (append_assoc w x (y ++ z)) ∙ sym (append_assoc (w ++ x) y z)

ends_text : (w : WorldState)
    → rows_text (state_rows w.archive 0 w.replicas ++ (watching_rows 0 w.observers ++ (members 1 (history w) ++ End ∷ []))) ≡ final_text w
unfolding final_text
ends_text w =
    let states : List Row = state_rows w.archive 0 w.replicas in
    let watching : List Row = watching_rows 0 w.observers in
    let all : List Row = members 1 (history w) in
    flat_map-append row_text states (watching ++ (all ++ End ∷ []))
    ∙ ap (λ (xs : List ℕ). rows_text states ++ xs) (flat_map-append row_text watching (all ++ End ∷ []))
    ∙ ap (λ (xs : List ℕ). rows_text states ++ (rows_text watching ++ xs)) (flat_map-append row_text all (End ∷ []))
    ∙ same_parts (rows_text states) (rows_text watching) (rows_text all) (rows_text (End ∷ []))
    (replicas_text w.archive 0 w.replicas) (observers_text 0 w.observers) (history_text 1 (history w)) end_line
    (states_text w.archive 0 w.replicas) (watching_text 0 w.observers) (members_text 1 (history w)) last_text

pub run_text : (d : Header) (h : Happened)
    → transcript_text (transcript_of d h) ≡ transcript_line d.form d.config ++ (lines_text h.lines ++ final_text h.world)
run_text d h =
    let t : Transcript = transcript_of d h in
    ap (λ (xs : List ℕ). transcript_line d.form d.config ++ xs)
    (joined (body t)
    ∙ flat_map-append row_text t.events (t.states ++ (t.observers ++ (members 1 t.history ++ End ∷ [])))
    ∙ ap (λ (xs : List ℕ). xs ++ rows_text (t.states ++ (t.observers ++ (members 1 t.history ++ End ∷ [])))) (events_text h.lines)
    ∙ ap (λ (xs : List ℕ). lines_text h.lines ++ xs) (ends_text h.world))

-- ---- each line has its end

count_both : (xs ys : List ℕ) → count_by is_line_end (xs ++ ys) ≡ count_by is_line_end xs + count_by is_line_end ys
count_both xs ys = sum_by-append (λ (b : ℕ). cond (is_line_end b) 1 0) xs ys

-- a text that is a line and its end
one_end : (text line : List ℕ) → text ≡ line ++ 10 ∷ [] → 1 ≤ count_by is_line_end text
one_end text line e = let all = count_both line (10 ∷ []) in omega (arith, all, ap (count_by is_line_end) e)

rows_end : (rows : List Row) → length (map row_text rows) ≤ count_by is_line_end (rows_text rows)
rows_end [] = omega arith
rows_end (row ∷ rows) =
    let here = one_end (row_text row) (texts.spelled row) (texts.whole row) in
    let rest = rows_end rows in
    let all = count_both (row_text row) (rows_text rows) in
    omega (arith, here, rest, all)

pub lines_counted : (t : Transcript) → is_header t.header ≡ true
    → length (transcript_lines t) ≤ count_by is_line_end (transcript_text t)
lines_counted t is =
    let line : List ℕ = transcript_line t.header.form t.header.config in
    let here = one_end line (texts.spelled_header t.header) (texts.whole_header t.header is) in
    let rest = rows_end (body t) in
    let all = count_both line (flat_map (λ (l : List ℕ). l) (map row_text (body t))) in
    omega (arith, here, rest, all, ap (count_by is_line_end) (joined (body t)))

-- ---- and no other

no_ends : (text : List ℕ) → list_all is_inside text ≡ true → count_by is_line_end text ≡ 0
no_ends [] e = refl
no_ends (b ∷ bs) e =
    let p = and_parts (is_inside b) (list_all is_inside bs) e in
    let high = leb-true 11 b p.0 in
    let other : is_line_end b ≡ false = ne_eqb b 10 (λ same. omega (arith, high, same)) in
    sum_by-cons (λ (x : ℕ). cond (is_line_end x) 1 0) b bs
    ∙ ap (λ (t : Bool). cond t 1 0 + count_by is_line_end bs) other
    ∙ ap (λ (n : ℕ). 0 + n) (no_ends bs p.1)

only_end : (text line : List ℕ) → text ≡ line ++ 10 ∷ [] → list_all is_inside line ≡ true → count_by is_line_end text ≡ 1
only_end text line e inside =
    ap (count_by is_line_end) e ∙ count_both line (10 ∷ []) ∙ ap (λ (n : ℕ). n + 1) (no_ends line inside)

rows_counted : (rows : List Row) → AllFit rows → count_by is_line_end (rows_text rows) ≡ length rows
rows_counted [] fit = refl
rows_counted (row ∷ rows) fit =
    let here = only_end (row_text row) (texts.spelled row) (texts.whole row) (row_is_line row fit.0).inside in
    let rest = rows_counted rows fit.1 in
    let all = count_both (row_text row) (rows_text rows) in
    omega (arith, here, rest, all)

-- so bytes that spell a transcript have no line too many
pub spelled_has_room : (t : Transcript) (text : List ℕ) → Spells t text → HasRoom text
spelled_has_room t text spells =
    let line : List ℕ = transcript_line t.header.form t.header.config in
    let is = spells.fits.header in
    let here = only_end line (texts.spelled_header t.header) (texts.whole_header t.header is) (header_is_line t.header is).inside in
    let rest = rows_counted (body t) spells.fits.rows in
    let all = count_both line (flat_map (λ (l : List ℕ). l) (map row_text (body t))) in
    omega (
      arith,
      here,
      rest,
      all,
      ap (count_by is_line_end) (joined (body t)),
      ap (count_by is_line_end) spells.text,
      length-map (body t) row_text,
      spells.most,
    )
