-- What a row adds to the claims, and to their marks.
use Rattle.std.proofs.Common.{◌≡◌, ◌∙◌, ◌≤◌, ◌<◌, ℕ, ◌+◌, Bool, true, false, List, [], ◌∷◌, ◌++◌, length, map, Option, Some, None, refl, sym, ap, append-nil, append_assoc, arith, inl, inr}
use Rattle.std.specs.Prelude.{◌⊎◌, ◌==◌, if◌then◌else◌, IfOk, Result, Ok, Err}
use Rattle.std.proofs.Common.{length-append}
use Rattle.std.proofs.lemmas.List.{length-map}
use Rattle.nop_types.specs.Lines.{Line}
use Rattle.transcript_reader.specs.Steps.{SoFar, event_step, is_events, is_over, may_have_observers, may_have_states}
use Rattle.transcript_reader.specs.Steps.{so_far, step, IsStep}
use Rattle.transcript_reader.proofs.RowLemmas.{taken_row, no_row}
use Rattle.transcript_reader.specs.AsRead as rows
use Rattle.transcript_reader.specs.AsRead.{IsTaken}
use Rattle.transcript_reader.specs.Claims.{line_of}
use Rattle.transcript_reader.specs.Reading.{whole}
use Rattle.transcript_reader.specs.Transcripts.{said_by}
use Rattle.transcript_rows.specs.declared.row.Row.{Row}
use Rattle.transcript_rows.specs.declared.row.Row.TheVariants.{Dead, Submit, Accept, Busy, Read, Answer, Sent, State, Slot, Watching}
use Rattle.transcript_rows.specs.declared.row.Row.TheVariants.{Member, End}
use Rattle.transcript_rows.specs.Rows.{RowFits, row_text}
use Rattle.unnoted_reader.specs.Reading.{IsTranscript, KeepsMarks, TakesRow, read_so_far}
use Rattle.unnoted_reader.specs.Unnoted.{as_read, is_unnoted, marks_of}
use Rattle.unnoted_reader.specs.declared.unnoted.Unnoted.{Unnoted}

if_some : (b : Bool) (s n : SoFar) → (if b then Some s else None) ≡ Some n → s ≡ n
if_some true s n e = cc
if_some false s n e = absurd cc

unless_some : (b : Bool) (s n : SoFar) → (if b then None else Some s) ≡ Some n → s ≡ n
unless_some true s n e = absurd cc
unless_some false s n e = cc

unless_if_some : (b c : Bool) (s n : SoFar) → (if b then None else if c then Some s else None) ≡ Some n → s ≡ n
unless_if_some true c s n e = absurd cc
unless_if_some false c s n e = if_some c s n e

-- ---- the claims

event_says : (line : ℕ) (s n : SoFar) (claim : List Line) → event_step line s claim ≡ Some n → n.said ≡ s.said ++ claim
event_says line s n claim e =
    sym (ap (λ (x : SoFar). x.said)
    (if_some (is_events s.part) (record s { said = s.said ++ claim; places = s.places ++ map (λ l. line) claim }) n e))

said_same : (s n : SoFar) (said : List Line) → said ≡ n.said → n.said ≡ said ++ []
said_same s n said e = sym e ∙ sym (append-nil said)

pub step_says : (line : ℕ) (s : SoFar) (row : Row) (n : SoFar) → step line s row ≡ Some n → n.said ≡ s.said ++ said_by row
step_says line s (State replica crashed status view len sync_point) n e =
    said_same s n s.said (ap (λ (x : SoFar). x.said) (if_some (may_have_states s.part) _ n e))
step_says line s (Slot replica slot entry) n e =
    said_same s n s.said (ap (λ (x : SoFar). x.said) (if_some (may_have_states s.part) _ n e))
step_says line s (Watching observer crashed position) n e =
    said_same s n s.said (ap (λ (x : SoFar). x.said) (if_some (may_have_observers s.part) _ n e))
step_says line s (Member place r) n e =
    said_same s n s.said (ap (λ (x : SoFar). x.said) (unless_if_some (is_over s.part) (place == length s.history + 1) _ n e))
step_says line s End n e = said_same s n s.said (ap (λ (x : SoFar). x.said) (unless_some (is_over s.part) _ n e))
step_says line s (Dead actor) n e = event_says line s n [] e
step_says line s (Submit request) n e = event_says line s n (said_by (Submit request)) e
step_says line s (Accept client id result) n e = event_says line s n (said_by (Accept client id result)) e
step_says line s (Busy client) n e = event_says line s n [] e
step_says line s (Read client id observer key) n e = event_says line s n [] e
step_says line s (Answer client id observer position result) n e = event_says line s n [] e
step_says line s (Sent index from dest kind len) n e = event_says line s n [] e

-- ---- their marks

one_said : (row : Row) → (said_by row ≡ []) ⊎ ((l : Line) × (said_by row ≡ l ∷ []))
one_said (Submit request) = inr (_, refl)
one_said (Accept client id result) = inr (_, refl)
one_said _ = inl refl

module _ (line : ℕ) (s : SoFar) (row : Row) (n : SoFar) (stepped : step line s row ≡ Some n) (mark : Bool) where
  said_count : length n.said ≡ length s.said + length (said_by row)
  said_count = ap length (step_says line s row n stepped) ∙ length-append s.said (said_by row)

  -- one more claim has one more mark
  pub mark_more : length s.said < length n.said → mark ∷ [] ≡ map (λ l. mark) (said_by row)
  mark_more more = elim (one_said row) [
    | inl none ↦
        let zero_more : length (said_by row) ≡ 0 = ap length none in
        absurd (omega (arith, said_count, zero_more, more))
    | inr one ↦ ap (map (λ (l : Line). mark)) (sym one.1)
  ]

  -- no more claims have no more marks
  pub mark_none : length n.said ≤ length s.said → map (λ l. mark) (said_by row) ≡ []
  mark_none few = elim (one_said row) [
    | inl none ↦ ap (map (λ (l : Line). mark)) none
    | inr one ↦
        let one_more : length (said_by row) ≡ 1 = ap length one.1 in
        absurd (omega (arith, said_count, one_more, few))
  ]

-- ---- what a call that takes a row says

pub stepped : (o : Option SoFar) (took : Bool) (n : SoFar) → took ≡ true → IsStep o took n → o ≡ Some n
stepped (Some s) took n e h = ap (λ (x : SoFar). Some x) (sym h.1)
stepped None took n e h = let f : took ≡ false = h in let t : true ≡ false = sym e ∙ f in absurd cc

pub not_stepped : (o : Option SoFar) (took : Bool) (n : SoFar) → took ≡ false → IsStep o took n → o ≡ None
not_stepped (Some s) took n e h = let t : true ≡ false = sym h.0 ∙ e in absurd cc
not_stepped None took n e h = refl

marks_push : (texts : List (List ℕ)) (rows : List Row) (text : List ℕ) (row : Row) → length texts ≡ length rows
    → marks_of (texts ++ text ∷ []) (rows ++ row ∷ []) ≡ marks_of texts rows ++ map (λ l. is_unnoted text) (said_by row)
marks_push [] [] text row e = append-nil (map (λ l. is_unnoted text) (said_by row))
marks_push [] (r ∷ rows) text row e = absurd cc
marks_push (t ∷ texts) [] text row e = absurd cc
marks_push (t ∷ texts) (r ∷ rows) text row e =
    ap (λ (xs : List Bool). map (λ l. is_unnoted t) (said_by r) ++ xs) (marks_push texts rows text row (omega (arith, e)))
    ∙ sym (append_assoc (map (λ l. is_unnoted t) (said_by r)) (marks_of texts rows) (map (λ l. is_unnoted text) (said_by row)))

-- the row of a text as it is read was taken, with its mark
module _ (line : ℕ) (text : List ℕ) (row : Row) (unnoted : Bool) (old new : Unnoted) (fits : RowFits row)
    (same : row_text row ≡ whole (as_read text)) (mark : unnoted ≡ is_unnoted text) where
  -- each claim has its mark
  keeps_marks : step line (so_far old.taken) row ≡ Some (so_far new.taken)
      → new.marks.items ≡ old.marks.items ++ map (λ l. is_unnoted text) (said_by row) → (texts : List (List ℕ)) (rows : List Row)
      → length texts ≡ length rows → KeepsMarks old texts rows → KeepsMarks new (texts ++ text ∷ []) (rows ++ row ∷ [])
  keeps_marks taken now texts rows count keeps =
      let claims = said_count line (so_far old.taken) row (so_far new.taken) taken (is_unnoted text) in
      let more = ap length now ∙ length-append old.marks.items (map (λ l. is_unnoted text) (said_by row)) in
      let as_many = keeps.1 in (
        now ∙ ap (λ (xs : List Bool). xs ++ map (λ l. is_unnoted text) (said_by row)) keeps.0 ∙ sym (marks_push texts rows text row count),
        omega (arith, claims, more, as_many, length-map (said_by row) (λ (l : Line). is_unnoted text)),
      )

  by_row : (took : Bool) → TakesRow line row unnoted (so_far old.taken) old.marks.items (so_far new.taken) new.marks.items took
      → IsTaken as_read read_so_far KeepsMarks line text old new took
  by_row true h =
      taken_row as_read read_so_far KeepsMarks line text row old new fits same h.0
      (keeps_marks h.0 (h.1 ∙ ap (λ (b : Bool). old.marks.items ++ map (λ (l : Line). b) (said_by row)) mark))
  by_row false h = no_row as_read read_so_far KeepsMarks line text row old new fits same h

  pub row_is_taken : {E : Type 0} (r : Result Bool E)
      → IfOk r (TakesRow line row unnoted (so_far old.taken) old.marks.items (so_far new.taken) new.marks.items)
      → IfOk r (IsTaken as_read read_so_far KeepsMarks line text old new)
  row_is_taken (Ok took) h = by_row took h
  row_is_taken (Err e) h = tt

-- ---- the whole

module _ (before left : Option (List ℕ)) (u : Unnoted) (count : ℕ)
    (read : rows.IsTranscript as_read read_so_far KeepsMarks before left u count) where
  pub transcript : IsTranscript before left (so_far u.taken) u.marks.items
  transcript = record {
    first = read.first;
    texts = read.texts;
    went = read.went;
    transcript = read.transcript;
    spells = read.spells;
    claims = read.claims;
    places = read.places;
    history = read.history;
    marks_are = read.keeps.0;
  }

  pub marks_count : length u.marks.items ≡ length u.taken.claims.items
  marks_count = read.keeps.1 ∙ length-map u.taken.claims.items line_of
