-- What was read and judged is what the answer says of the bytes.
use Rattle.std.proofs.Common.{◌≡◌, ◌∙◌, ℕ, suc, ◌+◌, ◌≤◌, List, [], ◌∷◌, ◌++◌, length, map, Option, Result, Ok, Err, refl, sym, ap}
use Rattle.std.proofs.Common.{arith, length-append, subst, inr}
use Rattle.std.specs.Prelude.{slice_get}
use Rattle.std.specs.List.{flat_map}
use Rattle.std.proofs.lemmas.List.{length-map}
use Rattle.std.proofs.lemmas.Option.{slice_get_within}
use Rattle.judge.specs.Breaks.{Breaks}
use Rattle.judge.specs.Checking.{IsTallyOf, member_line, IsLineOf, IsChecked, IsNumbered, IsWithin, IsFoundAt, IsJudged}
use Rattle.judge.specs.declared.broken.Broken.{Broken}
use Rattle.judge.specs.declared.broken.Broken.TheVariants as broken
use Rattle.judge.specs.declared.tally.Tally.{Tally}
use Rattle.nop_types.specs.Legality.{Legal}
use Rattle.nop_types.specs.Lines.{Line}
use Rattle.nop_types.specs.Meaning.{Meaning}
use Rattle.nop_types.specs.declared.request.Request.{Request}
use Rattle.transcript_reader.specs.Reading.{IsTranscript}
use Rattle.transcript_reader.specs.Steps.{SoFar}
use Rattle.transcript_reader.specs.Transcripts.{Transcript, body, members, said, said_by, places_of, transcript_lines}
use Rattle.transcript_reader.specs.declared.check_error.CheckError.{CheckError}
use Rattle.transcript_reader.specs.declared.check_error.CheckError.TheVariants as errors
use Rattle.transcript_rows.specs.Rows.{row_text}
use Rattle.transcript_rows.specs.declared.row.Row.{Row}
use Rattle.transcript_rows.specs.declared.row.Row.TheVariants.{Dead, End}

-- ---- counts

-- a row claims one thing at most
says_one : (row : Row) → length (said_by row) ≤ 1
says_one (Dead actor) = omega arith
says_one _ = omega arith

said_within : (rows : List Row) → length (flat_map said_by rows) ≤ length rows
said_within [] = omega arith
said_within (row ∷ rows) = omega (arith, says_one row, said_within rows, length-append (said_by row) (flat_map said_by rows))

pub numbered_each : (line : ℕ) (rows : List Row) → length (places_of line rows) ≡ length (flat_map said_by rows)
numbered_each line [] = refl
numbered_each line (row ∷ rows) =
    omega (
      arith,
      numbered_each (line + 1) rows,
      length-map (said_by row) (λ (l : Line). line),
      length-append (map (λ (l : Line). line) (said_by row)) (places_of (line + 1) rows),
      length-append (said_by row) (flat_map said_by rows),
    )

pub member_count : (place : ℕ) (history : List Request) → length (members place history) ≡ length history
member_count place [] = refl
member_count place (r ∷ history) = ap suc (member_count (place + 1) history)

line_count : (t : Transcript)
    → length (transcript_lines t) ≡ length t.events + length t.states + length t.observers + length t.history + 2
line_count t =
    omega (
      arith,
      length-map (body t) row_text,
      length-append t.events (t.states ++ (t.observers ++ (members 1 t.history ++ End ∷ []))),
      length-append t.states (t.observers ++ (members 1 t.history ++ End ∷ [])),
      length-append t.observers (members 1 t.history ++ End ∷ []),
      length-append (members 1 t.history) (End ∷ []),
      member_count 1 t.history,
    )

module _ (before left : Option (List ℕ)) (s : SoFar) (count : ℕ) (read : IsTranscript before left s count) where
  pub numbered : IsNumbered s count
  numbered = record {
    places = ap length read.places ∙ numbered_each 2 read.whole.events ∙ ap length (sym read.claims);
    room = omega (
      arith,
      ap length read.claims,
      ap length read.history,
      said_within read.whole.events,
      line_count read.whole,
      read.lines,
    );
  }

  member_place : (line j : ℕ) → line + length s.history ≡ count + j → line ≡ member_line read.whole j
  member_place line j e = omega (arith, e, ap length read.history, line_count read.whole, read.lines)

  found_in : (place : Broken) (line clause : ℕ) → IsFoundAt s count place line clause → IsLineOf read.whole place line clause
  found_in (broken.Repeated j) line clause h = (h.0, member_place line j h.1)
  found_in (broken.Unsubmitted j) line clause h = (h.0, member_place line j h.1)
  found_in (broken.Unfounded k) line clause h = (h.0, ap (λ (xs : List ℕ). slice_get xs k) (sym read.places) ∙ h.1)
  found_in (broken.Overtaking k) line clause h = (h.0, ap (λ (xs : List ℕ). slice_get xs k) (sym read.places) ∙ h.1)
  found_in broken.NoMemory line clause h = absurd h

  module _ {S : Type 0} (m : Meaning S) where
    legal_there : Legal m s.said s.history → Legal m (said read.whole) read.whole.history
    legal_there h =
        subst (λ (lines : List Line). Legal m lines read.whole.history) read.claims
        (subst (λ (history : List Request). Legal m s.said history) read.history h)

    breaks_there : (place : Broken) → Breaks m s.said s.history place → Breaks m (said read.whole) read.whole.history place
    breaks_there place h =
        subst (λ (lines : List Line). Breaks m lines read.whole.history place) read.claims
        (subst (λ (history : List Request). Breaks m s.said history place) read.history h)

    tally_there : (tally : Tally) → IsTallyOf s.said s.history tally → IsTallyOf (said read.whole) read.whole.history tally
    tally_there tally h =
        subst (λ (lines : List Line). IsTallyOf lines read.whole.history tally) read.claims
        (subst (λ (history : List Request). IsTallyOf s.said history tally) read.history h)

    pub checked : (r : Result Tally CheckError) → IsJudged m s count r → IsChecked m before left r
    checked (Ok tally) h = record {
      all = read.all;
      went = read.went;
      text = record { whole = read.whole; spells = read.spells; legal = legal_there h.0 };
      counts = tally_there tally h.1;
    }
    checked (Err (errors.Refuted line clause)) h = inr (record {
      all = read.all;
      went = read.went;
      whole = read.whole;
      spells = read.spells;
      place = h.0;
      breaks = breaks_there h.0 h.1;
      at = found_in h.0 line clause h.2;
    })
    checked (Err errors.ReadFault) h = absurd h
    checked (Err errors.NoMemory) h = tt

-- ---- what is broken has a place

pub within : {S : Type 0} (m : Meaning S) (s : SoFar) (count : ℕ) (place : Broken) → IsNumbered s count
    → Breaks m s.said s.history place → IsWithin s place
within m s count (broken.Repeated j) n b = slice_get_within s.history j b.holds.second b.holds.second_stands
within m s count (broken.Unsubmitted j) n b = let x = b.at_first.holds in slice_get_within s.history j x.member x.stands
within m s count (broken.Unfounded k) n b =
    let x = b.at_first.holds in
    let here = slice_get_within s.said k _ x.line in omega (arith, here, n.places)
within m s count (broken.Overtaking k) n b =
    let x = b.at_first.holds in
    let here = slice_get_within s.said k _ x.submit_line in omega (arith, here, n.places)
within m s count broken.NoMemory n b = tt
