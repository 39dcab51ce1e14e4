-- A text is one row at most.
use Rattle.std.proofs.Common.{◌≡◌, ◌∙◌, ℕ, Bool, true, false, List, [], ◌∷◌, ◌++◌, length, Option, Some, None, Result, Ok, Err, refl, sym, ap}
use Rattle.std.specs.Prelude.{IfOk, ⊤}
use Rattle.std.proofs.lemmas.Bool.{false≢true}
use Rattle.transcript_reader.specs.AsRead.{IsTaken}
use Rattle.transcript_reader.specs.Reading.{whole}
use Rattle.transcript_reader.specs.Steps.{SoFar, step, IsStep}
use Rattle.transcript_rows.specs.declared.row.Row.{Row}
use Rattle.transcript_rows.specs.Rows.{RowFits, row_text}
use Rattle.transcript_rows.proofs.RowTexts.{row_again}

pub same_row : (r s : Row) (text : List ℕ) → RowFits r → RowFits s → row_text r ≡ whole text → row_text s ≡ whole text → r ≡ s
same_row r s text fits_r fits_s is_r is_s =
    let e : Some r ≡ Some s = sym (row_again r text fits_r is_r) ∙ row_again s text fits_s is_s in cc

-- the row of a text as it is read was taken
module _ (f : List ℕ → List ℕ) {A : Type 0} (read_by : A → SoFar) (Keeps : A → List (List ℕ) → List Row → Type 0) (line : ℕ) (text : List ℕ)
    (row : Row) (old new : A) (fits : RowFits row) (same : row_text row ≡ whole (f text)) where
  pub taken_row : step line (read_by old) row ≡ Some (read_by new) → ((texts : List (List ℕ)) (rows : List Row) → length texts ≡ length rows
      → Keeps old texts rows → Keeps new (texts ++ text ∷ []) (rows ++ row ∷ [])) → IsTaken f read_by Keeps line text old new true
  taken_row e keeps = (row, fits, same, e, keeps)

  pub no_row : step line (read_by old) row ≡ None → IsTaken f read_by Keeps line text old new false
  no_row e = λ r r_fits r_is. ap (step line (read_by old)) (same_row r row (f text) r_fits fits r_is same) ∙ e

-- where nothing is kept besides
module _ {A : Type 0} (read_by : A → SoFar) (line : ℕ) (text : List ℕ) (row : Row) (old new : A) (fits : RowFits row)
    (same : row_text row ≡ whole text) where
  by_step : (o : Option SoFar) (took : Bool) → step line (read_by old) row ≡ o → IsStep o took (read_by new)
      → IsTaken (λ (t : List ℕ). t) read_by (λ (x : A) (texts : List (List ℕ)) (rows : List Row). ⊤) line text old new took
  by_step (Some n) true e h =
      taken_row (λ (t : List ℕ). t) read_by (λ (x : A) (texts : List (List ℕ)) (rows : List Row). ⊤) line text row old new fits same
      (e ∙ ap Some (sym h.1)) (λ texts rows count none. tt)
  by_step (Some n) false e h = absurd (false≢true h.0)
  by_step None true e h = absurd (false≢true (sym h))
  by_step None false e h =
      no_row (λ (t : List ℕ). t) read_by (λ (x : A) (texts : List (List ℕ)) (rows : List Row). ⊤) line text row old new fits same e

  pub taken_as : {E : Type 0} (r : Result Bool E) → IfOk r (λ took. IsStep (step line (read_by old) row) took (read_by new))
      → IfOk r (IsTaken (λ (t : List ℕ). t) read_by (λ (x : A) (texts : List (List ℕ)) (rows : List Row). ⊤) line text old new)
  taken_as (Ok took) h = by_step (step line (read_by old) row) took refl h
  taken_as (Err e) h = tt
