-- What a run tells, as rows of a transcript, claims what its lines claim.
use Rattle.std.proofs.Common.{◌≡◌, List, [], ◌∷◌, map, refl, ap, subst, sym}
use Rattle.std.specs.Prelude.{◌↔◌}
use Rattle.std.specs.List.{flat_map}
use Rattle.judge.proofs.Filtered.{claims_are_enough}
use Rattle.judge.specs.Saying.{claiming}
use Rattle.nop_types.specs.Legality.{Legal}
use Rattle.nop_types.specs.Lines.{Line, Submit, Accept}
use Rattle.nop_types.specs.Meaning.{Meaning}
use Rattle.nop_types.specs.declared.request.Request.{Request}
use Rattle.transcript_reader.specs.Transcripts.{said_by}
use Rattle.transcript_rows.specs.LineRows.{row_of}

pub rows_claim : (lines : List Line) → flat_map said_by (map row_of lines) ≡ claiming lines
rows_claim [] = refl
rows_claim (Submit request ∷ lines) = ap (λ (xs : List Line). Submit request ∷ xs) (rows_claim lines)
rows_claim (Accept client id result ∷ lines) = ap (λ (xs : List Line). Accept client id result ∷ xs) (rows_claim lines)
rows_claim (_ ∷ lines) = rows_claim lines

pub runs_are_judged : {S : Type 0} (m : Meaning S) (lines : List Line) (history : List Request)
    → (Legal m (flat_map said_by (map row_of lines)) history ↔ Legal m lines history)
runs_are_judged m lines history =
    subst (λ (claims : List Line). Legal m claims history ↔ Legal m lines history) (sym (rows_claim lines)) (claims_are_enough m lines history)
