-- The members of a history, numbered.
use Rattle.std.proofs.Common.{◌≡◌, ◌∙◌, ◌+◌, ◌<◌, add-one, ℕ, List, ◌∷◌, ◌++◌, length, sym, ap, arith, append_assoc, get_or}
use Rattle.std.specs.Prelude.{Option, Some, drop, slice_get}
use Rattle.std.specs.List.{flat_map}
use Rattle.std.proofs.lemmas.List.{length-map}
use Rattle.std.proofs.lemmas.Option.{slice_get-get_or, slice_get_within}
use Rattle.nop_types.specs.Lines.{Line, Submit}
use Rattle.nop_types.specs.declared.request.Request.{Request}
use Rattle.lemmas.proofs.Places.{Splits-at}
use Rattle.order_search.specs.Searching.{told_by}
use Rattle.order_search.specs.Turns.{AllSubmit, history_at}
use Rattle.transcript_reader.specs.Claims.{line_of, lines_of}
use Rattle.transcript_reader.specs.Transcripts.{members}
use Rattle.transcript_reader.specs.declared.claim.Claim.{Claim}
use Rattle.transcript_rows.specs.Rows.{row_text}
use Rattle.transcript_rows.specs.declared.row.Row.TheVariants.{Member}

-- the place that stands at the place k, where a line submits
record IsPlaced (ls : List Line) (places : List ℕ) (k i : ℕ) : Type 0 where
  pub there : slice_get places k ≡ Some i
  pub request : Request
  pub submits : slice_get ls i ≡ Some (Submit request)

placed : (ls : List Line) (places : List ℕ) (k : ℕ) → AllSubmit ls places → k < length places → IsPlaced ls places k (get_or places k 0)
placed ls places k submit below =
    let there = slice_get-get_or places k 0 below in
    let line = submit k (get_or places k 0) there in
    record { there = there; request = line.0; submits = line.1 }

pub place_within : (claims : List Claim) (places : List ℕ) (k : ℕ) → AllSubmit (lines_of claims) places → k < length places
    → get_or places k 0 < length claims
place_within claims places k submit below =
    let line = placed (lines_of claims) places k submit below in
    let within = slice_get_within (lines_of claims) (get_or places k 0) (Submit line.request) line.submits in
    omega (arith, within, length-map claims line_of)

pub submits_there : (ls : List Line) (places : List ℕ) (k : ℕ) (line : Line) → AllSubmit ls places → k < length places
    → slice_get ls (get_or places k 0) ≡ Some line → (r : Request) × (line ≡ Submit r)
submits_there ls places k line submit below is =
    let there = placed ls places k submit below in
    let same = there.submits in (there.request, cc)

-- one more member is written, and the others are left
pub one_written : (ls : List Line) (places : List ℕ) (k number : ℕ) (line : Line) (before after : List ℕ) → AllSubmit ls places
    → k < length places → slice_get ls (get_or places k 0) ≡ Some line
    → ((r : Request) → line ≡ Submit r → after ≡ before ++ row_text (Member number r))
    → after ++ flat_map row_text (members (number + 1) (history_at ls (drop (k + 1) places)))
    ≡ before ++ flat_map row_text (members number (history_at ls (drop k places)))
one_written ls places k number line before after submit below is wrote =
    let there = placed ls places k submit below in
    let request : line ≡ Submit there.request = let same = there.submits in cc in
    let rest : List ℕ = flat_map row_text (members (number + 1) (history_at ls (drop (k + 1) places))) in
    let next : drop k places ≡ get_or places k 0 ∷ drop (k + 1) places = rw add-one (Splits-at places k (get_or places k 0) there.there).back in
    let history : history_at ls (drop k places) ≡ there.request ∷ history_at ls (drop (k + 1) places) =
    ap (history_at ls) next
    ∙ ap (λ (o : Option Line). told_by o ++ history_at ls (drop (k + 1) places)) there.submits in
    ap (λ (t : List ℕ). t ++ rest) (wrote there.request request)
    ∙ append_assoc before (row_text (Member number there.request)) rest
    ∙ ap (λ (h : List Request). before ++ flat_map row_text (members number h)) (sym history)
