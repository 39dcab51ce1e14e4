-- What is known of claims that were read, and of the answer to what was found of them.
use Rattle.std.specs.Global.{Vec}
use Rattle.std.specs.Prelude.{◌≡◌, ◌<◌, ◌≤◌, ◌+◌, ℕ, ⊤, List, Some, Result, Ok, Err, length, map, slice_get, IfErr, IfOk, OnOk}
use Rattle.joined_orders.specs.declared.linearized.Linearized.{Linearized}
use Rattle.joined_orders.specs.declared.linearized.Linearized.TheVariants as linearized
use Rattle.linearize.specs.declared.answer.Answer.{Answer}
use Rattle.linearize.specs.declared.answer.Answer.TheVariants as answers
use Rattle.nop_types.specs.Lines.{Line, Accept}
use Rattle.nop_types.specs.Services.{IsBytes}
use Rattle.transcript_reader.specs.Claims.{lines_of}
use Rattle.transcript_reader.specs.Transcripts.{AllFit}
use Rattle.transcript_reader.specs.declared.check_error.CheckError.{CheckError}
use Rattle.transcript_reader.specs.declared.check_error.CheckError.TheVariants as errors
use Rattle.transcript_reader.specs.declared.claim.Claim.{Claim}
use Rattle.transcript_reader.specs.declared.limits.TheConstants.{MAX_TRANSCRIPT_LINES}
use Rattle.transcript_rows.specs.LineRows.{row_of}

-- each claim fits a line, and has its number
pub record IsInput (claims : List Line) (numbers : List ℕ) : Type 0 where
  pub fit : AllFit (map row_of claims)
  pub numbered : length numbers ≡ length claims

-- the result of a line is bytes
abbrev pub HasBytes : Line → Type 0
HasBytes (Accept client id result) = IsBytes result
HasBytes _ = ⊤

abbrev pub AllHaveBytes : List Line → Type 0
AllHaveBytes lines = (k : ℕ) (line : Line) → slice_get lines k ≡ Some line → HasBytes line

-- the claim that is named is one of so many
abbrev pub NamesOneOf : ℕ → Linearized → Type 0
NamesOneOf count (linearized.Order places) = ⊤
NamesOneOf count (linearized.Nothing part claim) = claim < count
NamesOneOf count (linearized.Groundless claim) = claim < count
NamesOneOf count (linearized.Repeated claim) = claim < count

-- the claims in this order, or there is no room for it
pub record IsInOrder (claims : Vec Claim) (places : Vec ℕ) (answer : Result Answer CheckError) : Type 0 where
  pub ok : IfOk answer (λ a. a ≡ answers.Order claims places)
  pub room : OnOk answer (length claims.items + length places.items + 2 ≤ MAX_TRANSCRIPT_LINES)
  pub bytes : AllHaveBytes (lines_of claims.items)
  pub err : IfErr answer (λ e. e ≡ errors.NoMemory)

-- what was found of claims, by the numbers of their lines
abbrev pub IsInLines : Vec Claim → List ℕ → Linearized → Result Answer CheckError → Type 0
IsInLines claims numbers (linearized.Order places) answer = IsInOrder claims places answer
IsInLines claims numbers (linearized.Nothing part claim) answer =
    (line : ℕ) × (slice_get numbers claim ≡ Some line) × (answer ≡ Ok (answers.NoOrder part line))
IsInLines claims numbers (linearized.Groundless claim) answer =
    (line : ℕ) × (slice_get numbers claim ≡ Some line) × (answer ≡ Err (errors.Refuted line 5))
IsInLines claims numbers (linearized.Repeated claim) answer =
    (line : ℕ) × (slice_get numbers claim ≡ Some line) × (answer ≡ Ok (answers.Repeated line))
