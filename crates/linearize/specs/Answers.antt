-- Which answer is right.
use Rattle.std.specs.Prelude.{◌≡◌, ◌⊎◌, ℕ, ⊤, Bool, List, Option, Some, Result, Ok, Err, slice_get}
use Rattle.filled_orders.specs.FilledAnswers.{LacksOrders}
use Rattle.judge.specs.Checking.{IsLegalText}
use Rattle.linearize.specs.Texts.{answer_text}
use Rattle.linearize.specs.declared.answer.Answer.{Answer}
use Rattle.linearize.specs.declared.answer.Answer.TheVariants.{Order, NoOrder, Repeated, Unknown}
use Rattle.nop_types.specs.Lines.{Line}
use Rattle.nop_types.specs.Meaning.{Meaning}
use Rattle.order_search.specs.Bounds.{AcceptsAt}
use Rattle.pairs.specs.Stops.{AreGood, IsGroundless, IsRepeat}
use Rattle.transcript_reader.specs.Steps.{SoFar}
use Rattle.transcript_reader.specs.Transcripts.{said}
use Rattle.transcript_reader.specs.declared.check_error.CheckError.{CheckError}
use Rattle.transcript_reader.specs.declared.check_error.CheckError.TheVariants as errors
use Rattle.unknown_results.specs.Asking.{unknown_in}
use Rattle.unknown_results.specs.Filling.{Fills, HasNoOrder}
use Rattle.unnoted_reader.specs.Reading.{IsInterrupted, IsRefused, IsTranscript}

-- ---- of claims, of which results are unknown, and the numbers of their lines

-- the text spells a transcript of the same claims, but for results that are unknown, with a legal history
pub record IsOrdered {S : Type 0} (m : Meaning S) (unknown : ℕ → ℕ → Bool) (claims : List Line) (text : List ℕ) : Type 0 where
  pub legal : IsLegalText m text
  pub fills : Fills unknown claims (said legal.whole)

-- no history is legal, whatever the unknown results are: the first claim that has no pair is at this line, and accepts what no earlier one
-- submits, or what an earlier one accepts
pub record LacksGround {S : Type 0} (m : Meaning S) (unknown : ℕ → ℕ → Bool) (claims : List Line) (numbers : List ℕ) (line : ℕ)
    : Type 0 where
  pub none : HasNoOrder m unknown claims
  pub place : ℕ
  pub at : slice_get numbers place ≡ Some line
  pub groundless : IsGroundless claims place
  pub first : AreGood claims place

-- the first claim that has no pair is at this line, and submits what an earlier one submits
pub record IsRepeated (claims : List Line) (numbers : List ℕ) (line : ℕ) : Type 0 where
  pub place : ℕ
  pub at : slice_get numbers place ≡ Some line
  pub repeats : IsRepeat claims place
  pub first : AreGood claims place

module _ {S : Type 0} (m : Meaning S) (part_of : List ℕ → List ℕ) (most_parts : ℕ) where
  -- no history is legal, whatever the unknown results are, since this part alone has none; the line accepts
  pub record HasNone (unknown : ℕ → ℕ → Bool) (claims : List Line) (numbers : List ℕ) (part : List ℕ) (line : ℕ) : Type 0 where
    pub none : HasNoOrder m unknown claims
    pub part_lacks : LacksOrders m part_of most_parts unknown claims part
    pub place : ℕ
    pub at : slice_get numbers place ≡ Some line
    pub accepts : AcceptsAt claims place

  -- in so many steps
  abbrev pub IsRight : (ℕ → ℕ → Bool) → List Line → List ℕ → ℕ → Result Answer CheckError → Type 0
  IsRight unknown claims numbers most (Ok (Order ordered places)) = IsOrdered m unknown claims (answer_text (Ok (Order ordered places)))
  IsRight unknown claims numbers most (Ok (NoOrder part line)) = HasNone unknown claims numbers part.items line
  IsRight unknown claims numbers most (Ok (Repeated line)) = IsRepeated claims numbers line
  IsRight unknown claims numbers most (Ok (Unknown steps)) = steps ≡ most
  IsRight unknown claims numbers most (Err (errors.Refuted line clause)) = (clause ≡ 5) × LacksGround m unknown claims numbers line
  IsRight unknown claims numbers most (Err errors.ReadFault) = ⊥
  IsRight unknown claims numbers most (Err errors.NoMemory) = ⊤

  -- ---- of a source

  module _ (most : ℕ) (before left : Option (List ℕ)) where
    -- the source has none left, its bytes spell a transcript, in which `?` may stand for results, and the answer is right for its claims;
    -- unknown are the results of those with a `?`
    pub record Decides (answer : Result Answer CheckError) : Type 0 where
      pub said : SoFar
      pub marks : List Bool
      pub read : IsTranscript before left said marks
      pub right : IsRight (unknown_in marks said.said) said.said said.places most answer

    abbrev pub IsAnswered : Result Answer CheckError → Type 0
    IsAnswered (Ok answer) = Decides (Ok answer)
    IsAnswered (Err (errors.Refuted line clause)) = IsRefused before left line clause ⊎ Decides (Err (errors.Refuted line clause))
    IsAnswered (Err errors.ReadFault) = IsInterrupted before left
    IsAnswered (Err errors.NoMemory) = ⊤
