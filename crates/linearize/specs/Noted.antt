-- Which answer is right where all results were noted.
use Rattle.std.specs.Prelude.{◌≡◌, ℕ, ⊤, List, Option, Some, Result, Ok, Err, slice_get}
use Rattle.fronts.specs.Fronts.{HasOrder}
use Rattle.joined_orders.specs.Answers.{LacksOrder}
use Rattle.judge.specs.Checking.{IsLegalText}
use Rattle.linearize.specs.Answers.{IsRepeated}
use Rattle.linearize.specs.Texts.{answer_text}
use Rattle.linearize.specs.declared.answer.Answer.{Answer}
use Rattle.linearize.specs.declared.answer.Answer.TheVariants.{Order, NoOrder, Repeated, Unknown}
use Rattle.nop_types.specs.Lines.{Line}
use Rattle.nop_types.specs.Meaning.{Meaning}
use Rattle.order_search.specs.Bounds.{AcceptsAt}
use Rattle.pairs.specs.Stops.{AreGood, IsGroundless}
use Rattle.transcript_reader.specs.Reading.{IsTranscript}
use Rattle.transcript_reader.specs.Steps.{SoFar}
use Rattle.transcript_reader.specs.Transcripts.{said}
use Rattle.transcript_reader.specs.declared.check_error.CheckError.{CheckError}
use Rattle.transcript_reader.specs.declared.check_error.CheckError.TheVariants as errors

-- the text spells a transcript of the same claims, with a legal history
pub record IsOrdered {S : Type 0} (m : Meaning S) (claims : List Line) (text : List ℕ) : Type 0 where
  pub legal : IsLegalText m text
  pub same : said legal.whole ≡ claims

-- no history is legal: the first claim that has no pair is at this line, and accepts what no earlier one submits, or what an earlier one
-- accepts
pub record LacksGround {S : Type 0} (m : Meaning S) (claims : List Line) (numbers : List ℕ) (line : ℕ) : Type 0 where
  pub none : HasOrder m claims → ⊥
  pub place : ℕ
  pub at : slice_get numbers place ≡ Some line
  pub groundless : IsGroundless claims place
  pub first : AreGood claims place

module _ {S : Type 0} (m : Meaning S) (part_of : List ℕ → List ℕ) (most_parts : ℕ) where
  -- no history is legal, since this part alone has none; the line accepts
  pub record HasNone (claims : List Line) (numbers : List ℕ) (part : List ℕ) (line : ℕ) : Type 0 where
    pub none : HasOrder m claims → ⊥
    pub part_lacks : LacksOrder m part_of most_parts claims part
    pub place : ℕ
    pub at : slice_get numbers place ≡ Some line
    pub accepts : AcceptsAt claims place

  -- in so many steps
  abbrev pub IsRight : List Line → List ℕ → ℕ → Result Answer CheckError → Type 0
  IsRight claims numbers most (Ok (Order ordered places)) = IsOrdered m claims (answer_text (Ok (Order ordered places)))
  IsRight claims numbers most (Ok (NoOrder part line)) = HasNone claims numbers part.items line
  IsRight claims numbers most (Ok (Repeated line)) = IsRepeated claims numbers line
  IsRight claims numbers most (Ok (Unknown steps)) = steps ≡ most
  IsRight claims numbers most (Err (errors.Refuted line clause)) = (clause ≡ 5) × LacksGround m claims numbers line
  IsRight claims numbers most (Err errors.ReadFault) = ⊥
  IsRight claims numbers most (Err errors.NoMemory) = ⊤

  -- the source has none left, its bytes spell a transcript, and the answer is right for its claims
  pub record Decides (most : ℕ) (before left : Option (List ℕ)) (answer : Result Answer CheckError) : Type 0 where
    pub said : SoFar
    pub count : ℕ
    pub read : IsTranscript before left said count
    pub right : IsRight said.said said.places most answer
