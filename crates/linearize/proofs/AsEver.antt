-- Where all results were noted.
use Rattle.std.proofs.Common.{◌≡◌, ℕ, Bool, false, List, Option, Result, Ok, Err, refl, length}
use Rattle.filled_orders.proofs.Found.{fills_itself, no_marks}
use Rattle.linearize.specs.Answers.{Decides, IsRight}
use Rattle.linearize.specs.Noted as noted
use Rattle.linearize.specs.declared.answer.Answer.{Answer}
use Rattle.linearize.specs.declared.answer.Answer.TheVariants.{Order, NoOrder, Repeated, Unknown}
use Rattle.nop_types.specs.Lines.{Line}
use Rattle.nop_types.specs.Meaning.{Meaning}
use Rattle.transcript_reader.specs.Transcripts.{said, transcript_lines}
use Rattle.transcript_reader.specs.declared.check_error.CheckError.{CheckError}
use Rattle.transcript_reader.specs.declared.check_error.CheckError.TheVariants as errors
use Rattle.unknown_results.specs.Asking.{unknown_in}
use Rattle.unnoted_reader.proofs.Noted.{read_as_ever, unmarked}
use Rattle.unnoted_reader.specs.Unnoted.{AllNoted}

module _ {S : Type 0} (m : Meaning S) (part_of : List ℕ → List ℕ) (most_parts : ℕ) (unknown : ℕ → ℕ → Bool) (claims : List Line)
    (known : (client id : ℕ) → unknown client id ≡ false) where
  right_as_ever : (numbers : List ℕ) (most : ℕ) (r : Result Answer CheckError) → IsRight m part_of most_parts unknown claims numbers most r
      → noted.IsRight m part_of most_parts claims numbers most r
  right_as_ever numbers most (Ok (Order ordered places)) h = record {
    legal = h.legal;
    same = fills_itself m part_of most_parts unknown claims known (said h.legal.whole) h.fills;
  }
  right_as_ever numbers most (Ok (NoOrder part line)) h = record {
    none = h.none claims refl;
    part_lacks = h.part_lacks claims refl;
    place = h.place;
    at = h.at;
    accepts = h.accepts;
  }
  right_as_ever numbers most (Ok (Repeated line)) h = h
  right_as_ever numbers most (Ok (Unknown steps)) h = h
  right_as_ever numbers most (Err (errors.Refuted line clause)) h = (
    h.0,
    record { none = h.1.none claims refl; place = h.1.place; at = h.1.at; groundless = h.1.groundless; first = h.1.first },
  )
  right_as_ever numbers most (Err errors.ReadFault) h = h
  right_as_ever numbers most (Err errors.NoMemory) h = h

pub decides_as_ever : {S : Type 0} (m : Meaning S) (part_of : List ℕ → List ℕ) (most_parts most : ℕ) (before left : Option (List ℕ))
    (answer : Result Answer CheckError) (d : Decides m part_of most_parts most before left answer) → AllNoted d.read.texts
    → noted.Decides m part_of most_parts most before left answer
decides_as_ever m part_of most_parts most before left answer d all = record {
  said = d.said;
  count = length (transcript_lines d.read.transcript);
  read = read_as_ever before left d.said d.marks d.read all;
  right = right_as_ever m part_of most_parts (unknown_in d.marks d.said.said) d.said.said
      (no_marks d.marks d.said.said (unmarked before left d.said d.marks d.read all)) d.said.places most answer d.right;
}
