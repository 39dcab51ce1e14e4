-- With what status it ends.
use Rattle.std.proofs.Common.{◌≡◌, ℕ, List, Option, Result, Ok, Err, refl, subst, inl, inr}
use Rattle.std.specs.Io.KnownBytes.{Appends}
use Rattle.linearize.specs.Answers.{IsAnswered}
use Rattle.linearize.specs.Ending.{Ends, ReadsTo, Wrote, status_of}
use Rattle.linearize.specs.Texts.{answer_text}
use Rattle.linearize.specs.declared.answer.Answer.{Answer}
use Rattle.linearize.specs.declared.answer.Answer.TheVariants.{Order, NoOrder, Repeated, Unknown}
use Rattle.linearize.specs.declared.status.Status.{Status}
use Rattle.nop_types.specs.Meaning.{Meaning}
use Rattle.outside.specs.Causes.{CountsFor, StaysOrRises}
use Rattle.outside.proofs.Written.{all_of}
use Rattle.transcript_reader.specs.declared.check_error.CheckError.{CheckError}
use Rattle.transcript_reader.specs.declared.check_error.CheckError.TheVariants as errors

module _ {S : Type 0} (m : Meaning S) (part_of : List ℕ → List ℕ) (most_parts most : ℕ) (bytes left before now : Option (List ℕ)) where
  -- by the answer that was written
  pub wrote_answer : (answer : Result Answer CheckError) (s : Status) → s ≡ status_of answer → IsAnswered m part_of most_parts most bytes left answer
      → Appends before now (answer_text answer) → Ends m part_of most_parts most bytes left before now s
  wrote_answer (Ok (Order claims places)) s is h wrote = rw is (claims, places, record { right = h; text = wrote })
  wrote_answer (Ok (NoOrder part line)) s is h wrote = rw is (inl (part, line, record { right = h; text = wrote }))
  wrote_answer (Ok (Repeated line)) s is h wrote = rw is (inr (line, record { right = h; text = wrote }))
  wrote_answer (Ok (Unknown steps)) s is h wrote =
      let all : Wrote m part_of most_parts most bytes left before now (Ok (Unknown steps)) = record { right = h; text = wrote } in
      rw is (inl (subst (λ (n : ℕ). Wrote m part_of most_parts most bytes left before now (Ok (Unknown n))) h.right all))
  wrote_answer (Err (errors.Refuted line clause)) s is h wrote = rw is (inr (line, clause, record { right = h; text = wrote }))
  wrote_answer (Err errors.ReadFault) s is h wrote = rw is (record { right = h; text = wrote })
  wrote_answer (Err errors.NoMemory) s is h wrote =
      rw is (record { answer = Err errors.NoMemory; right = h; text = all_of (answer_text (Err errors.NoMemory)) before now wrote })

-- ---- a read that fails is told

-- at any answer at most one read failed
pub may_have_risen : (a b : ℕ) (answer : Result Answer CheckError) → CountsFor a b errors.ReadFault answer → StaysOrRises a b
may_have_risen a b (Ok answer) h = inl (h.others (λ failed. cc))
may_have_risen a b (Err (errors.Refuted line clause)) h = inl (h.others (λ failed. cc))
may_have_risen a b (Err errors.ReadFault) h = inr (h.failed refl)
may_have_risen a b (Err errors.NoMemory) h = inl (h.others (λ failed. cc))

pub answer_reads : (a b : ℕ) (answer : Result Answer CheckError) (s : Status) → s ≡ status_of answer
    → CountsFor a b errors.ReadFault answer → ReadsTo a b s
answer_reads a b (Ok (Order claims places)) s is h = rw is (h.others (λ failed. cc))
answer_reads a b (Ok (NoOrder part line)) s is h = rw is (h.others (λ failed. cc))
answer_reads a b (Ok (Repeated line)) s is h = rw is (h.others (λ failed. cc))
answer_reads a b (Ok (Unknown steps)) s is h = rw is (h.others (λ failed. cc))
answer_reads a b (Err (errors.Refuted line clause)) s is h = rw is (h.others (λ failed. cc))
answer_reads a b (Err errors.ReadFault) s is h = rw is (h.failed refl)
answer_reads a b (Err errors.NoMemory) s is h = rw is (may_have_risen a b (Err errors.NoMemory) h)
