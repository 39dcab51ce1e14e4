-- The bytes of a legal transcript are not refuted.
use Rattle.std.proofs.Common.{◌≡◌, ◌∙◌, ℕ, List, ◌++◌, Option, Some, None, Result, Ok, Err, refl, sym, ap, subst, append-nil, inl, inr}
use Rattle.judge.proofs.Illegal.{broken_is_illegal}
use Rattle.judge.specs.Checking.{IsLineOf, IsLegalText, IsIllegal, IsChecked, PassesLegal}
use Rattle.judge.specs.declared.broken.Broken.{Broken}
use Rattle.judge.specs.declared.tally.Tally.{Tally}
use Rattle.nop_types.specs.Legality.{Legal}
use Rattle.nop_types.specs.Lines.{Line}
use Rattle.nop_types.specs.Meaning.{Meaning}
use Rattle.nop_types.specs.declared.request.Request.{Request}
use Rattle.transcript_reader.proofs.Spellings.{written_is_not_refused, read_in_one_way}
use Rattle.transcript_reader.specs.Reading.{IsError}
use Rattle.transcript_reader.specs.Transcripts.{Spells, Transcript, said}
use Rattle.transcript_reader.specs.declared.check_error.CheckError.{CheckError}
use Rattle.transcript_reader.specs.declared.check_error.CheckError.TheVariants as errors

module _ {S : Type 0} (m : Meaning S) (bytes : List ℕ) (text : IsLegalText m bytes) where
  legal_as : (t : Transcript) → Spells t bytes → Legal m (said t) t.history
  legal_as t spells =
      let same = read_in_one_way text.whole t bytes text.spells spells in
      subst (λ (lines : List Line). Legal m lines t.history) same.claims
      (subst (λ (history : List Request). Legal m (said text.whole) history) same.history text.legal)

  not_illegal : (left : Option (List ℕ)) (line clause : ℕ) → IsIllegal m (Some bytes) left line clause → ⊥
  not_illegal None line clause h = absurd h.went.source
  not_illegal (Some more) line clause h =
      let same : bytes ≡ h.all = h.went.source ∙ ap (λ (xs : List ℕ). h.all ++ xs) (h.went.end refl) ∙ append-nil h.all in
      broken_is_illegal m (said h.whole) h.whole.history h.place
      (λ e. subst (λ (b : Broken). IsLineOf h.whole b line clause) e h.at) h.breaks
      (legal_as h.whole (subst (Spells h.whole) (sym same) h.spells))

pub passes : {S : Type 0} (m : Meaning S) (before left : Option (List ℕ)) (r : Result Tally CheckError) → IsChecked m before left r
    → PassesLegal m before r
passes m None left r h = tt
passes m (Some bytes) left (Ok tally) h = tt
passes m (Some bytes) left (Err (errors.Refuted line clause)) (inl refused) = λ text.
    written_is_not_refused text.whole bytes left line clause text.spells refused
passes m (Some bytes) left (Err (errors.Refuted line clause)) (inr illegal) = λ text. not_illegal m bytes text left line clause illegal
passes m (Some bytes) left (Err errors.ReadFault) h = tt
passes m (Some bytes) left (Err errors.NoMemory) h = tt

pub error_passes : {S : Type 0} (m : Meaning S) (before left : Option (List ℕ)) (e : CheckError) → IsError before left e
    → PassesLegal m before (Err e)
error_passes m before left (errors.Refuted line clause) h = passes m before left (Err (errors.Refuted line clause)) (inl h)
error_passes m before left errors.ReadFault h = passes m before left (Err errors.ReadFault) h
error_passes m before left errors.NoMemory h = passes m before left (Err errors.NoMemory) tt
