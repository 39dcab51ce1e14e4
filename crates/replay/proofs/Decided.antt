-- What was written where the source is asked.
use Rattle.std.proofs.Common.{◌≡◌, ◌≢◌, ℕ, List, [], ◌∷◌, ◌++◌, Bool, true, false, Option, Some, None, refl, sym, ap, ◌∙◌, append_assoc, inl, inr}
use Rattle.std.specs.Prelude.{Err}
use Rattle.std.proofs.KnownBytes.{Appends-nil, Appends-trans}
use Rattle.std.proofs.lemmas.List.{append-nil}
use Rattle.nop_types.specs.declared.header.Header.{Header}
use Rattle.nop_types.specs.Meaning.{Meaning}
use Rattle.schedule_text.proofs.Turns.{none_of_nothing}
use Rattle.schedule_text.specs.Reading.{Reading, lines_before}
use Rattle.schedule_text.specs.Stepping.{NeedsNoRead}
use Rattle.world.specs.WorldSteps.{WorldState}
use Rattle.replay.specs.declared.error.ReplayError.{ReplayError}
use Rattle.replay.specs.declared.error.ReplayError.TheVariants as errors
use Rattle.replay.specs.Output.{then_text, rest, output}
use Rattle.replay.specs.Outcome.{EndsWith, IsInterrupted}
use Rattle.replay.specs.Progress.{Start, begins, GoingOf, GoesOn, MayRead}
use Rattle.replay.specs.Steps.{Fails, Gathered}
use Rattle.replay.proofs.Texts.{rest_some}
use Rattle.replay.proofs.Progressing.{fails_with, interrupts_with, unknown_ends}

not_true : (b : Bool) → (b ≡ true → ⊥) → b ≡ false
not_true true none = absurd (none refl)
not_true false none = refl

not_some : {A : Type 0} (xs : List A) → (xs ≢ [] → ⊥) → xs ≡ []
not_some [] none = refl
not_some (x ∷ xs) none = absurd (none (λ e. absurd cc))

module _ {S : Type 0} (m : Meaning S) where
  none_taken : (bytes before : Option (List ℕ)) → IsInterrupted m bytes bytes before before
  unfolding output
  none_taken None before = tt
  none_taken (Some bytes) before =
      let none = none_of_nothing false 0 in
      record { taken = []; split = refl; good = rw none refl; wrote = rw none (Appends-nil before) }

  -- at the start nothing is taken and nothing is to be written
  pub may_begin : (start : Start) (bytes before : Option (List ℕ)) (r : Reading) → start ≡ begins bytes before
      → MayRead m start r bytes before
  unfolding MayRead
  may_begin start bytes before r is = λ undecided. rw is (none_taken bytes before)

  -- what was gathered is written or stays
  gathered_on : (bytes left before now after : Option (List ℕ)) (pending new_pending : List ℕ) (r : Reading) (h : Header)
      (w : WorldState) → GoingOf m bytes left before now pending r h w → Gathered now after pending new_pending []
      → GoingOf m bytes left before after new_pending r h w
  gathered_on None left before now after pending new_pending r h w going g = tt
  gathered_on (Some bytes) None before now after pending new_pending r h w going g = absurd going
  gathered_on (Some bytes) (Some left) before now after pending new_pending r h w going g =
      let p = going.progress in
      let same : p.written ++ pending ≡ (p.written ++ g.written) ++ new_pending =
      ap (λ (t : List ℕ). p.written ++ t) (sym (append-nil pending) ∙ sym g.all) ∙ sym (append_assoc p.written g.written new_pending) in
      record {
        header = going.header;
        progress = record {
          taken = p.taken;
          split = p.split;
          end = p.end;
          written = p.written ++ g.written;
          wrote = Appends-trans before now after p.written g.written p.wrote g.wrote;
          goes = λ ended more may.
              p.goes ended more may
              ∙ ap (λ (t : List ℕ). then_text t (rest m ended h.config w r.line (lines_before r ended more))) same;
        };
      }

  -- or some of it was not written
  some_unwritten : (bytes left before now after : Option (List ℕ)) (pending : List ℕ) (r : Reading) (h : Header)
      (w : WorldState) (e : ReplayError) → GoingOf m bytes left before now pending r h w → Fails now after (pending ++ []) e
      → EndsWith m bytes left before after (Err e)
  some_unwritten None left before now after pending r h w e going f = unknown_ends m left before after (Err e)
  some_unwritten (Some bytes) None before now after pending r h w e going f = absurd going
  some_unwritten (Some bytes) (Some left) before now after pending r h w e going f =
      fails_with m bytes left before now after pending r _ [] _ e going.progress refl
      (rest_some m h.config w r.line (lines_before r true left)) f

  -- where nothing is gathered and no line is left, all is written that the bytes taken decide
  all_written : (bytes left before now : Option (List ℕ)) (pending : List ℕ) (r : Reading) (h : Header) (w : WorldState)
      → GoingOf m bytes left before now pending r h w → (NeedsNoRead r → ⊥) → pending ≡ [] → IsInterrupted m bytes left before now
  all_written None left before now pending r h w going undecided none = tt
  all_written (Some bytes) None before now pending r h w going undecided none = absurd going
  all_written (Some bytes) (Some left) before now pending r h w going undecided none =
      interrupts_with m bytes left before now now pending r _ errors.ReadFault going.progress
      (not_true r.ended (λ ended. undecided (inl ended)))
      (ap (rest m false h.config w r.line) (not_some (lines_before r false []) (λ some. undecided (inr some))))
      (rw none (Appends-nil now))

  -- ---- the same since a start

  pub goes_on : (start : Start) (left now after : Option (List ℕ)) (pending new_pending : List ℕ) (r : Reading) (w : WorldState)
      → GoesOn m start left now pending r w → Gathered now after pending new_pending [] → GoesOn m start left after new_pending r w
  goes_on start left now after pending new_pending r w k g = record {
    header = k.header;
    going = gathered_on start.bytes left start.held now after pending new_pending r k.header w k.going g;
  }

  pub may_go_on : (start : Start) (left now : Option (List ℕ)) (pending : List ℕ) (r : Reading) (w : WorldState)
      → GoesOn m start left now pending r w → (¬ NeedsNoRead r → pending ≡ []) → MayRead m start r left now
  unfolding MayRead
  may_go_on start left now pending r w k none =
      λ undecided. all_written start.bytes left start.held now pending r k.header w k.going undecided (none undecided)

  pub stays_unwritten : (start : Start) (left now after : Option (List ℕ)) (pending : List ℕ) (r : Reading) (w : WorldState)
      (e : ReplayError) → GoesOn m start left now pending r w → Fails now after (pending ++ []) e
      → EndsWith m start.bytes left start.held after (Err e)
  stays_unwritten start left now after pending r w e k f =
      some_unwritten start.bytes left start.held now after pending r k.header w e k.going f
