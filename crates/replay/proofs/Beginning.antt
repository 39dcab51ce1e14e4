-- The first line of a replay.
use Rattle.std.proofs.Common.{◌≤◌, ◌<◌, arith}
use Rattle.std.proofs.Common.{◌≡◌, ℕ, ◌+◌, List, [], ◌∷◌, ◌++◌, Bool, true, false, Option, Some, None, Result, Ok, Err, refl, sym, ap, ◌∙◌}
use Rattle.std.proofs.KnownBytes.{Appends-nil}
use Rattle.nop_types.specs.declared.header.Header.{Header}
use Rattle.nop_types.specs.Meaning.{Meaning}
use Rattle.schedule_text.specs.declared.event.Event.{Event}
use Rattle.schedule_text.specs.declared.next_error.NextError.{NextError}
use Rattle.schedule_text.specs.declared.next_error.NextError.TheVariants as nexts
use Rattle.schedule_text.specs.Cutting.{lines_of}
use Rattle.schedule_text.specs.declared.rule.Rule.{Rule}
use Rattle.schedule_text.specs.Rules.{header_of}
use Rattle.schedule_text.specs.Reading.{Reading, Next, Gives, Refuses, Ends, Turn, Takes, TakesOf, LeavesNone, turn, turn_of, header_turn}
use Rattle.schedule_text.specs.Reading.{lines_before, opening}
use Rattle.transcript_text.specs.Transcript.{transcript_line}
use Rattle.world.specs.WorldSteps as world
use Rattle.replay.specs.declared.error.ReplayError.{ReplayError}
use Rattle.replay.specs.Output.{Output, then_text, begun, output_of_lines, output}
use Rattle.replay.specs.Outcome.{EndsWith}
use Rattle.replay.specs.Progress.{Progress, GoingOf, refused}
use Rattle.replay.specs.Steps.{Stops, bad_line}
use Rattle.replay.proofs.Texts.{output_some}
use Rattle.replay.proofs.Runs.{begun_with, begun_is, rest_is, turn_header}
use Rattle.replay.proofs.Progressing.{refuses_with, interrupts_with, fails_with, unknown_ends, none_follow, turn_keeps}

pub counts_from_one : (n : ℕ) → 0 < n → 1 ≤ n
counts_from_one n some = omega arith

-- what was written behind nothing
pub text_first : (old new text : List ℕ) → old ≡ [] → new ≡ old ++ text → new ≡ text
text_first old new text none is = is ∙ ap (λ (t : List ℕ). t ++ text) none

module _ {S : Type 0} (m : Meaning S) where
  pub output_lines : (ended : Bool) (bytes : List ℕ) → output m ended bytes ≡ output_of_lines m ended (lines_of ended 0 bytes)
  unfolding output
  output_lines ended bytes = refl

  -- line 1 was taken
  pub opened : (bytes left before : Option (List ℕ)) (r : Reading) (h : Header) → TakesOf opening r bytes left (Err nexts.NoMemory)
      → r.header ≡ Some h
      → GoingOf m bytes left before before (transcript_line h.form h.config) r h (world.opening h.config)
  opened None left before r h took is = tt
  opened (Some bytes) None before r h took is = absurd took
  opened (Some bytes) (Some left) before r h took is =
      let taken = took.0 in
      let k = took.2 in
      record {
        header = is;
        progress = record {
          taken = taken;
          split = took.1;
          end = k.end refl;
          written = [];
          wrote = Appends-nil before;
          goes = λ ended more may.
              let lines = lines_of ended 0 (taken ++ more) in
              let same : turn None 0 lines ≡ turn_of r ended more = k.turn ended more may in
              let turned : (turn None 0 lines).header ≡ Some h = ap (λ (t : Turn). t.header) same ∙ turn_keeps m r h ended more is in
              output_lines ended (taken ++ more)
              ∙ begun_is m ended h lines turned
              ∙ ap (begun_with m ended h) same
              ∙ ap (λ (o : Option Header). begun_with m ended h (turn o r.line (lines_before r ended more))) is
              ∙ ap (then_text (transcript_line h.form h.config))
              (sym (rest_is m ended h (world.opening h.config) r.line (lines_before r ended more)));
        };
      }

  -- ---- line 1 was not taken

  abbrev pub refused_turn : ℕ → Next → Output
  refused_turn line (Gives e) = record { text = []; bad = None }
  refused_turn line (Refuses rule) = refused (bad_line (line + 1) rule)
  refused_turn line Ends = record { text = []; bad = None }

  not_begun_line : (line : List ℕ) (lines : List (List ℕ)) (q : Result Header Rule) → (header_turn 0 line lines q).header ≡ None
      → begun m true lines q ≡ refused_turn (header_turn 0 line lines q).line (header_turn 0 line lines q).next
  not_begun_line line lines (Err rule) is = refl
  not_begun_line line lines (Ok h) is = absurd (cc (is, turn_header h 1 lines))

  pub not_begun : (lines : List (List ℕ)) → (turn None 0 lines).header ≡ None
      → output_of_lines m true lines ≡ refused_turn (turn None 0 lines).line (turn None 0 lines).next
  not_begun [] is = refl
  not_begun (line ∷ lines) is = not_begun_line line lines (header_of line) is

  undecided_line : (line : List ℕ) (lines : List (List ℕ)) (q : Result Header Rule) → (header_turn 0 line lines q).header ≡ None
      → (header_turn 0 line lines q).rest ≡ []
      → begun m false lines q ≡ record { text = []; bad = None }
  undecided_line line lines (Err rule) is none = absurd cc
  undecided_line line lines (Ok h) is none = absurd (cc (is, turn_header h 1 lines))

  pub undecided : (lines : List (List ℕ)) → (turn None 0 lines).header ≡ None → (turn None 0 lines).rest ≡ []
      → output_of_lines m false lines ≡ record { text = []; bad = None }
  undecided [] is none = refl
  undecided (line ∷ lines) is none = undecided_line line lines (header_of line) is none

  -- what was taken says only what the output is
  pub unopened_progress : (bytes left taken : List ℕ) (before : Option (List ℕ)) (r : Reading) (answer : Result (Option Event) NextError)
      → bytes ≡ taken ++ left → Takes opening r taken left answer
      → Progress m bytes left before before [] r (λ ended more. output m ended (taken ++ more))
  unopened_progress bytes left taken before r answer split k =
      record { taken = taken; split = split; end = k.end refl; written = []; wrote = Appends-nil before; goes = λ ended more may. refl }

  pub unopened : (bytes left before after : Option (List ℕ)) (r : Reading) (e : NextError) (x : ReplayError)
      → TakesOf opening r bytes left (Err e) → r.header ≡ None → LeavesNone r (Err e)
      → Stops before after [] e x → EndsWith m bytes left before after (Err x)
  unopened None left before after r e x took is none f = unknown_ends m left before after (Err x)
  unopened (Some bytes) None before after r e x took is none f = absurd took
  unopened (Some bytes) (Some left) before after r (nexts.BadLine line rule) x took is none f =
      let taken = took.0 in
      let k = took.2 in
      let p = unopened_progress bytes left taken before r (Err (nexts.BadLine line rule)) took.1 k in
      refuses_with m bytes left before before after [] r (λ ended more. output m ended (taken ++ more)) (bad_line line rule) x p
      (λ more nothing.
      let lines = lines_of true 0 (taken ++ more) in
      let turned = k.turn true more (record { nothing = nothing; end = λ e. refl }) in
      let unread : (turn None 0 lines).header ≡ None = ap (λ (t : Turn). t.header) turned.0 ∙ is in
      output_lines true (taken ++ more)
      ∙ not_begun lines unread
      ∙ ap (λ (t : Turn). refused_turn t.line t.next) turned.0
      ∙ ap (λ (l : ℕ). refused (bad_line l rule)) (sym turned.1))
      p.end f
  unopened (Some bytes) (Some left) before after r nexts.ReadFault x took is none f =
      let taken = took.0 in
      let k = took.2 in
      let p = unopened_progress bytes left taken before r (Err nexts.ReadFault) took.1 k in
      let lines = lines_of false 0 (taken ++ []) in
      let turned : turn None 0 lines ≡ turn None r.line [] =
      k.turn false [] (none_follow m r none.0)
      ∙ ap (λ (o : Option Header). turn o r.line (lines_before r false [])) is ∙ ap (turn None r.line) none.1 in
      interrupts_with m bytes left before before after [] r (λ ended more. output m ended (taken ++ more)) x p none.0
      (output_lines false (taken ++ []) ∙ undecided lines (ap (λ (t : Turn). t.header) turned) (ap (λ (t : Turn). t.rest) turned))
      f
  unopened (Some bytes) (Some left) before after r nexts.NoMemory x took is none f =
      let taken = took.0 in
      let p = unopened_progress bytes left taken before r (Err nexts.NoMemory) took.1 took.2 in
      fails_with m bytes left before before after [] r
      (λ ended more. output m ended (taken ++ more)) [] (output m true (taken ++ left)).text x p refl (output_some m (taken ++ left)) f
