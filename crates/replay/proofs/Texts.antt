-- What is written for a whole input always has a last line.
use Rattle.std.proofs.Common.{◌≢◌, ℕ, ◌+◌, List, [], ◌∷◌, ◌++◌, true, Option, Some, None, Result, Ok, Err, subst, sym, ap, ◌∙◌, ◌≡◌}
use Rattle.nop_types.specs.Configuration.{Configuration}
use Rattle.nop_types.specs.declared.header.Header.{Header}
use Rattle.nop_types.specs.Meaning.{Meaning}
use Rattle.outside.specs.Prefixes.{AppendsPrefix}
use Rattle.schedule_text.specs.declared.rule.Rule.{Rule}
use Rattle.schedule_text.specs.declared.rule.Rule.TheVariants.{WrongWord}
use Rattle.schedule_text.specs.Cutting.{lines_of}
use Rattle.schedule_text.specs.Rules.{rule_number, header_of}
use Rattle.schedule_text.specs.Reading.{Turn, Next, Gives, Refuses, Ends}
use Rattle.transcript_text.specs.Transcript.{error_line, end_line, lines_text, transcript_line}
use Rattle.network.specs.declared.lines.Lines.{Lines}
use Rattle.world.specs.declared.step_error.StepError.{StepError}
use Rattle.world.specs.declared.step_error.StepError.TheVariants as steps
use Rattle.world.specs.Actors.{Happens}
use Rattle.world.specs.SeatOutcomes as world
use Rattle.world.specs.Ending.{history_text, final_text}
use Rattle.world.specs.StateLines.{observers_text, replicas_text}
use Rattle.world.specs.WorldSteps.{WorldState, Refusal, Happened, step, opening, history}
use Rattle.replay.specs.Output.{BadLine, bad_text, refused_line, ending, text_after, schedule_from, rest, begun}
use Rattle.replay.specs.Output.{output_of_lines, output}
use Rattle.replay.specs.Progress.{after_step, after_next, after_turn}
use Rattle.replay.specs.declared.error.ReplayError.{ReplayError}
use Rattle.replay.specs.declared.error.ReplayError.TheVariants as errors
use Rattle.replay.specs.Steps.{Fails, Gathers, RefusesFor, RefusesStep, TakesEvent, bad_line}
use Rattle.replay.proofs.Prefixes.{up_to_nil, prefix_nil, some_right}
use Rattle.replay.proofs.Runs.{schedule_runs}

pub bad_text_some : (b : BadLine) → bad_text b ≢ []
unfolding error_line
bad_text_some b = λ e. absurd cc

end_line_some : end_line ≢ []
unfolding end_line
end_line_some = λ e. absurd cc

pub final_text_some : (w : WorldState) → final_text w ≢ []
unfolding final_text
final_text_some w =
    some_right (replicas_text w.archive 0 w.replicas ++ observers_text 0 w.observers ++ history_text 1 (history w)) end_line end_line_some

-- nothing of what is gathered and of an error line was written
pub refused_unwritten : (a : Option (List ℕ)) (pending : List ℕ) (b : BadLine) → AppendsPrefix a a (pending ++ bad_text b)
refused_unwritten a pending b = prefix_nil a (pending ++ bad_text b) (some_right pending (bad_text b) (bad_text_some b))

-- and of the lines at the end of the input
pub final_unwritten : (a : Option (List ℕ)) (pending : List ℕ) (w : WorldState) → AppendsPrefix a a (pending ++ final_text w)
final_unwritten a pending w = prefix_nil a (pending ++ final_text w) (some_right pending (final_text w) (final_text_some w))

-- and of an event's lines, where it happened, or of its error line
pub starved_step : (a : Option (List ℕ)) (pending : List ℕ) (line : ℕ) (r : Result Happened Refusal)
    → RefusesStep a a pending line r errors.NoMemory
starved_step a pending line (Ok h) = up_to_nil a (pending ++ lines_text h.lines)
starved_step a pending line (Err refusal) = refused_unwritten a pending (refused_line line refusal)

-- the world's error is the refusal, or memory ran out
pub refused_step : (before now : Option (List ℕ)) (pending : List ℕ) (line : ℕ) (r : Result Happened Refusal) (e : StepError)
    (same : Type 0) (x : ReplayError) → world.Refuses e r same → RefusesFor before now pending line e x
    → RefusesStep before now pending line r x
refused_step before now pending line r steps.NoSuchActor same x h f = rw h.0 f
refused_step before now pending line r (steps.NoSuchDatagram index sent) same x h f = rw h.0 f
refused_step before now pending line r steps.Forged same x h f = rw h.0 f
refused_step before now pending line r steps.NoMemory same x h f = rw (f.0, f.1) (starved_step before pending line r)

-- the event happened, and its lines were gathered
pub gathered_step : (before now : Option (List ℕ)) (old new : List ℕ) (line : ℕ) (r : Result Happened Refusal) (w : WorldState)
    (lines : Lines) (text : List ℕ) (x : Result (Unit {0}) ReplayError) → Happens r w lines → text ≡ lines.text
    → Gathers before now old new text x → TakesEvent before now old new line r w x
gathered_step before now old new line r w lines text (Ok u) h same g = record {
  lines = h.are;
  is = h.is;
  written = g.written;
  wrote = g.wrote;
  text = g.all ∙ ap (λ (t : List ℕ). old ++ t) (same ∙ h.shown.text);
}
gathered_step before now old new line r w lines text (Err e) h same g =
    rw h.is (subst (λ (t : List ℕ). Fails before now (old ++ t) e) (same ∙ h.shown.text) g)

ending_some : (w : WorldState) (bad : Option BadLine) → ending true w bad ≢ []
ending_some w (Some b) = bad_text_some b
ending_some w None = final_text_some w

module _ {S : Type 0} (m : Meaning S) where
  pub rest_some : (c : Configuration) (w : WorldState) (k : ℕ) (lines : List (List ℕ)) → (rest m true c w k lines).text ≢ []
  rest_some c w k lines =
      let s = schedule_from m c w k lines in
      let runs = schedule_runs m c lines w k in
      subst (λ (r : Result Happened Refusal). text_after true s.bad r ≢ []) (sym runs.1)
      (some_right (lines_text runs.0.lines) (ending true runs.0.world s.bad) (ending_some runs.0.world s.bad))

  after_step_some : (c : Configuration) (line : ℕ) (lines : List (List ℕ)) (r : Result Happened Refusal)
      → (after_step m true c line lines r).text ≢ []
  after_step_some c line lines (Err refusal) = bad_text_some (refused_line line refusal)
  after_step_some c line lines (Ok h) =
      some_right (lines_text h.lines) (rest m true c h.world line lines).text (rest_some c h.world line lines)

  after_next_some : (c : Configuration) (w : WorldState) (line : ℕ) (lines : List (List ℕ)) (next : Next)
      → (after_next m true c w line lines next).text ≢ []
  after_next_some c w line lines (Gives e) = after_step_some c line lines (step m w e)
  after_next_some c w line lines (Refuses rule) = bad_text_some (bad_line (line + 1) rule)
  after_next_some c w line lines Ends = final_text_some w

  pub after_turn_some : (c : Configuration) (w : WorldState) (t : Turn) → (after_turn m true c w t).text ≢ []
  after_turn_some c w t = after_next_some c w t.line t.rest t.next

  begun_some : (lines : List (List ℕ)) (r : Result Header Rule) → (begun m true lines r).text ≢ []
  begun_some lines (Err rule) = bad_text_some (bad_line 1 (rule_number rule))
  begun_some lines (Ok h) =
      some_right (transcript_line h.form h.config) (rest m true h.config (opening h.config) 1 lines).text
      (rest_some h.config (opening h.config) 1 lines)

  lines_some : (lines : List (List ℕ)) → (output_of_lines m true lines).text ≢ []
  lines_some [] = begun_some [] (Err WrongWord)
  lines_some (line ∷ lines) = begun_some lines (header_of line)

  pub output_some : (bytes : List ℕ) → (output m true bytes).text ≢ []
  unfolding output
  output_some bytes = lines_some (lines_of true 0 bytes)
