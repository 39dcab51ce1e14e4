-- A schedule without a bad line runs safely.
use Rattle.std.proofs.Common.{◌≡◌, ℕ, ◌+◌, true, Option, Some, None, refl, ap, ◌∙◌, List, [], ◌∷◌, ◌++◌}
use Rattle.std.specs.Prelude.{Result, Ok, Err, OnOk}
use Rattle.std.proofs.lemmas.Bool.{and_parts}
use Rattle.nop_types.specs.Checkpoints.{KeepsTo}
use Rattle.nop_types.specs.Configuration.{Configuration, is_configuration}
use Rattle.nop_types.specs.Headers.{gives}
use Rattle.nop_types.specs.declared.header.Header.{Header}
use Rattle.nop_types.specs.Lines.{Line}
use Rattle.nop_types.specs.Meaning.{Meaning}
use Rattle.schedule_text.specs.declared.event.Event.{Event}
use Rattle.schedule_text.specs.Cutting.{lines_of}
use Rattle.schedule_text.specs.Fits.{EventsFit}
use Rattle.schedule_text.specs.declared.rule.Rule.{Rule}
use Rattle.schedule_text.specs.Rules.{header_of, event_of}
use Rattle.transcript_text.specs.Transcript.{transcript_line}
use Rattle.schedule_text.proofs.Fitting.{events_fit, headers_fit}
use Rattle.world.specs.WorldSteps.{WorldState, Refusal, Happened, step, go_on, run_from, opening}
use Rattle.safety.proofs.Whole.{runs_are_safe}
use Rattle.replay.specs.declared.error.ReplayError.{ReplayError}
use Rattle.replay.specs.Output.{BadLine, Schedule, stepped, scheduled, schedule_from, text_after, output}
use Rattle.replay.specs.Output.{output_of_lines, begun}
use Rattle.replay.specs.Outcome.{EndsWith}
use Rattle.replay.specs.Safety.{RunsSafely, RunsSafelyOf}

-- a schedule of which no line is bad runs to its end
pub record RunsWell {S : Type 0} (m : Meaning S) (w : WorldState) (s : Schedule) : Type 0 where
  pub fit : EventsFit s.events
  pub leads : (ls : List Line) → (h : Happened) × (run_from m ls w s.events ≡ Ok h)

module _ {S : Type 0} (m : Meaning S) (c : Configuration) where
  step_well : (w : WorldState) (k : ℕ) (line : List ℕ) (e : Event) (f : WorldState → Schedule) → event_of c k line ≡ Ok e
      → ((v : WorldState) → (f v).bad ≡ None → RunsWell m v (f v))
      → (r : Result Happened Refusal) → step m w e ≡ r → (stepped k e r f).bad ≡ None → RunsWell m w (stepped k e r f)
  step_well w k line e f is rest (Err refusal) s good = absurd cc
  step_well w k line e f is rest (Ok h) s good =
      let t = rest h.world good in
      record {
        fit = (events_fit c k line e is, t.fit);
        leads = λ ls. let g = t.leads (ls ++ h.lines) in
            (g.0, ap (λ (x : Result Happened Refusal). go_on m ls x (λ more v. run_from m more v (f h.world).events)) s ∙ g.1);
      }

  line_well : (w : WorldState) (k : ℕ) (line : List ℕ) (f : WorldState → Schedule)
      → ((v : WorldState) → (f v).bad ≡ None → RunsWell m v (f v))
      → (r : Result Event Rule) → event_of c k line ≡ r → (scheduled m w k r f).bad ≡ None → RunsWell m w (scheduled m w k r f)
  line_well w k line f rest (Err rule) is good = absurd cc
  line_well w k line f rest (Ok e) is good = step_well w k line e f is rest (step m w e) refl good

  pub schedule_well : (w : WorldState) (k : ℕ) (lines : List (List ℕ)) → (schedule_from m c w k lines).bad ≡ None
      → RunsWell m w (schedule_from m c w k lines)
  schedule_well w k [] good = record { fit = tt; leads = λ ls. (record { world = w; lines = ls }, refl) }
  schedule_well w k (line ∷ lines) good =
      line_well w k line (λ v. schedule_from m c v (k + 1) lines) (λ v g. schedule_well v (k + 1) lines g) (event_of c k line) refl good

module _ {S : Type 0} (m : Meaning S) (IsSound : S → Type 0) (keeps : KeepsTo m IsSound) (bytes : List ℕ) where
  with_header : (line : List ℕ) (lines : List (List ℕ)) → lines_of true 0 bytes ≡ line ∷ lines → (r : Result Header Rule)
      → header_of line ≡ r → (begun m true lines r).bad ≡ None → RunsSafely m bytes
  unfolding output
  with_header line lines cut (Err rule) is good = absurd cc
  with_header line lines cut (Ok d) is good =
      let c = d.config in
      let s = schedule_from m c (opening c) 1 lines in
      let well = schedule_well m c (opening c) 1 lines good in
      let h = well.leads [] in
      let within = and_parts (gives d.form c) (is_configuration c) (headers_fit line d is) in
      let safely = runs_are_safe m IsSound keeps c s.events h.0 within.1 well.fit h.1 in
      record {
        header = d;
        first = line;
        rest = lines;
        cut = cut;
        read = is;
        events = s.events;
        are = λ i. record { events = s.events; bad = good i };
        happened = h.0;
        led = h.1;
        safely = safely;
        reads = safely.reads.lines;
        text =
            ap (λ (ls : List (List ℕ)). (output_of_lines m true ls).text) cut
            ∙ ap (λ (r : Result Header Rule). (begun m true lines r).text) is
            ∙ ap (λ (b : Option BadLine). transcript_line d.form c ++ text_after true b (run_from m [] (opening c) s.events)) good
            ∙ ap (λ (r : Result Happened Refusal). transcript_line d.form c ++ text_after true None r) h.1;
      }

  by_lines : (lines : List (List ℕ)) → lines_of true 0 bytes ≡ lines → (output_of_lines m true lines).bad ≡ None → RunsSafely m bytes
  by_lines [] cut good = absurd cc
  by_lines (line ∷ lines) cut good = with_header line lines cut (header_of line) refl good

  pub good_is_safe : (output m true bytes).bad ≡ None → RunsSafely m bytes
  unfolding output
  good_is_safe good = by_lines (lines_of true 0 bytes) refl good

-- a replay that is done ran safely
pub done_is_safe : {S : Type 0} (m : Meaning S) (IsSound : S → Type 0) → KeepsTo m IsSound
    → (bytes left before now : Option (List ℕ)) (r : Result (Unit {0}) ReplayError) → EndsWith m bytes left before now r
    → OnOk r (RunsSafelyOf m bytes)
done_is_safe m IsSound keeps None left before now (Ok x) ends = tt
done_is_safe m IsSound keeps (Some bytes) None before now (Ok x) ends = absurd ends
done_is_safe m IsSound keeps (Some bytes) (Some left) before now (Ok x) ends = good_is_safe m IsSound keeps bytes ends.good
done_is_safe m IsSound keeps bytes left before now (Err e) ends = tt

-- of one that ended with an error nothing is said
pub failed_is_safe : {S : Type 0} (m : Meaning S) (bytes : Option (List ℕ)) (r : Result (Unit {0}) ReplayError) (e : ReplayError)
    → r ≡ Err e → OnOk r (RunsSafelyOf m bytes)
failed_is_safe m bytes r e is = rw is tt
