-- The printed schedule of a run is read as that run.
use Rattle.std.proofs.Common.{◌≡◌, ◌∙◌, ℕ, ◌+◌, ◌<◌, ◌≤◌, true, None, Result, Ok, Err, refl, ap, subst, arith, List, [], ◌∷◌, ◌++◌}
use Rattle.std.proofs.Common.{length, map}
use Rattle.std.proofs.lemmas.List.{length-map}
use Rattle.std.specs.List.{flat_map}
use Rattle.nop_types.specs.Configuration.{Configuration, is_configuration}
use Rattle.nop_types.specs.Headers.{is_header}
use Rattle.nop_types.specs.Lines.{Line}
use Rattle.nop_types.specs.Meaning.{Meaning}
use Rattle.nop_types.specs.declared.header.Header.{Header}
use Rattle.nop_types.specs.declared.limits.TheConstants.{MAX_LINES}
use Rattle.schedule_text.specs.Cutting.{lines_of}
use Rattle.schedule_text.specs.EventText.{IsEventOf, event_text}
use Rattle.schedule_text.specs.Rules.{event_of, header_of}
use Rattle.schedule_text.specs.declared.event.Event.{Event}
use Rattle.transcript_rows.proofs.RowTexts.{counted}
use Rattle.transcript_text.specs.Transcript.{transcript_line, lines_text}
use Rattle.world.specs.Ending.{final_text}
use Rattle.world.specs.Refusals.{HasActors}
use Rattle.world.specs.WorldSteps.{WorldState, Happened, Refusal, go_on, opening, run, run_from, step}
use Rattle.world.proofs.Refusals.{opening_has_actors, step_has_actors}
use Rattle.replay.specs.Output.{Schedule, begun, event_first, output, output_of_lines, schedule_from, then_text, text_after, written}
use Rattle.printed_runs.specs.Printing.{IsReadAs, LineMeans, LinesMean, PrintsAgain, event_line, printed}
use Rattle.printed_runs.proofs.HeaderTexts.{first_line, first_line_whole, header_again}
use Rattle.printed_runs.proofs.Places.{config_stays, event_placed}
use Rattle.printed_runs.proofs.WholeLines.{AllWhole, header_whole, good_lines_whole, whole_lines_cut, with_line_end}

-- ---- the lines of the events

module _ {S : Type 0} (m : Meaning S) (c : Configuration) (is : is_configuration c ≡ true) where
  abbrev Reads : WorldState → ℕ → List Event → Type 0
  Reads w k es = schedule_from m c w k (map event_text es) ≡ record { events = es; bad = None }

  reads_one : (w : WorldState) (k : ℕ) (e : Event) (es : List Event) (h : Happened) → HasActors w → w.config ≡ c → step m w e ≡ Ok h
      → LineMeans e → k < MAX_LINES → Reads h.world (k + 1) es → Reads w k (e ∷ es)
  reads_one w k e es h has same happens means room rest =
      let its : IsEventOf c e = subst (λ (d : Configuration). IsEventOf d e) same (event_placed m w e h has happens) in
      let read : event_of c k (event_text e) ≡ Ok e = means c k is room its in
      rw (read, happens) (ap (event_first e) rest)

  reads : (es : List Event) (lines : List Line) (w : WorldState) (k : ℕ) (h : Happened) → HasActors w → w.config ≡ c
      → run_from m lines w es ≡ Ok h → LinesMean es → k + length es ≤ MAX_LINES → Reads w k es
  reads [] lines w k h has same ran mean room = refl
  reads (e ∷ es) lines w k h has same ran mean room =
      on (step m w e) refl ran (λ more v there stays after. reads es more v (k + 1) h there stays after mean.1 (omega (arith, room)))
    where
      on : (r : Result Happened Refusal) → step m w e ≡ r → go_on m lines r (λ more v. run_from m more v es) ≡ Ok h
          → ((more : List Line) (v : WorldState) → HasActors v → v.config ≡ c → run_from m more v es ≡ Ok h → Reads v (k + 1) es)
          → Reads w k (e ∷ es)
      on (Err refusal) eq later rest = absurd cc
      on (Ok next) eq later rest =
          reads_one w k e es next has same eq mean.0 (omega (arith, room))
          (rest (lines ++ next.lines) next.world (step_has_actors m w e next has eq) (config_stays m w e next eq ∙ same) later)

pub events_again : {S : Type 0} (m : Meaning S) (c : Configuration) (es : List Event) (h : Happened) → is_configuration c ≡ true
    → run m c es ≡ Ok h → LinesMean es → 1 + length es ≤ MAX_LINES
    → schedule_from m c (opening c) 1 (map event_text es) ≡ record { events = es; bad = None }
events_again m c es h is ran mean room = reads m c is es [] (opening c) 1 h (opening_has_actors c) refl ran mean room

-- ---- the whole text

event_lines : (es : List Event) → flat_map event_line es ≡ flat_map with_line_end (map event_text es)
event_lines [] = refl
event_lines (e ∷ es) = ap (λ (xs : List ℕ). event_line e ++ xs) (event_lines es)

module _ {S : Type 0} (m : Meaning S) (d : Header) (fits : is_header d ≡ true) (es : List Event) (h : Happened)
    (ran : run m d.config es ≡ Ok h) (mean : LinesMean es) (room : 1 + length es ≤ MAX_LINES) where
  abbrev lines : List (List ℕ)
  lines = map event_text es

  abbrev text : List ℕ
  text = printed d.form d.config es

  read : header_of (first_line d) ≡ Ok d
  read = header_again d fits

  events : schedule_from m d.config (opening d.config) 1 lines ≡ record { events = es; bad = None }
  events = events_again m d.config es h (counted d fits) ran mean room

  all_whole : AllWhole (first_line d ∷ lines)
  all_whole = (
    header_whole (first_line d) d read,
    good_lines_whole m d.config lines (opening d.config) 1 (ap (λ (s : Schedule). s.bad) events),
  )

  split : text ≡ flat_map with_line_end (first_line d ∷ lines)
  unfolding printed
  split =
      ap (λ (xs : List ℕ). xs ++ flat_map event_line es) (first_line_whole d fits)
      ∙ ap (λ (xs : List ℕ). with_line_end (first_line d) ++ xs) (event_lines es)

  cut : lines_of true 0 text ≡ first_line d ∷ lines
  cut =
      ap (lines_of true 0) split
      ∙ whole_lines_cut (first_line d ∷ lines) all_whole (omega (arith, room, length-map es event_text))

  written_again : output m true text
      ≡ record { text = transcript_line d.form d.config ++ (lines_text h.lines ++ final_text h.world); bad = None }
  unfolding output
  written_again =
      let first : List ℕ = transcript_line d.form d.config in
      ap (output_of_lines m true) cut
      ∙ ap (begun m true lines) read
      ∙ ap (λ (s : Schedule). then_text first (written m true (opening d.config) s)) events
      ∙ ap (λ (r : Result Happened Refusal). then_text first (record { text = text_after true None r; bad = None })) ran

  pub read_again : IsReadAs m d.form d.config es h text
  read_again = record { first = first_line d; lines = cut; header = read; events = events; written = written_again }

pub prints_again : {S : Type 0} (m : Meaning S) → PrintsAgain m
prints_again m form c es h fits ran mean room = read_again m (record { form = form; config = c }) fits es h ran mean room
