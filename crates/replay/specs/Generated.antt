-- The schedule that is drawn from a number, and its summary.
use Rattle.std.specs.Prelude.{◌≡◌, ℕ, zero, suc, List, [], ◌∷◌, ◌++◌, length, Bool, true, false, Option, Result, Ok, Err, codes, decimal}
use Rattle.std.specs.Prelude.{count_by}
use Rattle.std.specs.List.{AllByRecursion}
use Rattle.std.specs.Io.KnownBytes.{Appends}
use Rattle.rand_pcg.specs.Lcg.{Lcg}
use Rattle.outside.specs.Prefixes.{AppendsPrefix}
use Rattle.nop_types.specs.Configuration.{Configuration}
use Rattle.nop_types.specs.Meaning.{Meaning}
use Rattle.nop_types.specs.declared.request.Entry.{Entry}
use Rattle.nop_types.specs.declared.request.Entry.TheVariants.{NoOp, Req}
use Rattle.schedule_text.specs.declared.event.Event.{Event}
use Rattle.schedule_text.specs.declared.event.Event.TheVariants.{Submit}
use Rattle.nop_types.specs.declared.view.View.{View}
use Rattle.schedule_text.specs.EventText.{HasLine, IsEventOf}
use Rattle.schedule_text.specs.Fits.{EventsFit}
use Rattle.transcript_text.specs.Transcript.{line_end}
use Rattle.network.specs.LineCounts.{is_send, is_accept}
use Rattle.world.specs.WorldSteps.{WorldState, Refusal, Happened, opening, step, run, main_view, main_log, history}
use Rattle.replay.specs.declared.error.GenError.{GenError}
use Rattle.replay.specs.declared.error.GenError.TheVariants.{WriteFault, NoMemory}
use Rattle.replay.specs.Drawing.{generator_of, event_drawn, get_of}

-- ---- the events

-- five replicas, two sequencers, four clients, one controller and no observers
abbrev pub drawn_config : Configuration
drawn_config = record { replicas = 5; sequencers = 2; clients = 4; controllers = 1; observers = 0 }

-- client 0 gets the key `a`
abbrev pub first_event : Event
first_event = Submit 0 (get_of 97)

-- the world after an event; a refused one changes nothing
abbrev pub world_after : WorldState → Result Happened Refusal → WorldState
world_after w (Err refusal) = w
world_after w (Ok h) = h.world

module _ {S : Type 0} (m : Meaning S) where
  -- the world after the event that is drawn in this one
  abbrev pub next_world : WorldState → Lcg → WorldState
  next_world w g = world_after w (step m w (event_drawn w.sent g).0)

  -- a number of events, each drawn in the world after those before it
  abbrev pub drawn_from : ℕ → WorldState → Lcg → List Event
  drawn_from zero w g = []
  drawn_from (suc n) w g = (event_drawn w.sent g).0 ∷ drawn_from n (next_world w g) (event_drawn w.sent g).1

  -- the world after the first event
  abbrev pub first_world : WorldState
  first_world = world_after (opening drawn_config) (step m (opening drawn_config) first_event)

  -- the events that are drawn from a number, by their count; the first is the same for each number
  unfoldable pub drawn_events : ℕ → ℕ → List Event
  drawn_events number zero = []
  drawn_events number (suc n) = first_event ∷ drawn_from n first_world (generator_of number)

-- each of them is in its ranges and of the configuration, and a schedule has a line for it; and none is refused
pub record RunsFrom {S : Type 0} (m : Meaning S) (c : Configuration) (es : List Event) : Type 0 where
  pub fit : EventsFit es
  pub of : AllByRecursion (IsEventOf c) es
  pub spelled : AllByRecursion HasLine es
  pub happened : Happened
  pub led : run m c es ≡ Ok happened

-- ---- the summary

abbrev pub is_noop : Entry → Bool
is_noop NoOp = true
is_noop (Req r) = false

-- a word and a number
abbrev pub text_and_number : List ℕ → ℕ → List ℕ
text_and_number text n = text ++ decimal n

unfoldable pub gen_line : ℕ → ℕ → List ℕ
gen_line number count = text_and_number (codes "gen ") number ++ text_and_number (codes " ") count ++ line_end

unfoldable pub sends_line : ℕ → ℕ → List ℕ
sends_line sends accepts = text_and_number (codes "sends ") sends ++ text_and_number (codes " accepts ") accepts ++ line_end

unfoldable pub view_line : View → ℕ → ℕ → List ℕ
view_line v len noops =
    text_and_number (codes "view ") v.leader ++ text_and_number (codes " ") v.session ++ text_and_number (codes " length ") len ++ text_and_number (codes " noops ") noops
    ++ line_end

unfoldable pub members_line : ℕ → List ℕ
members_line members = text_and_number (codes "history ") members ++ line_end

-- how much was sent and accepted; the main view, and how long its log is; and how many members the history has
unfoldable pub tally_text : ℕ → ℕ → WorldState → ℕ → ℕ → List ℕ
tally_text number count w sends accepts =
    gen_line number count ++ sends_line sends accepts
    ++ view_line (main_view w) (length (main_log w)) (count_by is_noop (main_log w))
    ++ members_line (length (history w))

-- the same of a run
abbrev pub summary : ℕ → ℕ → Happened → List ℕ
summary number count h = tally_text number count h.world (count_by is_send h.lines) (count_by is_accept h.lines)

-- no run of events that are drawn is refused
abbrev pub summary_of : ℕ → ℕ → Result Happened Refusal → List ℕ
summary_of number count (Err refusal) = gen_line number count
summary_of number count (Ok h) = summary number count h

-- the summary of the run of the events
abbrev pub drawn_summary : {S : Type 0} → Meaning S → ℕ → ℕ → List ℕ
drawn_summary m number count = summary_of number count (run m drawn_config (drawn_events m number count))

-- ---- how the command ends

-- the text was written, or a front of it that is not all
abbrev pub WritesText : Option (List ℕ) → Option (List ℕ) → List ℕ → Result (Unit {0}) GenError → Type 0
WritesText before now text (Ok x) = Appends before now text
WritesText before now text (Err WriteFault) = AppendsPrefix before now text
WritesText before now text (Err NoMemory) = AppendsPrefix before now text
