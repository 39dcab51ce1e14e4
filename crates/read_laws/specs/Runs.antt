-- What the lines of a run say of reads, where observers answer rightly.
use Rattle.std.specs.Prelude.{◌≡◌, ◌<◌, ◌^◌, ℕ, List, length, true, Some, Ok, slice_get}
use Rattle.nop_types.specs.Configuration.{Configuration, is_configuration}
use Rattle.nop_types.specs.Logs.{Trimmed}
use Rattle.nop_types.specs.Meaning.{Meaning}
use Rattle.nop_types.specs.Reads.{ReadIsRight, ReadsAreRight}
use Rattle.nop_types.specs.Services.{get_of}
use Rattle.nop_types.specs.declared.request.Entry.{Entry}
use Rattle.schedule_text.specs.declared.event.Event.{Event}
use Rattle.schedule_text.specs.Fits.{EventsFit}
use Rattle.observer.specs.ObserverSteps.{Observer}
use Rattle.observer.specs.Observing.{position, answer}
use Rattle.world.specs.Seats.{Seated}
use Rattle.world.specs.WorldSteps.{WorldState, Happened, run}
use Rattle.read_laws.specs.Received.{Received, bytes_of}

module _ {S : Type 0} (m : Meaning S) where
  -- each observer is one to which only came what was sent by then, or spells no datagram
  abbrev pub ObserversReceived : Configuration → WorldState → Type 0
  ObserversReceived config w = (i : ℕ) (p : Seated Observer) → slice_get w.observers i ≡ Some p → Received m config (bytes_of w.sent) i p.state

  -- what such an observer reads is that of the first slots of this log, which has fewer than 2^32 of them
  pub record ObserversReadRight (config : Configuration) (w : WorldState) (main : List Entry) : Type 0 where
    pub few : length main < 2 ^ 32
    pub right : (number : ℕ) (s : Observer) → Received m config (bytes_of w.sent) number s → (key : List ℕ)
        → ReadIsRight m main (position s.heard.state) key (answer m Trimmed s.heard.state (get_of key))

  -- for every list of events that are not refused
  abbrev pub RunsReceive : Type 0
  RunsReceive = (config : Configuration) (es : List Event) (h : Happened) → is_configuration config ≡ true → EventsFit es
      → run m config es ≡ Ok h → ObserversReceived config h.world

  -- whatever was lost, repeated and reordered: where observers read right of a log, the lines do
  abbrev pub RunsReadRight : Type 0
  RunsReadRight = (config : Configuration) (es : List Event) (h : Happened) (main : List Entry) → is_configuration config ≡ true
      → EventsFit es → run m config es ≡ Ok h → ObserversReadRight config h.world main → ReadsAreRight m h.lines main
