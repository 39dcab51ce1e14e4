-- How far a schedule has been drawn.
use Rattle.std.specs.Prelude.{◌≡◌, ℕ, ◌≤◌, List, ◌++◌, length, Result, Ok, count_by}
use Rattle.rand_pcg.specs.Lcg.{Lcg}
use Rattle.nop_types.specs.Lines.{Line}
use Rattle.nop_types.specs.Meaning.{Meaning}
use Rattle.schedule_text.specs.declared.event.Event.{Event}
use Rattle.std.specs.List.{AllByRecursion}
use Rattle.schedule_text.specs.EventText.{HasLine, IsEventOf}
use Rattle.schedule_text.specs.Fits.{EventsFit}
use Rattle.network.specs.LineCounts.{Shows, is_send, is_accept}
use Rattle.network.specs.declared.lines.Lines.{Lines}
use Rattle.world.specs.WorldSteps.{WorldState, Refusal, Happened, opening, step, run}
use Rattle.replay.specs.Drawing.{event_drawn}
use Rattle.replay.specs.Generated.{drawn_config, first_event, drawn_from, drawn_events, RunsFrom}

-- the event is not refused
abbrev pub IsTaken : Result Happened Refusal → Type 0
IsTaken r = (h : Happened) × (r ≡ Ok h)

module _ {S : Type 0} (m : Meaning S) where
  -- the events led to this world with these lines; each of them is in its ranges and of the configuration, and has a line
  pub record Led (es : List Event) (w : WorldState) (lines : List Line) : Type 0 where
    pub is : run m drawn_config es ≡ Ok (record { world = w; lines = lines })
    pub fit : EventsFit es
    pub of : AllByRecursion (IsEventOf drawn_config) es
    pub spelled : AllByRecursion HasLine es

  -- some events led to this world, and something was sent
  pub record MayDraw (w : WorldState) : Type 0 where
    pub events : List Event
    pub lines : List Line
    pub led : Led events w lines
    pub some : 1 ≤ length w.sent

  -- the event is drawn, and leads to the new world with these lines
  pub record Draws (old : WorldState) (g : Lcg) (e : Event) (new : WorldState) (h : Lcg) (lines : List Line) : Type 0 where
    pub event : event_drawn old.sent g ≡ (e, h)
    pub happened : step m old e ≡ Ok (record { world = new; lines = lines })

  -- the same with the lines as they are written
  pub record DrawsShown (old : WorldState) (g : Lcg) (e : Event) (new : WorldState) (h : Lcg) (lines : Lines) : Type 0 where
    pub are : List Line
    pub draws : Draws old g e new h are
    pub shown : Shows lines are

  -- the first event led to the world
  pub record BeginsShown (e : Event) (new : WorldState) (lines : Lines) : Type 0 where
    pub are : List Line
    pub event : e ≡ first_event
    pub happened : step m (opening drawn_config) first_event ≡ Ok (record { world = new; lines = are })
    pub shown : Shows lines are

  -- the events were drawn from the number and led here; the others are drawn from here
  pub record DrawnTo (number count left : ℕ) (es : List Event) (w : WorldState) (g : Lcg) (lines : List Line) : Type 0 where
    pub led : Led es w lines
    pub some : 1 ≤ length w.sent
    pub rest : drawn_events m number count ≡ es ++ drawn_from m left w g

  -- so far, whatever the lines were
  pub record KeepsTo (number count left : ℕ) (es : List Event) (w : WorldState) (g : Lcg) : Type 0 where
    pub lines : List Line
    pub to : DrawnTo number count left es w g lines

  -- so far, whatever the events were, with the counts of the lines
  pub record CountsTo (number count left : ℕ) (w : WorldState) (g : Lcg) (sends accepts : ℕ) : Type 0 where
    pub events : List Event
    pub lines : List Line
    pub to : DrawnTo number count left events w g lines
    pub sends_are : sends ≡ count_by is_send lines
    pub accepts_are : accepts ≡ count_by is_accept lines

  -- all events led to this world, with these counts of their lines
  pub record LedAll (number count : ℕ) (w : WorldState) (sends accepts : ℕ) : Type 0 where
    pub lines : List Line
    pub is : run m drawn_config (drawn_events m number count) ≡ Ok (record { world = w; lines = lines })
    pub sends_are : sends ≡ count_by is_send lines
    pub accepts_are : accepts ≡ count_by is_accept lines

  -- these are all of them, and none is refused
  pub record KeepsAll (number count : ℕ) (es : List Event) : Type 0 where
    pub are : es ≡ drawn_events m number count
    pub runs : RunsFrom m drawn_config es
