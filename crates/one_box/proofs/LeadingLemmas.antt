-- The events that are kept lead to the world.
use Rattle.std.proofs.Common.{◌≡◌, ℕ, ◌+◌, List, [], ◌∷◌, ◌++◌, Bool, true, false, Option, Some, None, Result, Ok, Err, OnOk}
use Rattle.std.proofs.Common.{refl, sym, ap, subst, ◌∙◌, arith, inl}
use Rattle.std.specs.Prelude.{count_by, slice_get}
use Rattle.std.specs.List.{All}
use Rattle.std.proofs.lemmas.Grind.{common_steps, flat_map-append}
use Rattle.std.proofs.lemmas.List.Elements.{All-append}
use Rattle.nop_types.specs.Configuration.{Configuration}
use Rattle.nop_types.specs.Given.{Given}
use Rattle.nop_types.specs.Lines.{Line}
use Rattle.nop_types.specs.Meaning.{Meaning}
use Rattle.nop_types.specs.declared.memory.NoMemory.{NoMemory}
use Rattle.nop_types.specs.declared.input.Tick.{Tick}
use Rattle.nop_types.specs.declared.input.Tick.TheVariants as ticks
use Rattle.nop_types.specs.declared.output.Actor.{Actor}
use Rattle.nop_types.specs.declared.output.Actor.TheVariants as actors
use Rattle.nop_types.specs.declared.output.Out.{Out}
use Rattle.schedule_text.specs.declared.event.Event.{Event}
use Rattle.schedule_text.specs.declared.event.Event.TheVariants as events
use Rattle.schedule_text.specs.EventText.{HasLine, HasWord}
use Rattle.schedule_text.specs.Fits.{EventFits, EventsFit}
use Rattle.schedule_text.specs.Ticks.{takes_tick}
use Rattle.transcript_text.specs.Transcript.{line_text, lines_text}
use Rattle.world.specs.Actors as world
use Rattle.network.specs.declared.lines.Lines.{Lines}
use Rattle.network.specs.LineCounts.{is_accept}
use Rattle.world.specs.Others.{seats, Who, AReplica, Another, AnObserver, who}
use Rattle.world.specs.Seats.{Seated}
use Rattle.network.specs.Network.{Did}
use Rattle.world.specs.WorldSteps.{WorldState, Refusal, Happened, step, step_at, step_of, then_at, tick_if, stimulus_of, go_on, run_from}
use Rattle.one_box.specs.ClusterRun.{Course, kept}
use Rattle.one_box.specs.Showing.{IsLedTo, IsNoJunk, Steps, GoesOn}

fit_push : (es : List Event) (e : Event) → EventsFit es → EventFits e → EventsFit (es ++ e ∷ [])
fit_push [] e fit one = (one, tt)
fit_push (x ∷ es) e fit one = (fit.0, fit_push es e fit.1 one)

-- ---- a run with one more event

module _ {S : Type 0} (m : Meaning S) (e : Event) (h k : Happened) (next : step m h.world e ≡ Ok k) where
  abbrev after : Result Happened Refusal
  after = Ok (record { world = k.world; lines = h.lines ++ k.lines })

  last : (lines : List Line) (w : WorldState) → run_from m lines w [] ≡ Ok h → run_from m lines w (e ∷ []) ≡ after
  last lines w is =
      let here : record { world = w; lines = lines } ≡ h = cc in
      let world : w ≡ h.world = ap (λ (x : Happened). x.world) here in
      let said : lines ≡ h.lines = ap (λ (x : Happened). x.lines) here in
      let goes : step m w e ≡ Ok k = ap (λ (v : WorldState). step m v e) world ∙ next in
      ap (λ (r : Result Happened Refusal). go_on m lines r (λ more v. run_from m more v [])) goes
      ∙ ap (λ (ls : List Line). Ok (record { world = k.world; lines = ls ++ k.lines })) said

  on : (es : List Event) (lines : List Line) (r : Result Happened Refusal)
      → ((ls : List Line) (w : WorldState) → run_from m ls w es ≡ Ok h → run_from m ls w (es ++ e ∷ []) ≡ after)
      → go_on m lines r (λ more v. run_from m more v es) ≡ Ok h → go_on m lines r (λ more v. run_from m more v (es ++ e ∷ [])) ≡ after
  on es lines (Ok j) rec is = rec (lines ++ j.lines) j.world is
  on es lines (Err refusal) rec is = absurd cc

  run_push : (es : List Event) (lines : List Line) (w : WorldState) → run_from m lines w es ≡ Ok h
      → run_from m lines w (es ++ e ∷ []) ≡ after
  run_push [] lines w is = last lines w is
  run_push (x ∷ es) lines w is = on es lines (step m w x) (λ ls v. run_push es ls v) is

-- ---- an event that happens has a line

at_refusal : {S : Type 0} (next : S → Given → S × List Out) (f : Seated S × Did → Happened) (o : Option (Seated S)) (r : Refusal)
    (h : Happened) → then_at f (step_at next o (Err r)) ≡ Ok h → ⊥
at_refusal next f None r h is = cc
at_refusal next f (Some p) r h is = cc

of_refusal : {S : Type 0} (m : Meaning S) (w : WorldState) (x : Who) (r : Refusal) (h : Happened) → step_of m w x (Err r) ≡ Ok h → ⊥
of_refusal m w (AReplica i) r h is = at_refusal _ _ (slice_get w.replicas i) r h is
of_refusal m w (Another k i) r h is = at_refusal _ _ (slice_get (seats k w.others) i) r h is
of_refusal m w (AnObserver i) r h is = at_refusal _ _ (slice_get w.observers i) r h is

tick_taken : {S : Type 0} (m : Meaning S) (w : WorldState) (x : Who) (tick : Tick) (h : Happened) (b : Bool)
    → step_of m w x (tick_if b tick) ≡ Ok h → b ≡ true
tick_taken m w x tick h true is = refl
tick_taken m w x tick h false is = absurd (of_refusal m w x _ h is)

word_of : (a : Actor) (tick : Tick) → takes_tick a tick ≡ true → HasWord tick
word_of (actors.Replica i) ticks.Next is = absurd cc
word_of _ ticks.Next is = absurd cc
word_of (actors.Replica i) (ticks.Install j) is = absurd cc
word_of _ (ticks.Install j) is = absurd cc
word_of _ _ is = tt

happened_line : {S : Type 0} (m : Meaning S) (w : WorldState) (e : Event) (h : Happened) → IsNoJunk e → step m w e ≡ Ok h → HasLine e
unfolding step stimulus_of
happened_line m w (events.Tick a tick) h free is = word_of a tick (tick_taken m w (who a) tick h (takes_tick a tick) is)
happened_line m w (events.Junk a bytes) h free is = absurd free
happened_line m w _ h free is = tt

-- ---- one more event

one_line : (e : Event) → HasLine e → All HasLine (e ∷ [])
one_line e has = grind (arith, common_steps, has)

count_append : (p : Line → Bool) (xs ys : List Line) → count_by p (xs ++ ys) ≡ count_by p xs + count_by p ys
count_append p xs ys = grind (arith, common_steps)

led_push : {S : Type 0} (m : Meaning S) (config : Configuration) (c : Course) (e : Event) (h : Happened) → step m c.world e ≡ Ok h
    → EventFits e → IsNoJunk e → IsLedTo m config c → IsLedTo m config (kept c e h)
led_push m config c e h next fits free before = record {
  lines = before.lines ++ h.lines;
  is = run_push m e (record { world = c.world; lines = before.lines }) h next c.events [] _ before.is;
  fit = fit_push c.events e before.fit fits;
  spelled = All-append HasLine c.events (e ∷ []) before.spelled (one_line e (happened_line m c.world e h free next));
  text = ap (λ (t : List ℕ). t ++ lines_text h.lines) before.text ∙ sym (flat_map-append line_text before.lines h.lines);
  accepts = ap (λ (n : ℕ). n + count_by is_accept h.lines) before.accepts ∙ sym (count_append is_accept before.lines h.lines);
}

-- what is kept of an event and the text of its lines
abbrev pub kept_as : Course → Event → WorldState → List ℕ → ℕ → Course
kept_as c e new text accepts = record {
  world = new;
  events = c.events ++ e ∷ [];
  text = c.text ++ text;
  accepts = c.accepts + accepts;
  stray = c.stray;
}

-- the lines that the world showed are kept with the event
module _ {S : Type 0} (m : Meaning S) (c d : Course) (e : Event) (new : WorldState) (lines : Lines)
    (h : world.Happens (step m c.world e) new lines) where
  keeps : d ≡ kept_as c e new lines.text lines.accepts → d ≡ kept c e (record { world = new; lines = h.are })
  keeps is =
      is ∙ ap (λ (t : List ℕ). kept_as c e new t lines.accepts) h.shown.text
      ∙ ap (λ (k : ℕ). kept_as c e new (lines_text h.are) k) h.shown.accepts

  pub kept_steps : (r : Result (Unit {0}) NoMemory) → OnOk r (d ≡ kept_as c e new lines.text lines.accepts) → OnOk r (Steps m e c d)
  kept_steps (Ok t) is = inl (record { happened = record { world = new; lines = h.are }; is = h.is; keeps = keeps is })
  kept_steps (Err x) is = tt

  pub kept_goes : (r : Result (Unit {0}) NoMemory) → OnOk r (d ≡ kept_as c e new lines.text lines.accepts) → EventFits e → IsNoJunk e
      → OnOk r (GoesOn m c d)
  kept_goes (Ok t) is fits free =
      λ config led.
      subst (IsLedTo m config) (sym (keeps is))
      (led_push m config c e (record { world = new; lines = h.are }) h.is fits free led)
  kept_goes (Err x) is fits free = tt

pub goes_through : {S : Type 0} (m : Meaning S) (a b c : Course) → GoesOn m a b → GoesOn m b c → GoesOn m a c
goes_through m a b c one two config led = two config (one config led)
