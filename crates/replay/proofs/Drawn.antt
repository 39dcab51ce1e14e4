-- The events that are drawn, one after the other.
use Rattle.std.proofs.Common.{◌≡◌, ◌≤◌, ◌+◌, ◌-◌, ℕ, zero, suc, refl, sym, ap, subst, ◌∙◌, arith, length, length-append, append_assoc}
use Rattle.std.proofs.Common.{List, [], ◌∷◌, ◌++◌, append-nil, Bool, cond}
use Rattle.std.specs.List.{AllByRecursion}
use Rattle.std.proofs.lemmas.List.Sums.{sum_by-append}
use Rattle.schedule_text.specs.EventText.{HasLine, IsEventOf}
use Rattle.std.specs.Prelude.{Result, Ok, Err, count_by}
use Rattle.rand_pcg.specs.Lcg.{Lcg}
use Rattle.nop_types.specs.Checkpoints.{KeepsTo}
use Rattle.nop_types.specs.Lines.{Line}
use Rattle.nop_types.specs.Meaning.{Meaning}
use Rattle.nop_types.specs.declared.output.Actor.{Actor}
use Rattle.nop_types.specs.declared.output.Actor.TheVariants as actors
use Rattle.client_reads.specs.ReadSteps as reads
use Rattle.client_quorum.specs.ClientSteps as client
use Rattle.client_quorum.specs.OpenRequests as opened
use Rattle.observer.specs.ObserverSteps as observer
use Rattle.replica_core.specs.ReplicaSteps as replica
use Rattle.schedule_text.specs.declared.event.Event.{Event}
use Rattle.schedule_text.specs.Fits.{EventFits, EventsFit}
use Rattle.network.specs.Network.{sends_by, Did}
use Rattle.world.specs.Others.{next, seats, Who, AReplica, Another, AnObserver, who, actor_at}
use Rattle.world.specs.Seats.{Seated, Stimulus}
use Rattle.world.specs.WorldSteps.{WorldState, Happened, Refusal, actor_of, stimulus_of, then_at, step_at, step_of, step, go_on, run_from}
use Rattle.world.specs.WorldSteps.{at_replica, at_other, at_observer, opening}
use Rattle.std.specs.Prelude.{slice_get}
use Rattle.replay.specs.Drawing.{generator_of, event_drawn}
use Rattle.replay.specs.Generated.{drawn_config, first_event, world_after, drawn_from, drawn_events, RunsFrom}
use Rattle.replay.specs.Generating.{IsTaken, Led, MayDraw, Draws, DrawnTo}
use Rattle.replay.proofs.Taken.{GoesOn, drawn_goes_on, taken_there}

pub count_by_both : (p : Line → Bool) (xs ys : List Line) → count_by p (xs ++ ys) ≡ count_by p xs + count_by p ys
count_by_both p xs ys = sum_by-append (λ (x : Line). cond (p x) 1 0) xs ys

-- ---- lists of events

pub events_first : (old new : List Event) (e : Event) → old ≡ [] → new ≡ old ++ e ∷ [] → new ≡ e ∷ []
events_first old new e none is = is ∙ ap (λ (es : List Event). es ++ e ∷ []) none

all_both : (P : Event → Type 0) (es fs : List Event) → AllByRecursion P es → AllByRecursion P fs → AllByRecursion P (es ++ fs)
all_both P [] fs a b = b
all_both P (e ∷ es) fs a b = (a.0, all_both P es fs a.1 b)

fit_both : (es fs : List Event) → EventsFit es → EventsFit fs → EventsFit (es ++ fs)
fit_both [] fs a b = b
fit_both (e ∷ es) fs a b = (a.0, fit_both es fs a.1 b)

module _ {S : Type 0} (m : Meaning S) where
  run_then : (e : Event) (es fs : List Event) (ls : List Line) (h : Happened) → (r : Result Happened Refusal)
      → ((ks : List Line) (w : WorldState) → run_from m ks w es ≡ Ok h → run_from m ks w (es ++ fs) ≡ run_from m h.lines h.world fs)
      → go_on m ls r (λ more v. run_from m more v es) ≡ Ok h
      → go_on m ls r (λ more v. run_from m more v (es ++ fs)) ≡ run_from m h.lines h.world fs
  run_then e es fs ls h (Err refusal) rest is = absurd cc
  run_then e es fs ls h (Ok g) rest is = rest (ls ++ g.lines) g.world is

  -- some events, and then others
  run_both : (es fs : List Event) (h : Happened) (ls : List Line) (w : WorldState) → run_from m ls w es ≡ Ok h
      → run_from m ls w (es ++ fs) ≡ run_from m h.lines h.world fs
  run_both [] fs h ls w is =
      let same : record { world = w; lines = ls } ≡ h = cc in
      ap (λ (x : Happened). run_from m x.lines x.world fs) same
  run_both (e ∷ es) fs h ls w is = run_then e es fs ls h (step m w e) (λ ks v g. run_both es fs h ks v g) is

  -- one event more
  pub led_more : (es : List Event) (w : WorldState) (ls : List Line) (e : Event) (v : WorldState) (more : List Line) → Led m es w ls
      → EventFits e → HasLine e → IsEventOf drawn_config e → step m w e ≡ Ok (record { world = v; lines = more })
      → Led m (es ++ e ∷ []) v (ls ++ more)
  led_more es w ls e v more led fits line of is = record {
    is = run_both es (e ∷ []) (record { world = w; lines = ls }) [] (opening drawn_config) led.is
        ∙ ap (λ (r : Result Happened Refusal). go_on m ls r (λ ks u. run_from m ks u [])) is;
    fit = fit_both es (e ∷ []) led.fit (fits, tt);
    spelled = all_both HasLine es (e ∷ []) led.spelled (line, tt);
    of = all_both (IsEventOf drawn_config) es (e ∷ []) led.of (of, tt);
  }

  pub opening_led : Led m [] (opening drawn_config) []
  opening_led = record { is = refl; fit = tt; spelled = tt; of = tt }

  -- ---- what was sent stays

  carried_grows : {S : Type 0} (w : WorldState) (from : Actor) (act : Seated S × Did → Happened)
      → ((p : Seated S × Did) → (act p).world.sent ≡ w.sent ++ sends_by from p.1) → (r : Result (Seated S × Did) Refusal) (h : Happened)
      → then_at act r ≡ Ok h → length w.sent ≤ length h.world.sent
  carried_grows w from act adds (Err refusal) h is = absurd cc
  carried_grows w from act adds (Ok p) h is =
      let same : act p ≡ h = cc in
      subst (λ (x : Happened). length w.sent ≤ length x.world.sent) same
      (omega (arith, ap length (adds p), length-append w.sent (sends_by from p.1)))

  actor_grows : (w : WorldState) (x : Who) (r : Result Stimulus Refusal) (h : Happened) → step_of m w x r ≡ Ok h
      → length w.sent ≤ length h.world.sent
  actor_grows w (AReplica i) r h is =
      carried_grows w (actors.Replica i) (at_replica w i) (λ p. refl) (step_at (replica.next m) (slice_get w.replicas i) r) h is
  actor_grows w (Another k i) r h is =
      carried_grows w (actor_at (Another k i)) (at_other k w i) (λ p. refl)
      (step_at (next k) (slice_get (seats k w.others) i) r) h is
  actor_grows w (AnObserver i) r h is =
      carried_grows w (actors.Observer i) (at_observer w i) (λ p. refl) (step_at (observer.next m) (slice_get w.observers i) r) h is

  step_grows : (w : WorldState) (e : Event) (h : Happened) → step m w e ≡ Ok h → length w.sent ≤ length h.world.sent
  unfolding step
  step_grows w e h is = actor_grows w (who (actor_of e)) (stimulus_of w.config w.sent e) h is

  -- ---- the first event

  sent_in : Result Happened Refusal → ℕ
  sent_in (Err refusal) = 0
  sent_in (Ok h) = length h.world.sent

  first_count : sent_in (step m (opening drawn_config) first_event) ≡ 1
  unfolding sent_in step stimulus_of client.next reads.next opened.has_room opened.open_requests
  first_count = refl

  pub first_sends : (h : Happened) → step m (opening drawn_config) first_event ≡ Ok h → 1 ≤ length h.world.sent
  unfolding sent_in
  first_sends h is = let one : length h.world.sent ≡ 1 = sym (ap sent_in is) ∙ first_count in omega arith

  -- ---- so many events of a number

  begins_first : (number count : ℕ) (v : WorldState) (are : List Line) → 1 ≤ count
      → step m (opening drawn_config) first_event ≡ Ok (record { world = v; lines = are })
      → drawn_events m number count ≡ first_event ∷ drawn_from m (count - 1) v (generator_of number)
  unfolding drawn_events
  begins_first number zero v are low is = absurd (omega arith)
  begins_first number (suc n) v are low is =
      let less : suc n - 1 ≡ n = omega arith in
      ap (λ (r : Result Happened Refusal). first_event ∷ drawn_from m n (world_after (opening drawn_config) r) (generator_of number)) is
      ∙ ap (λ (k : ℕ). first_event ∷ drawn_from m k v (generator_of number)) (sym less)

  pub begins : (number count : ℕ) (e : Event) (v : WorldState) (are : List Line) → 1 ≤ count → e ≡ first_event
      → step m (opening drawn_config) first_event ≡ Ok (record { world = v; lines = are })
      → DrawnTo m number count (count - 1) (e ∷ []) v (generator_of number) are
  begins number count e v are low same is =
      subst (λ (x : Event). DrawnTo m number count (count - 1) (x ∷ []) v (generator_of number) are) (sym same) (record {
        led = led_more [] (opening drawn_config) [] first_event v are opening_led (omega arith) tt (omega arith) is;
        some = first_sends (record { world = v; lines = are }) is;
        rest = begins_first number count v are low is;
      })

  pub may_draw : (number count left : ℕ) (es : List Event) (w : WorldState) (g : Lcg) (ls : List Line)
      → DrawnTo m number count left es w g ls → MayDraw m w
  may_draw number count left es w g ls d = record { events = es; lines = ls; led = d.led; some = d.some }

  module _ (IsSound : S → Type 0) (keeps : KeepsTo m IsSound) where
    pub first_taken : IsTaken (step m (opening drawn_config) first_event)
    first_taken = taken_there m IsSound keeps [] (opening drawn_config) [] first_event opening_led (omega arith) tt

    -- an event that is drawn is taken
    pub draws_taken : (w : WorldState) (g : Lcg) (e : Event) (h : Lcg) → MayDraw m w → event_drawn w.sent g ≡ (e, h)
        → GoesOn m w e
    draws_taken w g e h may is = subst (GoesOn m w) (ap (λ (p : Event × Lcg). p.0) is) (drawn_goes_on m IsSound keeps w g may)

    pub drawn_next : (number count left : ℕ) (es : List Event) (w : WorldState) (g : Lcg) (ls : List Line) (e : Event) (v : WorldState)
        (h : Lcg) (are : List Line) → DrawnTo m number count (suc left) es w g ls → Draws m w g e v h are
        → DrawnTo m number count left (es ++ e ∷ []) v h (ls ++ are)
    drawn_next number count left es w g ls e v h are d draws =
        let goes = draws_taken w g e h (may_draw number count (suc left) es w g ls d) draws.event in
        let one : drawn_from m (suc left) w g ≡ e ∷ drawn_from m left v h =
        ap (λ (p : Event × Lcg). p.0 ∷ drawn_from m left (world_after w (step m w p.0)) p.1) draws.event
        ∙ ap (λ (r : Result Happened Refusal). e ∷ drawn_from m left (world_after w r) h) draws.happened in
        record {
          led = led_more es w ls e v are d.led goes.fits goes.line goes.of draws.happened;
          some = omega (arith, d.some, step_grows w e (record { world = v; lines = are }) draws.happened);
          rest = d.rest ∙ ap (λ (xs : List Event). es ++ xs) one ∙ sym (append_assoc es (e ∷ []) (drawn_from m left v h));
        }

    -- ---- all events of a number

    pub all_drawn : (number count : ℕ) (es : List Event) (w : WorldState) (g : Lcg) (ls : List Line) → DrawnTo m number count 0 es w g ls
        → drawn_events m number count ≡ es
    all_drawn number count es w g ls d = d.rest ∙ append-nil es

    runs_to : (number count left : ℕ) (es : List Event) (w : WorldState) (g : Lcg) (ls : List Line) → DrawnTo m number count left es w g ls
        → RunsFrom m drawn_config (drawn_events m number count)
    runs_to number count zero es w g ls d =
        subst (RunsFrom m drawn_config) (sym (all_drawn number count es w g ls d))
        (record {
          fit = d.led.fit;
          spelled = d.led.spelled;
          of = d.led.of;
          happened = record { world = w; lines = ls };
          led = d.led.is;
        })
    runs_to number count (suc left) es w g ls d =
        let e : Event = (event_drawn w.sent g).0 in
        let h : Lcg = (event_drawn w.sent g).1 in
        let goes = drawn_goes_on m IsSound keeps w g (may_draw number count (suc left) es w g ls d) in
        let t : Happened = goes.taken.0 in
        runs_to number count left (es ++ e ∷ []) t.world h (ls ++ t.lines)
        (drawn_next number count left es w g ls e t.world h t.lines d (record { event = refl; happened = goes.taken.1 }))

    none_runs : (number : ℕ) → RunsFrom m drawn_config (drawn_events m number 0)
    unfolding drawn_events
    none_runs number = record {
      fit = tt;
      spelled = tt;
      of = tt;
      happened = record { world = opening drawn_config; lines = [] };
      led = refl;
    }

    -- whatever the number and the count, no event is refused
    pub drawn_runs : (number count : ℕ) → RunsFrom m drawn_config (drawn_events m number count)
    drawn_runs number zero = none_runs number
    drawn_runs number (suc n) =
        let t = first_taken in
        runs_to number (suc n) (suc n - 1) (first_event ∷ []) t.0.world (generator_of number) t.0.lines
        (begins number (suc n) first_event t.0.world t.0.lines (omega arith) refl t.1)
