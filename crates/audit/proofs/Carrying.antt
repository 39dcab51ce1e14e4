-- What one row does.
use Rattle.std.proofs.Common.{◌≡◌, ◌∙◌, ◌<◌, ◌≤◌, ℕ, ◌+◌, Bool, true, false, List, [], ◌∷◌, ◌++◌, length, Option, Some, None, refl, sym, ap, subst}
use Rattle.std.proofs.Common.{append_assoc, append-nil, arith, length-append}
use Rattle.std.specs.Prelude.{Result, Ok, Err, ◌&&◌, if◌then◌else◌}
use Rattle.std.specs.List.{flat_map}
use Rattle.std.proofs.lemmas.Bool.{le-leb, lt-leb}
use Rattle.std.proofs.lemmas.List.Concat.{flat_map-append}
use Rattle.nop_types.specs.Configuration.{Configuration}
use Rattle.nop_types.specs.Meaning.{Meaning}
use Rattle.nop_types.specs.declared.header.Header.{Header}
use Rattle.nop_types.specs.declared.output.Actor.{Actor}
use Rattle.nop_types.specs.declared.output.Out.{Out}
use Rattle.network.specs.Network.{did_of, lines_by}
use Rattle.printed_runs.specs.Printing.{LinesMean, event_line, printed}
use Rattle.schedule_text.specs.EventText.{Means, event_text}
use Rattle.schedule_text.specs.Fits.{EventFits, EventsFit}
use Rattle.schedule_text.specs.declared.event.Event.{Event}
use Rattle.trace_rows.specs.declared.row.Name.{Name}
use Rattle.trace_rows.specs.declared.row.Gave.{Gave}
use Rattle.trace_rows.specs.declared.row.Row.TheVariants.{In}
use Rattle.trace_rows.specs.declared.row.Taken.{Taken}
use Rattle.trace_text.specs.Traces.{header_line}
use Rattle.world.specs.Actors.{Gives}
use Rattle.world.specs.SeatOutcomes.{Refuses}
use Rattle.world.specs.WorldSteps.{Happened, Refusal, WorldState, actor_of, step}
use Rattle.world.specs.declared.step_error.StepError.{StepError}
use Rattle.world.specs.declared.step_error.StepError.TheVariants as steps
use Rattle.audit_laws.specs.Audits.{SoFar, event_of, gives, goes, goes_by, is_none, row, takes}
use Rattle.audit_laws.specs.Names.{actor_in, same_actor}
use Rattle.audit_laws.specs.declared.fault.Fault.{Fault}
use Rattle.audit_laws.specs.declared.fault.Fault.TheVariants.{Misplaced, Misspelled, Unlike}
use Rattle.audit.specs.Auditing.{is_past, row_step}
use Rattle.audit.specs.Steps.{AreMissing, ComesNext, Leads, Shows}
use Rattle.audit.specs.Telling.{teller, tells}
use Rattle.audit.specs.declared.limits.TheConstants.{MAX_STEPS}
use Rattle.audit.specs.declared.missing.Missing.{Missing}
use Rattle.audit.specs.declared.progress.Progress.{Progress}
use Rattle.audit.specs.declared.row_error.RowError.{RowError}
use Rattle.audit.proofs.Missings.{given}

-- ---- one more event

printed_more : (form : ℕ) (c : Configuration) (es : List Event) (e : Event) → printed form c (es ++ e ∷ []) ≡ printed form c es ++ event_line e
unfolding printed
printed_more form c es e =
    ap (λ (xs : List ℕ). header_line form c ++ xs)
    (flat_map-append event_line es (e ∷ []) ∙ ap (λ (xs : List ℕ). flat_map event_line es ++ xs) (append-nil (event_line e)))
    ∙ sym (append_assoc (header_line form c) (flat_map event_line es) (event_line e))

pub printed_none : (form : ℕ) (c : Configuration) → header_line form c ≡ printed form c []
unfolding printed
printed_none form c = sym (append-nil (header_line form c))

fit_more : (es : List Event) (e : Event) → EventsFit es → EventFits e → EventsFit (es ++ e ∷ [])
fit_more [] e all one = (one, tt)
fit_more (x ∷ es) e all one = (all.0, fit_more es e all.1 one)

mean_more : (es : List Event) (e : Event) → LinesMean es → Means (event_text e) e → LinesMean (es ++ e ∷ [])
mean_more [] e all one = (one, tt)
mean_more (x ∷ es) e all one = (all.0, mean_more es e all.1 one)

module _ {S H U : Type 0} (m : Meaning S) (h : Header) (s : SoFar) (old : Progress H U) (shows : Shows h s old) where
  -- ---- the event of a step

  same_step : (e : Event) (r : Result Happened Refusal) → step m old.world.state e ≡ r → step m s.world e ≡ r
  same_step e r is = ap (λ (w : WorldState). step m w e) (sym shows.world) ∙ is

  pub carried : (new : Progress H U) (a : Actor) (e : Event) (gave : Option (List Out)) → actor_of e ≡ a
      → Gives (step m old.world.state e) (actor_of e) old.world.state new.world.state gave
      → ((b : Actor) (count : ℕ) → AreMissing b new.missing (lines_by b count (did_of gave)))
      → new.actor ≡ a → new.steps ≡ old.steps + 1 → new.text.items ≡ old.text.items ++ event_line e → EventFits e → Means (event_text e) e
      → Leads h (goes s a e (step m s.world e)) (Ok tt) new
  carried new a e gave by gives missing actor steps text fits means =
      let count = length old.world.state.sent in
      let ls = lines_by (actor_of e) count (did_of gave) in
      let happened : Happened = record { world = new.world.state; lines = ls } in
      let n = shows.steps in (
        record { world = new.world.state; lines = s.lines ++ ls; events = s.events ++ e ∷ []; missing = ls; actor = a },
        ap (goes s a e) (same_step e (Ok happened) gives.is),
        record {
          world = refl;
          missing = subst (λ (b : Actor). AreMissing a new.missing (lines_by b count (did_of gave))) (sym by) (missing a count);
          actor = actor;
          steps = omega (arith, steps, n, length-append s.events (e ∷ []));
          text = text ∙ ap (λ (xs : List ℕ). xs ++ event_line e) shows.text ∙ sym (printed_more h.form h.config s.events e);
          fit = fit_more s.events e shows.fit fits;
          mean = mean_more s.events e shows.mean means;
        },
      )

  pub refused_so : (a : Actor) (e : Event) (x : StepError) (Same : Type 0) → (x ≡ steps.NoMemory → ⊥) → Refuses x (step m old.world.state e) Same
      → goes s a e (step m s.world e) ≡ Err Misplaced
  refused_so a e (steps.NoSuchDatagram index sent) Same some r = ap (goes s a e) (same_step e _ r.0)
  refused_so a e steps.NoSuchActor Same some r = ap (goes s a e) (same_step e _ r.0)
  refused_so a e steps.Forged Same some r = ap (goes s a e) (same_step e _ r.0)
  refused_so a e steps.NoMemory Same some r = absurd (some refl)

  -- ---- an input

  pub past_steps : (name : Name) (taken : Taken) → MAX_STEPS ≤ old.steps → row_step m s (Some (In name taken)) ≡ Err Misspelled
  past_steps name taken most =
      let n = shows.steps in
      let past = le-leb MAX_STEPS (length s.events) (omega (arith, most, n)) in
      rw past refl

  not_past : old.steps < MAX_STEPS → (name : Name) (taken : Taken) → is_past s (In name taken) ≡ false
  not_past less name taken = let n = shows.steps in lt-leb MAX_STEPS (length s.events) (omega (arith, less, n))

  pub some_missing : (name : Name) (taken : Taken) → old.steps < MAX_STEPS → false ≡ is_none s.missing
      → row_step m s (Some (In name taken)) ≡ Err Unlike
  some_missing name taken less some = rw (not_past less name taken, sym some) refl

  config_is : old.world.state.config ≡ s.world.config
  config_is = ap (λ (w : WorldState). w.config) shows.world

  pub nobody : (name : Name) (taken : Taken) → old.steps < MAX_STEPS → true ≡ is_none s.missing → actor_in old.world.state.config name ≡ None
      → row_step m s (Some (In name taken)) ≡ Err Misplaced
  nobody name taken less none away =
      let actor : actor_in s.world.config name ≡ None = ap (λ (c : Configuration). actor_in c name) (sym config_is) ∙ away in
      rw (not_past less name taken, sym none, actor) refl

  -- what an actor that is there takes
  pub takes_so : (name : Name) (taken : Taken) (a : Actor) → old.steps < MAX_STEPS → true ≡ is_none s.missing
      → actor_in old.world.state.config name ≡ Some a
      → row_step m s (Some (In name taken)) ≡ goes_by m s a (event_of old.world.state.config old.world.state.sent a taken)
  takes_so name taken a less none there =
      let actor : actor_in s.world.config name ≡ Some a = ap (λ (c : Configuration). actor_in c name) (sym config_is) ∙ there in
      ap (λ (b : Bool). if b then Err Misspelled else row m s (In name taken)) (not_past less name taken)
      ∙ ap (λ (b : Bool). if b then takes m s (actor_in s.world.config name) taken else Err Unlike) (sym none)
      ∙ ap (λ (o : Option Actor). takes m s o taken) actor
      ∙ ap (λ (w : WorldState). goes_by m s a (event_of w.config w.sent a taken)) (sym shows.world)

  -- ---- an output

  pub nobody_gives : (name : Name) (gave : Gave) → actor_in old.world.state.config name ≡ None
      → gives s (actor_in s.world.config name) gave s.missing ≡ Err Misplaced
  nobody_gives name gave away =
      ap (λ (o : Option Actor). gives s o gave s.missing) (ap (λ (c : Configuration). actor_in c name) (sym config_is) ∙ away)

  pub gives_so : (name : Name) (gave : Gave) (a : Actor) → actor_in old.world.state.config name ≡ Some a
      → gives s (actor_in s.world.config name) gave s.missing ≡ gives s (Some a) gave s.missing
  gives_so name gave a there =
      ap (λ (o : Option Actor). gives s o gave s.missing) (ap (λ (c : Configuration). actor_in c name) (sym config_is) ∙ there)

  -- the next output came
  pub output_leads : (name : Name) (gave : Gave) (a : Actor) (out : Out) (n : Missing) → actor_in old.world.state.config name ≡ Some a
      → ComesNext s.actor old.missing out s.missing → same_actor a old.actor ≡ true
      → (same_actor a (teller old.actor out) && tells gave out) ≡ true → n.gave ≡ old.missing.gave → n.came ≡ old.missing.came + 1
      → Leads h (gives s (actor_in s.world.config name) gave s.missing) (Ok tt) (record old { missing = n })
  output_leads name gave a out n there coming same said gave_same came =
      let g = given s a gave old.missing out coming in
      let said_now : (same_actor a (teller s.actor out) && tells gave out) ≡ true =
      ap (λ (b : Actor). same_actor a (teller b out) && tells gave out) (sym shows.actor) ∙ said in (
        record s { missing = g.rest },
        gives_so name gave a there
            ∙ g.is
            ∙ ap (λ (b : Bool). if b && (same_actor a (teller s.actor out) && tells gave out) then Ok (record s { missing = g.rest }) else Err Unlike)
            (ap (same_actor a) (sym shows.actor) ∙ same)
            ∙ ap (λ (b : Bool). if b then Ok (record s { missing = g.rest }) else Err Unlike) said_now,
        record {
          world = shows.world;
          missing = g.are n gave_same came;
          actor = shows.actor;
          steps = shows.steps;
          text = shows.text;
          fit = shows.fit;
          mean = shows.mean;
        },
      )

pub leads_as : {H U : Type 0} (h : Header) (r q : Result SoFar Fault) (x : Result (Unit {0}) RowError) (p : Progress H U) → r ≡ q
    → Leads h q x p → Leads h r x p
leads_as h r q x p same l = subst (λ (t : Result SoFar Fault). Leads h t x p) (sym same) l
