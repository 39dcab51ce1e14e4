-- Rows that are audited without a fault are a run.
use Rattle.std.proofs.Common.{◌≡◌, ℕ, ◌+◌, Bool, true, false, List, [], ◌∷◌, ◌++◌, map, Option, Some, None, Result, Ok, Err, refl, sym, ap, subst}
use Rattle.std.proofs.Common.{◌∙◌, append_assoc}
use Rattle.std.specs.Prelude.{◌&&◌, if◌then◌else◌}
use Rattle.std.specs.List.{flat_map}
use Rattle.std.proofs.lemmas.Bool.{and_parts, and_from}
use Rattle.std.proofs.lemmas.List.{append-nil}
use Rattle.nop_types.specs.Checkpoints.{KeepsTo}
use Rattle.nop_types.specs.Configuration.{Configuration, is_configuration}
use Rattle.nop_types.specs.Legality.{Legal}
use Rattle.nop_types.specs.Lines.{Line}
use Rattle.nop_types.specs.Meaning.{Meaning}
use Rattle.nop_types.specs.declared.output.Actor.{Actor}
use Rattle.schedule_text.specs.declared.event.Event.{Event}
use Rattle.schedule_text.specs.Fits.{EventsFit}
use Rattle.judge.proofs.Filtered.{claims_are_enough}
use Rattle.judge.specs.Saying.{claiming}
use Rattle.safety.proofs.Whole.{runs_are_safe}
use Rattle.safety.specs.Safe.{SafelyPassed}
use Rattle.trace_rows.specs.declared.row.Name.{Name}
use Rattle.trace_rows.specs.declared.row.Gave.{Gave}
use Rattle.trace_rows.specs.declared.row.Row.{Row}
use Rattle.trace_rows.specs.declared.row.Row.TheVariants.{In, Out}
use Rattle.trace_rows.specs.declared.row.Taken.{Taken}
use Rattle.trace_rows.specs.TracedRows.{name_as}
use Rattle.world.specs.Refusals.{is_actor}
use Rattle.world.specs.WorldSteps.{WorldState, Happened, Refusal, history, opening, run, run_from, step}
use Rattle.audit_laws.specs.Audits.{AllSay, Audits, Claims, Ends, Follows, Goes, Passes, SoFar, Step, audited, claims_in}
use Rattle.audit_laws.specs.Audits.{ends, event_of, gives, go_on, goes, goes_by, happened_in, is_none, says, starts, step_rows, takes}
use Rattle.audit_laws.specs.Names.{actor_in, same_actor}
use Rattle.audit_laws.specs.declared.fault.Fault.{Fault}
use Rattle.audit_laws.specs.declared.fault.Fault.TheVariants.{Unlike}
use Rattle.audit_laws.proofs.Naming.{actor_in_is, actor_in_of, same_actor-refl, same_actor-true}
use Rattle.audit_laws.proofs.Places.{config_stays}
use Rattle.audit_laws.proofs.Saying.{all_claimed, claiming-append}

nothing_missing : (ls : List Line) → is_none ls ≡ true → ls ≡ []
nothing_missing [] e = refl
nothing_missing (l ∷ ls) e = absurd cc

none_more : (a : Actor) (ls : List Line) → ls ≡ [] → AllSay a [] ls
none_more a ls e = subst (AllSay a []) (sym e) tt

module _ {S : Type 0} (m : Meaning S) where
  -- ---- from rows to steps

  -- the rows are those that were missing, and then those of steps
  record Rest (s : SoFar) (rows : List Row) (t : SoFar) : Type 0 where
    outs : List Gave
    said : AllSay s.actor outs s.missing
    steps : List Step
    events : List Event
    happened : Happened
    follows : Follows m s.world steps events happened
    are : rows ≡ map (Out (name_as s.actor)) outs ++ flat_map step_rows steps
    world : t.world ≡ happened.world
    lines : t.lines ≡ s.lines ++ happened.lines
    all : t.events ≡ s.events ++ events

  at_end : (k : ℕ) (s t : SoFar) (ls : List Line) → s.missing ≡ ls → ends m k s (is_none ls) ≡ Ok t → Rest s [] t
  at_end k s t [] none e =
      let same : s ≡ t = cc in
      subst (Rest s []) same (record {
        outs = [];
        said = none_more s.actor s.missing none;
        steps = [];
        events = [];
        happened = record { world = s.world; lines = [] };
        follows = Ends s.world;
        are = refl;
        world = refl;
        lines = sym (append-nil s.lines);
        all = sym (append-nil s.events);
      })
  at_end k s t (l ∷ ls) some e = absurd cc

  -- a step comes
  with_step : (s t : SoFar) (name : Name) (a : Actor) (taken : Taken) (rows : List Row) (e : Event) (h : Happened) → s.missing ≡ []
      → name ≡ name_as a → is_actor s.world.config a ≡ true → event_of s.world.config s.world.sent a taken ≡ Ok e
      → step m s.world e ≡ Ok h
      → Rest (record { world = h.world; lines = s.lines ++ h.lines; events = s.events ++ e ∷ []; missing = h.lines; actor = a }) rows t
      → Rest s (In name taken ∷ rows) t
  with_step s t name a taken rows e h none named there event happens rest =
      let x : Step = record { actor = a; taken = taken; outputs = rest.outs } in
      record {
        outs = [];
        said = none_more s.actor s.missing none;
        steps = x ∷ rest.steps;
        events = e ∷ rest.events;
        happened = record { world = rest.happened.world; lines = h.lines ++ rest.happened.lines };
        follows =
            Goes s.world x e h rest.steps rest.events rest.happened
            (record { there = there; event = event; happens = happens; outputs = rest.said }) rest.follows;
        are = ap (λ (n : Name). In n taken ∷ rows) named ∙ ap (λ (rs : List Row). In (name_as a) taken ∷ rs) rest.are;
        world = rest.world;
        lines = rest.lines ∙ append_assoc s.lines h.lines rest.happened.lines;
        all = rest.all ∙ append_assoc s.events (e ∷ []) rest.events;
      }

  -- an output comes
  with_output : (s t : SoFar) (name : Name) (a : Actor) (o : Gave) (l : Line) (ls : List Line) (rows : List Row) → s.missing ≡ l ∷ ls
      → name ≡ name_as a → a ≡ s.actor → says a o l ≡ true → Rest (record s { missing = ls }) rows t → Rest s (Out name o ∷ rows) t
  with_output s t name a o l ls rows is named same says_so rest = record {
    outs = o ∷ rest.outs;
    said = subst (AllSay s.actor (o ∷ rest.outs)) (sym is) (subst (λ (b : Actor). says b o l ≡ true) same says_so, rest.said);
    steps = rest.steps;
    events = rest.events;
    happened = rest.happened;
    follows = rest.follows;
    are = ap (λ (n : Name). Out n o ∷ rows) (named ∙ ap name_as same) ∙ ap (λ (rs : List Row). Out (name_as s.actor) o ∷ rs) rest.are;
    world = rest.world;
    lines = rest.lines;
    all = rest.all;
  }

  abbrev Sound : List Row → Type 0
  Sound rows = (k : ℕ) (s t : SoFar) → audited m k s rows ≡ Ok t → Rest s rows t

  abbrev Then : ℕ → Result SoFar Fault → List Row → SoFar → Type 0
  Then k r rows t = go_on m k r (λ u. audited m (k + 1) u rows) ≡ Ok t

  in_sound : (name : Name) (taken : Taken) (rows : List Row) → Sound rows → (k : ℕ) (s t : SoFar) (b : Bool) → is_none s.missing ≡ b
      → Then k (if b then takes m s (actor_in s.world.config name) taken else Err Unlike) rows t → Rest s (In name taken ∷ rows) t
  in_sound name taken rows sound k s t false missing e = absurd cc
  in_sound name taken rows sound k s t true missing e = by_actor (actor_in s.world.config name) refl e
    where
      by_step : (a : Actor) (x : Event) → (name ≡ name_as a) × (is_actor s.world.config a ≡ true)
          → event_of s.world.config s.world.sent a taken ≡ Ok x → (r : Result Happened Refusal) → step m s.world x ≡ r
          → Then k (goes s a x r) rows t → Rest s (In name taken ∷ rows) t
      by_step a x there event (Err refusal) is f = absurd cc
      by_step a x there event (Ok h) is f =
          with_step s t name a taken rows x h (nothing_missing s.missing missing) there.0 there.1 event is (sound (k + 1) _ t f)

      by_event : (a : Actor) → (name ≡ name_as a) × (is_actor s.world.config a ≡ true) → (r : Result Event Fault)
          → event_of s.world.config s.world.sent a taken ≡ r → Then k (goes_by m s a r) rows t → Rest s (In name taken ∷ rows) t
      by_event a there (Err fault) is f = absurd cc
      by_event a there (Ok x) is f = by_step a x there is (step m s.world x) refl f

      by_actor : (o : Option Actor) → actor_in s.world.config name ≡ o → Then k (takes m s o taken) rows t
          → Rest s (In name taken ∷ rows) t
      by_actor None is f = absurd cc
      by_actor (Some a) is f =
          by_event a (actor_in_is s.world.config name a is) (event_of s.world.config s.world.sent a taken) refl f

  out_sound : (name : Name) (o : Gave) (rows : List Row) → Sound rows → (k : ℕ) (s t : SoFar) (x : Option Actor)
      → actor_in s.world.config name ≡ x → Then k (gives s x o s.missing) rows t → Rest s (Out name o ∷ rows) t
  out_sound name o rows sound k s t None is e = absurd cc
  out_sound name o rows sound k s t (Some a) is e = by_missing s.missing refl e
    where
      named : name ≡ name_as a
      named = (actor_in_is s.world.config name a is).0

      by_test : (l : Line) (ls : List Line) → s.missing ≡ l ∷ ls → (b : Bool) → (same_actor a s.actor && says a o l) ≡ b
          → Then k (if b then Ok (record s { missing = ls }) else Err Unlike) rows t → Rest s (Out name o ∷ rows) t
      by_test l ls are false test f = absurd cc
      by_test l ls are true test f =
          let parts = and_parts (same_actor a s.actor) (says a o l) test in
          with_output s t name a o l ls rows are named (same_actor-true a s.actor parts.0) parts.1
          (sound (k + 1) (record s { missing = ls }) t f)

      by_missing : (ls : List Line) → s.missing ≡ ls → Then k (gives s (Some a) o ls) rows t → Rest s (Out name o ∷ rows) t
      by_missing [] are f = absurd cc
      by_missing (l ∷ ls) are f = by_test l ls are (same_actor a s.actor && says a o l) refl f

  sound : (rows : List Row) → Sound rows
  sound [] k s t e = at_end k s t s.missing refl e
  sound (In name taken ∷ rows) k s t e = in_sound name taken rows (sound rows) k s t (is_none s.missing) refl e
  sound (Out name o ∷ rows) k s t e = out_sound name o rows (sound rows) k s t (actor_in s.world.config name) refl e

  none_said : (a : Actor) (os : List Gave) → AllSay a os [] → os ≡ []
  none_said a [] h = refl
  none_said a (o ∷ os) h = absurd h

  pub audited_steps : (c : Configuration) (rows : List Row) (s : SoFar) → audited m 0 (starts c) rows ≡ Ok s → Audits m c rows s
  audited_steps c rows s e =
      let r = sound rows 0 (starts c) s e in
      let none = none_said (starts c).actor r.outs r.said in
      let all : happened_in s ≡ r.happened = λ i. record { world = r.world i; lines = r.lines i } in
      record {
        steps = r.steps;
        are = r.are ∙ ap (λ (os : List Gave). map (Out (name_as (starts c).actor)) os ++ flat_map step_rows r.steps) none;
        follows =
            subst (λ (es : List Event). Follows m (opening c) r.steps es (happened_in s)) (sym r.all)
            (subst (Follows m (opening c) r.steps r.events) (sym all) r.follows);
      }

  -- ---- from steps to rows

  abbrev at : WorldState → List Line → List Event → List Line → Actor → SoFar
  at w ls es missing a = record { world = w; lines = ls; events = es; missing = missing; actor = a }

  abbrev Passing : List Step → List Event → WorldState → Happened → Type 0
  Passing xs es w v = (k : ℕ) (ls : List Line) (before : List Event) (a : Actor)
      → Passes m k (at w ls before [] a) (flat_map step_rows xs) es v

  outs_pass : (w : WorldState) (ls : List Line) (before : List Event) (a : Actor) (rows : List Row) (es : List Event) (v : Happened)
      → is_actor w.config a ≡ true → ((k : ℕ) → Passes m k (at w ls before [] a) rows es v)
      → (os : List Gave) (missing : List Line) → AllSay a os missing → (k : ℕ)
      → Passes m k (at w ls before missing a) (map (Out (name_as a)) os ++ rows) es v
  outs_pass w ls before a rows es v there rest [] [] said k = rest k
  outs_pass w ls before a rows es v there rest [] (l ∷ missing) said k = absurd said
  outs_pass w ls before a rows es v there rest (o ∷ os) [] said k = absurd said
  outs_pass w ls before a rows es v there rest (o ∷ os) (l ∷ missing) said k =
      let more = outs_pass w ls before a rows es v there rest os missing said.1 (k + 1) in
      let test : (same_actor a a && says a o l) ≡ true = and_from (same_actor a a) (says a o l) (same_actor-refl a) said.0 in
      record {
        now = more.now;
        is = rw (actor_in_of w.config a there, test) more.is;
        world = more.world;
        lines = more.lines;
        events = more.events;
      }

  in_passes : (w : WorldState) (a b : Actor) (taken : Taken) (e : Event) (h : Happened) (k : ℕ) (ls : List Line) (before : List Event)
      → (rows : List Row) (t : SoFar) → is_actor w.config a ≡ true → event_of w.config w.sent a taken ≡ Ok e → step m w e ≡ Ok h
      → audited m (k + 1) (at h.world (ls ++ h.lines) (before ++ e ∷ []) h.lines a) rows ≡ Ok t
      → audited m k (at w ls before [] b) (In (name_as a) taken ∷ rows) ≡ Ok t
  in_passes w a b taken e h k ls before rows t there event happens rest = rw (actor_in_of w.config a there, event, happens) rest

  pub follows_pass : (w : WorldState) (xs : List Step) (es : List Event) (v : Happened) → Follows m w xs es v → Passing xs es w v
  follows_pass w [] (e ∷ es) v none k ls before a = elim none [ ]
  follows_pass w (x ∷ xs) [] v none k ls before a = elim none [ ]
  follows_pass w [] [] v (Ends _) k ls before a = record {
    now = at w ls before [] a;
    is = refl;
    world = refl;
    lines = sym (append-nil ls);
    events = sym (append-nil before);
  }
  follows_pass w (x ∷ xs) (e ∷ es) _ (Goes _ _ _ h _ _ v one rest) k ls before a =
      let there : is_actor h.world.config x.actor ≡ true =
      ap (λ (c : Configuration). is_actor c x.actor) (config_stays m w e h one.happens) ∙ one.there in
      let more = outs_pass h.world (ls ++ h.lines) (before ++ e ∷ []) x.actor (flat_map step_rows xs) es v there
      (λ j. follows_pass h.world xs es v rest j (ls ++ h.lines) (before ++ e ∷ []) x.actor) x.outputs h.lines one.outputs (k + 1) in
      record {
        now = more.now;
        is = in_passes w x.actor a x.taken e h k ls before (map (Out (name_as x.actor)) x.outputs ++ flat_map step_rows xs) more.now
            one.there one.event one.happens more.is;
        world = more.world;
        lines = more.lines ∙ append_assoc ls h.lines v.lines;
        events = more.events ∙ append_assoc before (e ∷ []) es;
      }

  pub steps_pass : (c : Configuration) (steps : List Step) (es : List Event) (h : Happened) → Follows m (opening c) steps es h
      → Passes m 0 (starts c) (flat_map step_rows steps) es h
  steps_pass c steps es h f = follows_pass (opening c) steps es h f 0 [] [] (starts c).actor

  -- ---- a run

  follows_run : (w : WorldState) (xs : List Step) (es : List Event) (v : Happened) → Follows m w xs es v → (ls : List Line)
      → run_from m ls w es ≡ Ok (record { world = v.world; lines = ls ++ v.lines })
  follows_run w [] (e ∷ es) v none ls = elim none [ ]
  follows_run w (x ∷ xs) [] v none ls = elim none [ ]
  follows_run w [] [] _ (Ends _) ls = ap (λ (all : List Line). Ok (record { world = w; lines = all })) (sym (append-nil ls))
  follows_run w (x ∷ xs) (e ∷ es) _ (Goes _ _ _ h _ _ v one rest) ls =
      rw one.happens (follows_run h.world xs es v rest (ls ++ h.lines)
      ∙ ap (λ (all : List Line). Ok (record { world = v.world; lines = all })) (append_assoc ls h.lines v.lines))

  pub audits_run : (c : Configuration) (rows : List Row) (s : SoFar) → Audits m c rows s → run m c s.events ≡ Ok (happened_in s)
  audits_run c rows s a = follows_run (opening c) a.steps s.events (happened_in s) a.follows []

  follows_claims : (w : WorldState) (xs : List Step) (es : List Event) (v : Happened) → Follows m w xs es v
      → claims_in xs ≡ claiming v.lines
  follows_claims w [] (e ∷ es) v none = elim none [ ]
  follows_claims w (x ∷ xs) [] v none = elim none [ ]
  follows_claims w [] [] _ (Ends _) = refl
  follows_claims w (x ∷ xs) (e ∷ es) _ (Goes _ _ _ h _ _ v one rest) =
      ap (λ (ls : List Line). ls ++ claims_in xs) (all_claimed x.actor x.outputs h.lines one.outputs)
      ∙ ap (λ (ls : List Line). claiming h.lines ++ ls) (follows_claims h.world xs es v rest)
      ∙ sym (claiming-append h.lines v.lines)

module _ {S : Type 0} (m : Meaning S) (IsSound : S → Type 0) (keeps : KeepsTo m IsSound) where
  pub audits_safe : (c : Configuration) (rows : List Row) (s : SoFar) → is_configuration c ≡ true → EventsFit s.events → Audits m c rows s
      → SafelyPassed m c s.events (happened_in s)
  audits_safe c rows s is fit a = runs_are_safe m IsSound keeps c s.events (happened_in s) is fit (audits_run m c rows s a)

  pub audits_legal : (c : Configuration) (rows : List Row) (s : SoFar) → is_configuration c ≡ true → EventsFit s.events → (a : Audits m c rows s)
      → Claims m a.steps (happened_in s)
  audits_legal c rows s is fit a =
      let safe = audits_safe c rows s is fit a in
      let same = follows_claims m (opening c) a.steps s.events (happened_in s) a.follows in
      record {
        same = same;
        legal = subst (λ (ls : List Line). Legal m ls (history s.world)) (sym same)
            ((claims_are_enough m s.lines (history s.world)).1 safe.safe.legal);
      }
