-- A trace without a fault is one of steps, and a trace of steps is without a fault.
use Rattle.std.proofs.Common.{◌≡◌, ◌∙◌, ◌≤◌, ◌<◌, ℕ, ◌+◌, Bool, true, false, List, [], ◌∷◌, ◌++◌, length, map, Option, Some, None, Result, Ok, Err}
use Rattle.std.proofs.Common.{refl, sym, ap, subst, arith, length-append}
use Rattle.std.specs.Prelude.{◌||◌, ◌&&◌, nat_le, nat_lt, if◌then◌else◌, IfOk}
use Rattle.std.specs.Io.KnownBytes.{Appends}
use Rattle.std.specs.List.{AllByRecursion, flat_map}
use Rattle.std.proofs.lemmas.Bool.{leb-false, ltb-false, lt-leb, le-ltb}
use Rattle.line_reader.specs.Cutting.{Cut, lines_of}
use Rattle.nop_types.specs.Checkpoints.{KeepsTo}
use Rattle.nop_types.specs.Lines.{Line}
use Rattle.nop_types.specs.Meaning.{Meaning}
use Rattle.nop_types.specs.declared.header.Header.{Header}
use Rattle.nop_types.specs.declared.limits.TheConstants.{MAX_LINE_BYTES}
use Rattle.nop_types.specs.declared.output.Actor.{Actor}
use Rattle.nop_types.specs.declared.output.Actor.TheVariants.{Controller}
use Rattle.printed_runs.proofs.Printing.{prints_again}
use Rattle.printed_runs.specs.Printing.{LinesMean}
use Rattle.schedule_text.proofs.Fitting.{headers_fit}
use Rattle.schedule_text.specs.Fits.{EventsFit}
use Rattle.schedule_text.specs.Rules.{header_of}
use Rattle.schedule_text.specs.declared.event.Event.{Event}
use Rattle.schedule_text.specs.declared.rule.Rule.{Rule}
use Rattle.trace_rows.specs.Reading.{row_of}
use Rattle.trace_rows.specs.declared.row.Gave.{Gave}
use Rattle.trace_rows.specs.declared.row.Row.{Row}
use Rattle.trace_rows.specs.declared.row.Row.TheVariants.{In, Out}
use Rattle.trace_rows.specs.declared.row.Taken.{Taken}
use Rattle.transcript_rows.proofs.RowTexts.{counted}
use Rattle.world.specs.WorldSteps.{Happened, Refusal, WorldState, opening, step}
use Rattle.audit_laws.proofs.Running.{audited_steps, audits_legal, audits_run, audits_safe, steps_pass}
use Rattle.audit_laws.specs.Audits.{Audits, Ends, Follows, Goes, SoFar, Step, audited, event_of, gives, go_on, goes, goes_by, happened_in, is_none, row, ends}
use Rattle.audit_laws.specs.Audits.{says, starts, step_rows, takes}
use Rattle.audit_laws.specs.Names.{actor_in, same_actor}
use Rattle.audit_laws.specs.declared.fault.Fault.{Fault}
use Rattle.audit_laws.specs.declared.fault.Fault.TheVariants.{Misspelled, Unlike}
use Rattle.audit.specs.Auditing.{After, First, Passes, Place, Refuses, audit_of, is_past, is_too_much, missing_line, moved, opened}
use Rattle.audit.specs.Auditing.{rest, row_step, text_step, then_rest}
use Rattle.audit.specs.Outcome.{AuditEnds, Done, IsDone, passed_text}
use Rattle.audit.specs.Traces.{IsAudit, IsAuditOf, IsTrace, PassesTraces, texts_of}
use Rattle.audit.specs.declared.error.AuditError.{AuditError}
use Rattle.audit.specs.declared.error.AuditError.TheVariants as errors
use Rattle.audit.specs.declared.limits.TheConstants.{MAX_STEPS, MAX_TRACE_LINES}

-- ---- how many events there are

-- an input is one more event
abbrev inputs : Row → ℕ
inputs (In name taken) = 1
inputs (Out name gave) = 0

module _ {S : Type 0} (m : Meaning S) where
  step_grows : (s t : SoFar) (a : Actor) (e : Event) (r : Result Happened Refusal) → goes s a e r ≡ Ok t → length t.events ≡ length s.events + 1
  step_grows s t a e (Err refusal) is = absurd cc
  step_grows s t a e (Ok h) is =
      let grown : s.events ++ e ∷ [] ≡ t.events = cc in ap length (sym grown) ∙ length-append s.events (e ∷ [])

  event_grows : (s t : SoFar) (a : Actor) (r : Result Event Fault) → goes_by m s a r ≡ Ok t → length t.events ≡ length s.events + 1
  event_grows s t a (Err fault) is = absurd cc
  event_grows s t a (Ok e) is = step_grows s t a e (step m s.world e) is

  actor_grows : (s t : SoFar) (o : Option Actor) (taken : Taken) → takes m s o taken ≡ Ok t → length t.events ≡ length s.events + 1
  actor_grows s t None taken is = absurd cc
  actor_grows s t (Some a) taken is = event_grows s t a (event_of s.world.config s.world.sent a taken) is

  input_grows : (s t : SoFar) (o : Option Actor) (taken : Taken) (b : Bool) → (if b then takes m s o taken else Err Unlike) ≡ Ok t
      → length t.events ≡ length s.events + 1
  input_grows s t o taken true is = actor_grows s t o taken is
  input_grows s t o taken false is = absurd cc

  test_keeps : (s t : SoFar) (ls : List Line) (b : Bool)
      → (let r : Result SoFar Fault = if b then Ok (record s { missing = ls }) else Err Unlike in r) ≡ Ok t → length t.events ≡ length s.events
  test_keeps s t ls true is = let same : s.events ≡ t.events = cc in ap length (sym same)
  test_keeps s t ls false is = absurd cc

  output_keeps : (s t : SoFar) (o : Option Actor) (gave : Gave) (ls : List Line) → gives s o gave ls ≡ Ok t → length t.events ≡ length s.events
  output_keeps s t None gave ls is = absurd cc
  output_keeps s t (Some a) gave [] is = absurd cc
  output_keeps s t (Some a) gave (l ∷ ls) is = test_keeps s t ls (same_actor a s.actor && says a gave l) is

  row_grows : (s t : SoFar) (r : Row) → row m s r ≡ Ok t → length t.events ≡ length s.events + inputs r
  row_grows s t (In name taken) is = input_grows s t (actor_in s.world.config name) taken (is_none s.missing) is
  row_grows s t (Out name gave) is = let e = output_keeps s t (actor_in s.world.config name) gave s.missing is in omega (arith, e)

  audited_grows : (rows : List Row) (k : ℕ) (s t : SoFar) → audited m k s rows ≡ Ok t → length s.events ≤ length t.events
  audited_grows [] k s t is = on (is_none s.missing) is
    where
      on : (b : Bool) → ends m k s b ≡ Ok t → length s.events ≤ length t.events
      on true e = let same : s ≡ t = cc in subst (λ (u : SoFar). length s.events ≤ length u.events) same (omega arith)
      on false e = absurd cc
  audited_grows (r ∷ rows) k s t is = on (λ u. audited_grows rows (k + 1) u t) (row m s r) refl is
    where
      on : ((u : SoFar) → audited m (k + 1) u rows ≡ Ok t → length u.events ≤ length t.events) → (x : Result SoFar Fault) → row m s r ≡ x
          → go_on m k x (λ u. audited m (k + 1) u rows) ≡ Ok t → length s.events ≤ length t.events
      on grows (Err fault) made e = absurd cc
      on grows (Ok u) made e =
          let first = row_grows s u r made in
          let later = grows u e in
          omega (arith, first, later)

  -- ---- from lines to rows

  abbrev AreShort : List (List ℕ) → Type 0
  AreShort texts = AllByRecursion (λ text. length text ≤ MAX_LINE_BYTES) texts

  record Sound (k : ℕ) (h : Header) (s : SoFar) (cuts : List Cut) (p : Place) : Type 0 where
    rows : List Row
    now : SoFar
    place : p ≡ After h now
    texts : map row_of (texts_of cuts) ≡ map Some rows
    audits : (j : ℕ) → audited m j s rows ≡ Ok now
    short : AreShort (texts_of cuts)
    few : k + length cuts ≤ MAX_TRACE_LINES
    most : length s.events ≤ MAX_STEPS → length now.events ≤ MAX_STEPS

  record Fitting (k : ℕ) (text : List ℕ) : Type 0 where
    below : k < MAX_TRACE_LINES
    within : length text ≤ MAX_LINE_BYTES

  fitting : (k : ℕ) (text : List ℕ) → is_too_much k text ≡ false → Fitting k text
  fitting k text e = on (nat_le MAX_TRACE_LINES k) (nat_lt MAX_LINE_BYTES (length text)) refl refl e
    where
      on : (a b : Bool) → nat_le MAX_TRACE_LINES k ≡ a → nat_lt MAX_LINE_BYTES (length text) ≡ b → (a || b) ≡ false → Fitting k text
      on false false p q f = record { below = leb-false MAX_TRACE_LINES k p; within = ltb-false MAX_LINE_BYTES (length text) q }
      on true b p q f = absurd cc
      on false true p q f = absurd cc

  past_room : (s t : SoFar) (r : Row) → is_past s r ≡ false → row m s r ≡ Ok t → length s.events ≤ MAX_STEPS → length t.events ≤ MAX_STEPS
  past_room s t (In name taken) past made few =
      let less = leb-false MAX_STEPS (length s.events) past in
      let more = row_grows s t (In name taken) made in omega (arith, less, more)
  past_room s t (Out name gave) past made few = let more = row_grows s t (Out name gave) made in omega (arith, few, more)

  abbrev Rests : List Cut → Type 0
  Rests cuts = (k : ℕ) (h : Header) (s : SoFar) (p : Place) → rest m true k (After h s) cuts ≡ Passes p → k ≤ MAX_TRACE_LINES
      → Sound k h s cuts p

  with_row : (cut : Cut) (cuts : List Cut) (k : ℕ) (h : Header) (s u : SoFar) (p : Place) (r : Row) → Fitting k cut.text
      → row_of cut.text ≡ Some r → is_past s r ≡ false → row m s r ≡ Ok u → Sound (k + 1) h u cuts p → Sound k h s (cut ∷ cuts) p
  with_row cut cuts k h s u p r fits is past made sound = record {
    rows = r ∷ sound.rows;
    now = sound.now;
    place = sound.place;
    texts = ap (λ (o : Option Row). o ∷ map row_of (texts_of cuts)) is ∙ ap (λ (os : List (Option Row)). Some r ∷ os) sound.texts;
    audits = λ j. ap (λ (x : Result SoFar Fault). go_on m j x (λ t. audited m (j + 1) t sound.rows)) made ∙ sound.audits (j + 1);
    short = (fits.within, sound.short);
    few = let few = sound.few in omega (arith, few);
    most = λ few. sound.most (past_room s u r past made few);
  }

  -- a line is taken, and those behind it
  abbrev Then : ℕ → List Cut → Place → Result Place Fault → Type 0
  Then k cuts p x = then_rest (k + 1) x (λ q. rest m true (k + 1) q cuts) ≡ Passes p

  sound : (cuts : List Cut) → Rests cuts
  sound [] k h s p e low = on (is_none s.missing) refl e
    where
      on : (b : Bool) → is_none s.missing ≡ b → missing_line (k + 1) (After h s) b ≡ Passes p → Sound k h s [] p
      on true none f =
          let same : After h s ≡ p = cc in
          record {
            rows = [];
            now = s;
            place = sym same;
            texts = refl;
            audits = λ j. rw none refl;
            short = tt;
            few = omega (arith, low);
            most = λ few. few;
          }
      on false none f = absurd cc
  sound (cut ∷ cuts) k h s p e low = by_limits (sound cuts) (is_too_much k cut.text) refl e
    where
      by_row : Rests cuts → (r : Row) → row_of cut.text ≡ Some r → Fitting k cut.text → is_past s r ≡ false → (x : Result SoFar Fault)
          → row m s r ≡ x → Then k cuts p (moved h x) → Sound k h s (cut ∷ cuts) p
      by_row later r is fits past (Err fault) made f = absurd cc
      by_row later r is fits past (Ok u) made f =
          with_row cut cuts k h s u p r fits is past made (later (k + 1) h u p f (let below = fits.below in omega (arith, below)))

      by_past : Rests cuts → (r : Row) → row_of cut.text ≡ Some r → Fitting k cut.text → (b : Bool) → is_past s r ≡ b
          → Then k cuts p (moved h (if b then Err Misspelled else row m s r)) → Sound k h s (cut ∷ cuts) p
      by_past later r is fits true past f = absurd cc
      by_past later r is fits false past f = by_row later r is fits past (row m s r) refl f

      by_text : Rests cuts → Fitting k cut.text → (o : Option Row) → row_of cut.text ≡ o → Then k cuts p (moved h (row_step m s o))
          → Sound k h s (cut ∷ cuts) p
      by_text later fits None is f = absurd cc
      by_text later fits (Some r) is f = by_past later r is fits (is_past s r) refl f

      by_limits : Rests cuts → (b : Bool) → is_too_much k cut.text ≡ b
          → Then k cuts p (if b then Err Misspelled else text_step m (After h s) cut.text) → Sound k h s (cut ∷ cuts) p
      by_limits later true past f = absurd cc
      by_limits later false past f = by_text later (fitting k cut.text past) (row_of cut.text) refl f

  -- ---- the whole

  follows_count : (w : WorldState) (xs : List Step) (es : List Event) (v : Happened) → Follows m w xs es v → length xs ≡ length es
  follows_count w [] (e ∷ es) v none = elim none [ ]
  follows_count w (x ∷ xs) [] v none = elim none [ ]
  follows_count w [] [] _ (Ends _) = refl
  follows_count w (x ∷ xs) (e ∷ es) _ (Goes _ _ _ h _ _ v one more) =
      let same = follows_count h.world xs es v more in omega (arith, same)

  -- what a text is that was audited without a fault
  record Whole (bytes : List ℕ) (p : Place) : Type 0 where
    trace : IsTrace m bytes
    now : SoFar
    place : p ≡ After trace.header now
    events : trace.events ≡ now.events

  with_first : (bytes : List ℕ) (cut : Cut) (cuts : List Cut) (h : Header) (p : Place) → lines_of MAX_TRACE_LINES true 0 bytes ≡ cut ∷ cuts
      → Fitting 0 cut.text → header_of cut.text ≡ Ok h → Sound 1 h (starts h.config) cuts p → Whole bytes p
  with_first bytes cut cuts h p are fits is s =
      let a = audited_steps m h.config s.rows s.now (s.audits 0) in
      let few = s.few in
      let count = follows_count (opening h.config) a.steps s.now.events (happened_in s.now) a.follows in
      let most = s.most (omega arith) in
      record {
        trace = record {
          first = cut.text;
          texts = texts_of cuts;
          lines = ap texts_of are;
          short = (fits.within, s.short);
          few = (let same = length_texts cuts in omega (arith, few, same));
          header = h;
          opens = is;
          steps = a.steps;
          rows = s.texts ∙ ap (map Some) a.are;
          most = omega (arith, count, most);
          events = s.now.events;
          happened = happened_in s.now;
          follows = a.follows;
        };
        now = s.now;
        place = s.place;
        events = refl;
      }
    where
      length_texts : (xs : List Cut) → length (texts_of xs) ≡ length xs
      length_texts [] = refl
      length_texts (x ∷ xs) = let same = length_texts xs in omega (arith, same)

  whole_of : (bytes : List ℕ) (cuts : List Cut) (p : Place) → lines_of MAX_TRACE_LINES true 0 bytes ≡ cuts
      → rest m true 0 First cuts ≡ Passes p → Whole bytes p
  whole_of bytes [] p are e = absurd cc
  whole_of bytes (cut ∷ cuts) p are e = by_limits (is_too_much 0 cut.text) refl e
    where
      by_header : Fitting 0 cut.text → (r : Result Header Rule) → header_of cut.text ≡ r → Then 0 cuts p (opened r) → Whole bytes p
      by_header fits (Err rule) is f = absurd cc
      by_header fits (Ok h) is f = with_first bytes cut cuts h p are fits is (sound cuts 1 h (starts h.config) p f (omega arith))

      by_limits : (b : Bool) → is_too_much 0 cut.text ≡ b → Then 0 cuts p (if b then Err Misspelled else text_step m First cut.text) → Whole bytes p
      by_limits true past f = absurd cc
      by_limits false past f = by_header (fitting 0 cut.text past) (header_of cut.text) refl f

  audits_lines : (bytes : List ℕ) → audit_of m true bytes ≡ rest m true 0 First (lines_of MAX_TRACE_LINES true 0 bytes)
  unfolding audit_of
  audits_lines bytes = refl

  whole : (bytes : List ℕ) (p : Place) → audit_of m true bytes ≡ Passes p → Whole bytes p
  whole bytes p e = whole_of bytes (lines_of MAX_TRACE_LINES true 0 bytes) p refl (sym (audits_lines bytes) ∙ e)

  -- ---- from rows to lines

  fits_limits : (k : ℕ) (text : List ℕ) → k < MAX_TRACE_LINES → length text ≤ MAX_LINE_BYTES → is_too_much k text ≡ false
  fits_limits k text below within = rw (lt-leb MAX_TRACE_LINES k below, le-ltb MAX_LINE_BYTES (length text) within) refl

  not_past : (s u : SoFar) (r : Row) (n : ℕ) → row m s r ≡ Ok u → length u.events ≤ n → n ≤ MAX_STEPS → is_past s r ≡ false
  not_past s u (In name taken) n made grown most =
      let more = row_grows s u (In name taken) made in
      lt-leb MAX_STEPS (length s.events) (omega (arith, more, grown, most))
  not_past s u (Out name gave) n made grown most = refl

  complete : (cuts : List Cut) (rows : List Row) (k j : ℕ) (h : Header) (s t : SoFar) → map row_of (texts_of cuts) ≡ map Some rows
      → AreShort (texts_of cuts) → k + length cuts ≤ MAX_TRACE_LINES → length t.events ≤ MAX_STEPS → audited m j s rows ≡ Ok t
      → rest m true k (After h s) cuts ≡ Passes (After h t)
  complete [] (r ∷ rows) k j h s t are short few most is = absurd cc
  complete (cut ∷ cuts) [] k j h s t are short few most is = absurd cc
  complete [] [] k j h s t are short few most is = on (is_none s.missing) is
    where
      on : (b : Bool) → ends m j s b ≡ Ok t
          → missing_line (k + 1) (After h s) b ≡ Passes (After h t)
      on true e = let same : s ≡ t = cc in ap (λ (u : SoFar). Passes (After h u)) same
      on false e = absurd cc
  complete (cut ∷ cuts) (r ∷ rows) k j h s t are short few most is =
      let others : map row_of (texts_of cuts) ≡ map Some rows = cc in
      on (λ u e. complete cuts rows (k + 1) (j + 1) h u t others short.1 (omega (arith, few)) most e) (row m s r) refl is
    where
      on : ((u : SoFar) → audited m (j + 1) u rows ≡ Ok t → rest m true (k + 1) (After h u) cuts ≡ Passes (After h t))
          → (x : Result SoFar Fault) → row m s r ≡ x → go_on m j x (λ u. audited m (j + 1) u rows) ≡ Ok t
          → rest m true k (After h s) (cut ∷ cuts) ≡ Passes (After h t)
      on later (Err fault) made e = absurd cc
      on later (Ok u) made e =
          let here : row_of cut.text ≡ Some r = cc in
          let fits = fits_limits k cut.text (omega (arith, few)) short.0 in
          let past = not_past s u r (length t.events) made (audited_grows rows (j + 1) u t e) most in
          rw (fits, here, past, made) (later u e)

  -- a trace of steps is without a fault
  traces_pass : (bytes : List ℕ) → IsTrace m bytes → (p : Place) × (audit_of m true bytes ≡ Passes p)
  traces_pass bytes t = on (lines_of MAX_TRACE_LINES true 0 bytes) refl t.lines
    where
      on : (cuts : List Cut) → lines_of MAX_TRACE_LINES true 0 bytes ≡ cuts → texts_of cuts ≡ t.first ∷ t.texts
          → (p : Place) × (audit_of m true bytes ≡ Passes p)
      on [] are e = absurd cc
      on (cut ∷ cuts) are e =
          let first : cut.text ≡ t.first = cc in
          let texts : texts_of cuts ≡ t.texts = cc in
          let passed = steps_pass m t.header.config t.steps t.events t.happened t.follows in
          let count = follows_count (opening t.header.config) t.steps t.events t.happened t.follows in
          let opens : header_of cut.text ≡ Ok t.header = ap header_of first ∙ t.opens in
          let long : length cut.text ≤ MAX_LINE_BYTES = subst (λ (xs : List ℕ). length xs ≤ MAX_LINE_BYTES) (sym first) t.short.0 in
          let fits = fits_limits 0 cut.text (omega arith) long in
          let few = t.few in
          let most = t.most in
          let sizes = length_texts cuts ∙ ap length texts in
          let same = ap length passed.events in (
            After t.header passed.now,
            audits_lines bytes ∙ ap (rest m true 0 First) are
                ∙ rw (fits, opens) (complete cuts (flat_map step_rows t.steps) 1 0 t.header (starts t.header.config) passed.now
                (ap (map row_of) texts ∙ t.rows) (subst AreShort (sym texts) t.short.1) (omega (arith, few, sizes))
                (omega (arith, most, count, same)) passed.is),
          )
        where
          length_texts : (xs : List Cut) → length xs ≡ length (texts_of xs)
          length_texts [] = refl
          length_texts (x ∷ xs) = let same = length_texts xs in omega (arith, same)

  never : (bytes : List ℕ) → IsTrace m bytes → (line : ℕ) (fault : Fault) → audit_of m true bytes ≡ Refuses line fault → ⊥
  never bytes t line fault e = let p = traces_pass bytes t in let f : Passes p.0 ≡ Refuses line fault = sym p.1 ∙ e in cc

  pub passes_traces : (bytes left before now : Option (List ℕ)) (x : Result ℕ AuditError) → AuditEnds m bytes left before now x
      → PassesTraces m bytes x
  passes_traces None left before now x h = tt
  passes_traces (Some bytes) left before now (Ok n) h = λ t. tt
  passes_traces (Some bytes) None before now (Err (errors.Refuted line fault)) h = λ t. h
  passes_traces (Some bytes) (Some left) before now (Err (errors.Refuted line fault)) h =
      λ t. never bytes t line h.cause (ap (audit_of m true) h.split ∙ h.decides left h.end)
  passes_traces (Some bytes) left before now (Err _) h = λ t. tt

module _ {S : Type 0} (m : Meaning S) (IsSound : S → Type 0) (keeps : KeepsTo m IsSound) where
  same_place : (h k : Header) (s t : SoFar) → After h s ≡ After k t → (h ≡ k) × (s ≡ t)
  same_place h k s t e = (cc, cc)

  -- what holds of a trace
  of_trace : (steps : ℕ) (bytes left : List ℕ) (before now : Option (List ℕ)) (t : IsTrace m bytes) → left ≡ [] → steps ≡ length t.steps
      → EventsFit t.events → LinesMean t.events → Appends before now (passed_text t.header t.events) → IsAudit m steps bytes left before now
  of_trace steps bytes left before now t none count fit mean wrote =
      let c = t.header.config in
      let header = headers_fit t.first t.header t.opens in
      let is = counted t.header header in
      let s : SoFar = record {
        world = t.happened.world;
        lines = t.happened.lines;
        events = t.events;
        missing = [];
        actor = Controller 0;
      } in
      let rows = flat_map step_rows t.steps in
      let a : Audits m c rows s = record { steps = t.steps; are = refl; follows = t.follows } in
      let ran = audits_run m c rows s a in
      let same = follows_count m (opening c) t.steps t.events t.happened t.follows in
      let most = t.most in
      record {
        all = none;
        trace = t;
        count = count;
        run = ran;
        safely = audits_safe m IsSound keeps c rows s is fit a;
        claims = audits_legal m IsSound keeps c rows s is fit a;
        wrote = wrote;
        replays = prints_again m t.header.form c t.events t.happened header ran mean (omega (arith, same, most));
      }

  audit_is : (steps : ℕ) (bytes left : List ℕ) (before now : Option (List ℕ)) → Done m steps bytes left before now
      → IsAudit m steps bytes left before now
  audit_is steps bytes left before now d =
      let w = whole m bytes (After d.header d.so_far) d.passes in
      let t = w.trace in
      let both = same_place d.header t.header d.so_far w.now w.place in
      let events : d.so_far.events ≡ t.events = ap (λ (s : SoFar). s.events) both.1 ∙ sym w.events in
      let same = follows_count m (opening t.header.config) t.steps t.events t.happened t.follows in
      of_trace steps bytes left before now t d.all (d.count ∙ ap length events ∙ sym same) (subst EventsFit events d.fit)
      (subst LinesMean events d.mean)
      (subst (Appends before now) (ap (λ (h : Header). passed_text h d.so_far.events) both.0 ∙ ap (passed_text t.header) events) d.wrote)

  pub audits_of : (steps : ℕ) (bytes left before now : Option (List ℕ)) → IsDone m steps bytes left before now
      → IsAuditOf m steps bytes left before now
  audits_of steps None left before now d = tt
  audits_of steps (Some bytes) None before now d = d
  audits_of steps (Some bytes) (Some left) before now d = audit_is steps bytes left before now d

  pub audit_says : (bytes left before now : Option (List ℕ)) (x : Result ℕ AuditError) → AuditEnds m bytes left before now x
      → IfOk x (λ steps. IsAuditOf m steps bytes left before now)
  audit_says bytes left before now (Ok steps) d = audits_of steps bytes left before now d
  audit_says bytes left before now (Err e) d = tt
