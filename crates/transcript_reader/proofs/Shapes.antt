-- Rows that are each in their place are the body of a transcript so far.
use Rattle.std.proofs.Common.{◌≡◌, ◌∙◌, ℕ, ◌+◌, Bool, true, false, List, [], ◌∷◌, ◌++◌, length, map, Option, Some, None, refl, sym, ap, subst}
use Rattle.std.proofs.Common.{append_assoc, append-nil, arith, length-append}
use Rattle.std.specs.Prelude.{◌==◌, if◌then◌else◌}
use Rattle.std.specs.List.{flat_map, list_all}
use Rattle.std.proofs.lemmas.List.Folds.{list_all-append}
use Rattle.std.proofs.lemmas.Bool.{eqb-true, and_from}
use Rattle.nop_types.specs.Lines.{Line}
use Rattle.nop_types.specs.declared.request.Request.{Request}
use Rattle.transcript_reader.specs.Steps.{SoFar, nothing_yet, event_step, state_step, observer_step, member_step}
use Rattle.transcript_reader.specs.Steps.{end_step, step, run_on, run}
use Rattle.transcript_reader.specs.Transcripts.{is_event, is_state, is_watching, members, said_by, places_of}
use Rattle.transcript_reader.specs.declared.part.Part.{Part}
use Rattle.transcript_reader.specs.declared.part.Part.TheVariants.{Events, States, Observers, Members, Over}
use Rattle.transcript_rows.specs.declared.row.Row.{Row}
use Rattle.transcript_rows.specs.declared.row.Row.TheVariants.{State, Slot, Watching, Member, End}

abbrev pub ending : Part → List Row
ending Events = []
ending States = []
ending Observers = []
ending Members = []
ending Over = End ∷ []

-- what a part excludes
abbrev pub Excludes : Part → List Row → List Row → List Request → Type 0
Excludes Events states observers history = (states ≡ []) × (observers ≡ []) × (history ≡ [])
Excludes States states observers history = (observers ≡ []) × (history ≡ [])
Excludes Observers states observers history = history ≡ []
Excludes Members states observers history = Unit {0}
Excludes Over states observers history = Unit {0}

pub record Shape (rows : List Row) (s : SoFar) : Type 0 where
  pub events : List Row
  pub states : List Row
  pub observers : List Row
  pub are_events : list_all is_event events ≡ true
  pub are_states : list_all is_state states ≡ true
  pub are_watching : list_all is_watching observers ≡ true
  pub is : rows ≡ events ++ (states ++ (observers ++ (members 1 s.history ++ ending s.part)))
  pub excludes : Excludes s.part states observers s.history
  pub claims : s.said ≡ flat_map said_by events
  pub numbers : s.places ≡ places_of 2 events

-- ---- lists

all_with : (test : Row → Bool) (rows : List Row) (row : Row) → list_all test rows ≡ true → test row ≡ true
    → list_all test (rows ++ row ∷ []) ≡ true
all_with test rows row e f =
    list_all-append test rows (row ∷ [])
    ∙ and_from (list_all test rows) (list_all test (row ∷ [])) e (and_from (test row) true f refl)

said_with : (rows : List Row) (row : Row) → flat_map said_by (rows ++ row ∷ []) ≡ flat_map said_by rows ++ said_by row
said_with [] row = append-nil (said_by row)
said_with (r ∷ rows) row =
    ap (λ (xs : List Line). said_by r ++ xs) (said_with rows row) ∙ sym (append_assoc (said_by r) (flat_map said_by rows) (said_by row))

abbrev numbered : ℕ → Row → List ℕ
numbered line row = map (λ (l : Line). line) (said_by row)

places_with : (line : ℕ) (rows : List Row) (row : Row) (at : ℕ) → at ≡ length rows + line
    → places_of line (rows ++ row ∷ []) ≡ places_of line rows ++ numbered at row
places_with line [] row at e =
    let same : line ≡ at = omega arith in append-nil (numbered line row) ∙ ap (λ (n : ℕ). numbered n row) same
places_with line (r ∷ rows) row at e =
    ap (λ (xs : List ℕ). numbered line r ++ xs) (places_with (line + 1) rows row at (omega arith))
    ∙ sym (append_assoc (numbered line r) (places_of (line + 1) rows) (numbered at row))

members_with : (place : ℕ) (history : List Request) (r : Request) (at : ℕ) → at ≡ length history + place
    → members place (history ++ r ∷ []) ≡ members place history ++ Member at r ∷ []
members_with place [] r at e = let same : place ≡ at = omega arith in ap (λ (n : ℕ). Member n r ∷ []) same
members_with place (q ∷ history) r at e = ap (λ (xs : List Row). Member place q ∷ xs) (members_with (place + 1) history r at (omega arith))

-- ---- one row more

abbrev pub state_of : Part → List Line → List ℕ → List Request → SoFar
state_of part said places history = record { part = part; said = said; places = places; history = history }

module _ (rows : List Row) (row : Row) (said : List Line) (places : List ℕ) (history : List Request) where
  -- at events there is nothing else yet
  event_on : is_event row ≡ true → Shape rows (state_of Events said places history)
      → Shape (rows ++ row ∷ []) (state_of Events (said ++ said_by row) (places ++ numbered (length rows + 2) row) history)
  event_on test s =
      let alone : rows ≡ s.events = s.is ∙ rw (s.excludes.0, s.excludes.1, s.excludes.2) (append-nil s.events) in
      record {
        events = s.events ++ row ∷ [];
        states = s.states;
        observers = s.observers;
        are_events = all_with is_event s.events row s.are_events test;
        are_states = s.are_states;
        are_watching = s.are_watching;
        is = rw (s.excludes.0, s.excludes.1, s.excludes.2) (ap (λ (xs : List Row). xs ++ row ∷ []) alone ∙ sym (append-nil (s.events ++ row ∷ [])));
        excludes = s.excludes;
        claims = ap (λ (xs : List Line). xs ++ said_by row) s.claims ∙ sym (said_with s.events row);
        numbers = ap (λ (xs : List ℕ). xs ++ numbered (length rows + 2) row) s.numbers
            ∙ sym (places_with 2 s.events row (length rows + 2) (omega (arith, ap length alone)));
      }

  event_shape : (part : Part) (n : SoFar) → is_event row ≡ true → Shape rows (state_of part said places history)
      → event_step (length rows + 2) (state_of part said places history) (said_by row) ≡ Some n → Shape (rows ++ row ∷ []) n
  event_shape Events n test s e =
      let same : state_of Events (said ++ said_by row) (places ++ numbered (length rows + 2) row) history ≡ n = cc in
      subst (Shape (rows ++ row ∷ [])) same (event_on test s)
  event_shape _ n test s e = absurd cc

  state_on : (part : Part) → history ≡ [] → ending part ≡ [] → is_state row ≡ true → (s : Shape rows (state_of part said places history))
      → s.observers ≡ [] → Shape (rows ++ row ∷ []) (state_of States said places history)
  state_on part none free test s unwatched =
      let alone : rows ≡ s.events ++ s.states = s.is ∙ rw (unwatched, none, free) (ap (λ (xs : List Row). s.events ++ xs) (append-nil s.states)) in
      record {
        events = s.events;
        states = s.states ++ row ∷ [];
        observers = s.observers;
        are_events = s.are_events;
        are_states = all_with is_state s.states row s.are_states test;
        are_watching = s.are_watching;
        is = rw (unwatched, none) (ap (λ (xs : List Row). xs ++ row ∷ []) alone ∙ append_assoc s.events s.states (row ∷ [])
            ∙ ap (λ (xs : List Row). s.events ++ xs) (sym (append-nil (s.states ++ row ∷ []))));
        excludes = (unwatched, none);
        claims = s.claims;
        numbers = s.numbers;
      }

  state_shape : (part : Part) (n : SoFar) → is_state row ≡ true → Shape rows (state_of part said places history)
      → state_step (state_of part said places history) ≡ Some n → Shape (rows ++ row ∷ []) n
  state_shape Events n test s e =
      let same : state_of States said places history ≡ n = cc in
      subst (Shape (rows ++ row ∷ [])) same (state_on Events s.excludes.2 refl test s s.excludes.1)
  state_shape States n test s e =
      let same : state_of States said places history ≡ n = cc in
      subst (Shape (rows ++ row ∷ [])) same (state_on States s.excludes.1 refl test s s.excludes.0)
  state_shape Observers n test s e = absurd cc
  state_shape Members n test s e = absurd cc
  state_shape Over n test s e = absurd cc

  watching_on : (part : Part) → history ≡ [] → ending part ≡ [] → is_watching row ≡ true → Shape rows (state_of part said places history)
      → Shape (rows ++ row ∷ []) (state_of Observers said places history)
  watching_on part none free test s =
      let alone : rows ≡ s.events ++ (s.states ++ s.observers) =
      s.is ∙ rw (none, free) (ap (λ (xs : List Row). s.events ++ (s.states ++ xs)) (append-nil s.observers)) in
      record {
        events = s.events;
        states = s.states;
        observers = s.observers ++ row ∷ [];
        are_events = s.are_events;
        are_states = s.are_states;
        are_watching = all_with is_watching s.observers row s.are_watching test;
        is = rw none (ap (λ (xs : List Row). xs ++ row ∷ []) alone ∙ append_assoc s.events (s.states ++ s.observers) (row ∷ [])
            ∙ ap (λ (xs : List Row). s.events ++ xs) (append_assoc s.states s.observers (row ∷ []))
            ∙ ap (λ (xs : List Row). s.events ++ (s.states ++ xs)) (sym (append-nil (s.observers ++ row ∷ []))));
        excludes = none;
        claims = s.claims;
        numbers = s.numbers;
      }

  watching_shape : (part : Part) (n : SoFar) → is_watching row ≡ true → Shape rows (state_of part said places history)
      → observer_step (state_of part said places history) ≡ Some n → Shape (rows ++ row ∷ []) n
  watching_shape Events n test s e =
      let same : state_of Observers said places history ≡ n = cc in
      subst (Shape (rows ++ row ∷ [])) same (watching_on Events s.excludes.2 refl test s)
  watching_shape States n test s e =
      let same : state_of Observers said places history ≡ n = cc in
      subst (Shape (rows ++ row ∷ [])) same (watching_on States s.excludes.1 refl test s)
  watching_shape Observers n test s e =
      let same : state_of Observers said places history ≡ n = cc in
      subst (Shape (rows ++ row ∷ [])) same (watching_on Observers s.excludes refl test s)
  watching_shape Members n test s e = absurd cc
  watching_shape Over n test s e = absurd cc

module _ (rows : List Row) (said : List Line) (places : List ℕ) (history : List Request) where
  -- behind the members so far
  longer : (part : Part) (row : Row) (later : List Row) → ending part ≡ [] → (s : Shape rows (state_of part said places history))
      → members 1 history ++ row ∷ [] ≡ later → rows ++ row ∷ [] ≡ s.events ++ (s.states ++ (s.observers ++ later))
  longer part row later free s e =
      ap (λ (xs : List Row). xs ++ row ∷ [])
      (s.is ∙ rw free (ap (λ (xs : List Row). s.events ++ (s.states ++ (s.observers ++ xs))) (append-nil (members 1 history))))
      ∙ append_assoc s.events (s.states ++ (s.observers ++ members 1 history)) (row ∷ [])
      ∙ ap (λ (xs : List Row). s.events ++ xs) (append_assoc s.states (s.observers ++ members 1 history) (row ∷ []))
      ∙ ap (λ (xs : List Row). s.events ++ (s.states ++ xs)) (append_assoc s.observers (members 1 history) (row ∷ []))
      ∙ ap (λ (xs : List Row). s.events ++ (s.states ++ (s.observers ++ xs))) e

  member_on : (part : Part) (place : ℕ) (r : Request) → ending part ≡ [] → place ≡ length history + 1
      → Shape rows (state_of part said places history)
      → Shape (rows ++ Member place r ∷ []) (state_of Members said places (history ++ r ∷ []))
  member_on part place r free at s = record {
    events = s.events;
    states = s.states;
    observers = s.observers;
    are_events = s.are_events;
    are_states = s.are_states;
    are_watching = s.are_watching;
    is = longer part (Member place r) (members 1 (history ++ r ∷ []) ++ []) free s
        (sym (members_with 1 history r place at) ∙ sym (append-nil (members 1 (history ++ r ∷ []))));
    excludes = tt;
    claims = s.claims;
    numbers = s.numbers;
  }

  end_on : (part : Part) → ending part ≡ [] → Shape rows (state_of part said places history)
      → Shape (rows ++ End ∷ []) (state_of Over said places history)
  end_on part free s = record {
    events = s.events;
    states = s.states;
    observers = s.observers;
    are_events = s.are_events;
    are_states = s.are_states;
    are_watching = s.are_watching;
    is = longer part End (members 1 history ++ End ∷ []) free s refl;
    excludes = tt;
    claims = s.claims;
    numbers = s.numbers;
  }

  end_shape : (part : Part) (n : SoFar) → Shape rows (state_of part said places history)
      → end_step (state_of part said places history) ≡ Some n → Shape (rows ++ End ∷ []) n
  end_shape Events n s e =
      let same : state_of Over said places history ≡ n = cc in subst (Shape (rows ++ End ∷ [])) same (end_on Events refl s)
  end_shape States n s e =
      let same : state_of Over said places history ≡ n = cc in subst (Shape (rows ++ End ∷ [])) same (end_on States refl s)
  end_shape Observers n s e =
      let same : state_of Over said places history ≡ n = cc in subst (Shape (rows ++ End ∷ [])) same (end_on Observers refl s)
  end_shape Members n s e =
      let same : state_of Over said places history ≡ n = cc in subst (Shape (rows ++ End ∷ [])) same (end_on Members refl s)
  end_shape Over n s e = absurd cc

  placed : (b : Bool) (n m : SoFar) → (if b then Some m else None) ≡ Some n → (b ≡ true) × (m ≡ n)
  placed true n m e = (refl, cc)
  placed false n m e = absurd cc

  member_by : (part : Part) (place : ℕ) (r : Request) (n : SoFar) → ending part ≡ [] → Shape rows (state_of part said places history)
      → (if place == length history + 1 then Some (state_of Members said places (history ++ r ∷ [])) else None) ≡ Some n
      → Shape (rows ++ Member place r ∷ []) n
  member_by part place r n free s e =
      let p = placed (place == length history + 1) n (state_of Members said places (history ++ r ∷ [])) e in
      subst (Shape (rows ++ Member place r ∷ [])) p.1
      (member_on part place r free (eqb-true place (length history + 1) p.0) s)

  member_shape : (part : Part) (place : ℕ) (r : Request) (n : SoFar) → Shape rows (state_of part said places history)
      → member_step (state_of part said places history) place r ≡ Some n → Shape (rows ++ Member place r ∷ []) n
  member_shape Events place r n s e = member_by Events place r n refl s e
  member_shape States place r n s e = member_by States place r n refl s e
  member_shape Observers place r n s e = member_by Observers place r n refl s e
  member_shape Members place r n s e = member_by Members place r n refl s e
  member_shape Over place r n s e = absurd cc

pub one_more : (rows : List Row) (row : Row) (s n : SoFar) → Shape rows s → step (length rows + 2) s row ≡ Some n → Shape (rows ++ row ∷ []) n
one_more rows (State replica crashed status view len sync_point) s n shape e =
    state_shape rows (State replica crashed status view len sync_point) s.said s.places s.history s.part n refl shape e
one_more rows (Slot replica slot entry) s n shape e = state_shape rows (Slot replica slot entry) s.said s.places s.history s.part n refl shape e
one_more rows (Watching observer crashed position) s n shape e =
    watching_shape rows (Watching observer crashed position) s.said s.places s.history s.part n refl shape e
one_more rows (Member place request) s n shape e = member_shape rows s.said s.places s.history s.part place request n shape e
one_more rows End s n shape e = end_shape rows s.said s.places s.history s.part n shape e
one_more rows x s n shape e = event_shape rows x s.said s.places s.history s.part n refl shape e

-- ---- all rows

pub none_runs : (line : ℕ) (rows : List Row) → run_on None line rows ≡ None
none_runs line [] = refl
none_runs line (row ∷ rows) = refl

-- a run goes on with one row
pub run_with : (s : Option SoFar) (line : ℕ) (rows : List Row) (row : Row) (m : SoFar) (at : ℕ) → at ≡ length rows + line
    → run_on s line rows ≡ Some m → run_on s line (rows ++ row ∷ []) ≡ step at m row
run_with None line [] row m at e ran = absurd cc
run_with (Some s) line [] row m at e ran =
    let same : s ≡ m = cc in let place : line ≡ at = omega arith in
    ap (λ (x : SoFar). step line x row) same ∙ ap (λ (k : ℕ). step k m row) place
run_with None line (r ∷ rows) row m at e ran = absurd cc
run_with (Some s) line (r ∷ rows) row m at e ran = run_with (step line s r) (line + 1) rows row m at (omega arith) ran

pub nothing_shape : Shape [] nothing_yet
nothing_shape = record {
  events = [];
  states = [];
  observers = [];
  are_events = refl;
  are_states = refl;
  are_watching = refl;
  is = refl;
  excludes = (refl, refl, refl);
  claims = refl;
  numbers = refl;
}

cons_case : (done : List Row) (row : Row) (rows : List Row) (line : ℕ) (s n : SoFar) → line ≡ length done + 2 → Shape done s
    → ((m : SoFar) → run_on (Some m) (line + 1) rows ≡ Some n → Shape (done ++ row ∷ []) m → Shape ((done ++ row ∷ []) ++ rows) n)
    → (o : Option SoFar) → step line s row ≡ o → run_on o (line + 1) rows ≡ Some n → Shape (done ++ row ∷ rows) n
cons_case done row rows line s n at shape later None is e =
    absurd (let none : None ≡ Some n = sym (none_runs (line + 1) rows) ∙ e in cc)
cons_case done row rows line s n at shape later (Some m) is e =
    subst (λ (xs : List Row). Shape xs n) (append_assoc done (row ∷ []) rows)
    (later m e (one_more done row s m shape (ap (λ (k : ℕ). step k s row) (sym at) ∙ is)))

shapes : (rows done : List Row) (line : ℕ) (s n : SoFar) → line ≡ length done + 2 → Shape done s → run_on (Some s) line rows ≡ Some n
    → Shape (done ++ rows) n
shapes [] done line s n at shape e =
    let same : s ≡ n = cc in subst (λ (x : SoFar). Shape (done ++ []) x) same (subst (λ (xs : List Row). Shape xs s) (sym (append-nil done)) shape)
shapes (row ∷ rows) done line s n at shape e =
    cons_case done row rows line s n at shape
    (λ m run with_row. shapes rows (done ++ row ∷ []) (line + 1) m n (omega (arith, length-append done (row ∷ []))) with_row run)
    (step line s row) refl e

pub shape_of : (rows : List Row) (s : SoFar) → run rows ≡ Some s → Shape rows s
shape_of rows s e = shapes rows [] 2 nothing_yet s refl nothing_shape e
