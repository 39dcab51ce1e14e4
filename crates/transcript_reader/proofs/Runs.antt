-- The rows of a transcript, taken one after the other, are each in their place, and give what the transcript says.
use Rattle.std.proofs.Common.{◌≡◌, ◌∙◌, ℕ, ◌+◌, true, false, List, [], ◌∷◌, ◌++◌, length, map, Option, Some, None, refl, sym, ap}
use Rattle.std.proofs.Common.{append_assoc, append-nil, arith, length-append}
use Rattle.std.specs.List.{flat_map, list_all}
use Rattle.std.proofs.lemmas.Bool.{and_parts, eq-eqb, false≢true}
use Rattle.nop_types.specs.Lines.{Line}
use Rattle.nop_types.specs.declared.request.Request.{Request}
use Rattle.transcript_reader.proofs.Shapes.{state_of, none_runs}
use Rattle.transcript_reader.specs.Steps.{SoFar, nothing_yet, is_over, may_have_states, may_have_observers, step, run_on, run}
use Rattle.transcript_reader.specs.Transcripts.{Transcript, TranscriptFits, is_event, is_state, is_watching, members, body, said_by, said}
use Rattle.transcript_reader.specs.Transcripts.{places_of}
use Rattle.transcript_reader.specs.declared.part.Part.{Part}
use Rattle.transcript_reader.specs.declared.part.Part.TheVariants.{Events, States, Observers, Members, Over}
use Rattle.transcript_rows.specs.declared.row.Row.{Row}
use Rattle.transcript_rows.specs.declared.row.Row.TheVariants.{Dead, Submit, Accept, Busy, Read, Answer, Sent, State, Slot, Watching}
use Rattle.transcript_rows.specs.declared.row.Row.TheVariants.{Member, End}

-- a run over some rows goes on with others
pub then_run : (xs ys : List Row) (o p : Option SoFar) (line next : ℕ) → next ≡ length xs + line → run_on o line xs ≡ p
    → run_on o line (xs ++ ys) ≡ run_on p next ys
then_run [] ys o p line next at e = let same : line ≡ next = omega arith in ap (λ (k : ℕ). run_on o k ys) same ∙ ap (λ (q : Option SoFar). run_on q next ys) e
then_run (x ∷ xs) ys None p line next at e = sym (none_runs next ys) ∙ ap (λ (q : Option SoFar). run_on q next ys) e
then_run (x ∷ xs) ys (Some s) p line next at e = then_run xs ys (step line s x) p (line + 1) next (omega arith) e

abbrev numbered : ℕ → Row → List ℕ
numbered line row = map (λ (l : Line). line) (said_by row)

-- ---- events

event_taken : (row : Row) → is_event row ≡ true → (line : ℕ) (claims : List Line) (places : List ℕ) (history : List Request)
    → step line (state_of Events claims places history) row ≡ Some (state_of Events (claims ++ said_by row) (places ++ numbered line row) history)
event_taken (Dead actor) e line claims places history = refl
event_taken (Submit request) e line claims places history = refl
event_taken (Accept client id result) e line claims places history = refl
event_taken (Busy client) e line claims places history = refl
event_taken (Read client id observer key) e line claims places history = refl
event_taken (Answer client id observer position result) e line claims places history = refl
event_taken (Sent index from dest kind len) e line claims places history = refl
event_taken _ e line claims places history = absurd (false≢true e)

module _ (history : List Request) where
  events_run : (events : List Row) → list_all is_event events ≡ true → (line : ℕ) (claims : List Line) (places : List ℕ)
      → run_on (Some (state_of Events claims places history)) line events
      ≡ Some (state_of Events (claims ++ flat_map said_by events) (places ++ places_of line events) history)
  events_run [] e line claims places =
      ap (λ (xs : List Line). Some (state_of Events xs places history)) (sym (append-nil claims))
      ∙ ap (λ (xs : List ℕ). Some (state_of Events (claims ++ []) xs history)) (sym (append-nil places))
  events_run (row ∷ rows) e line claims places =
      let p = and_parts (is_event row) (list_all is_event rows) e in
      ap (λ (o : Option SoFar). run_on o (line + 1) rows) (event_taken row p.0 line claims places history)
      ∙ events_run rows p.1 (line + 1) (claims ++ said_by row) (places ++ numbered line row)
      ∙ ap (λ (xs : List Line). Some (state_of Events xs ((places ++ numbered line row) ++ places_of (line + 1) rows) history))
      (append_assoc claims (said_by row) (flat_map said_by rows))
      ∙ ap (λ (xs : List ℕ). Some (state_of Events (claims ++ flat_map said_by (row ∷ rows)) xs history))
      (append_assoc places (numbered line row) (places_of (line + 1) rows))

-- ---- states, observers, members and the end

module _ (claims : List Line) (places : List ℕ) where
  abbrev at : Part → List Request → SoFar
  at part history = state_of part claims places history

  -- in some part before the end
  record Comes (o : Option SoFar) (history : List Request) : Type 0 where
    part : Part
    open_end : is_over part ≡ false
    is : o ≡ Some (at part history)

  -- in some part before the history
  record Stands (o : Option SoFar) (history : List Request) : Type 0 where
    part : Part
    may : may_have_observers part ≡ true
    is : o ≡ Some (at part history)

  state_taken : (row : Row) → is_state row ≡ true → (part : Part) → may_have_states part ≡ true → (line : ℕ) (history : List Request)
      → step line (at part history) row ≡ Some (at States history)
  state_taken (State replica crashed status view len sync_point) e part may line history = rw may refl
  state_taken (Slot replica slot entry) e part may line history = rw may refl
  state_taken _ e part may line history = absurd (false≢true e)

  before_observers : (part : Part) → may_have_states part ≡ true → may_have_observers part ≡ true
  before_observers Events e = refl
  before_observers States e = refl
  before_observers Observers e = absurd (false≢true e)
  before_observers Members e = absurd (false≢true e)
  before_observers Over e = absurd (false≢true e)

  states_run : (states : List Row) → list_all is_state states ≡ true → (part : Part) → may_have_states part ≡ true → (line : ℕ)
      (history : List Request) → Stands (run_on (Some (at part history)) line states) history
  states_run [] e part may line history = record { part = part; may = before_observers part may; is = refl }
  states_run (row ∷ rows) e part may line history =
      let p = and_parts (is_state row) (list_all is_state rows) e in
      let rest = states_run rows p.1 States refl (line + 1) history in
      record {
        part = rest.part;
        may = rest.may;
        is = ap (λ (o : Option SoFar). run_on o (line + 1) rows) (state_taken row p.0 part may line history) ∙ rest.is;
      }

  watching_taken : (row : Row) → is_watching row ≡ true → (part : Part) → may_have_observers part ≡ true → (line : ℕ) (history : List Request)
      → step line (at part history) row ≡ Some (at Observers history)
  watching_taken (Watching observer crashed position) e part may line history = rw may refl
  watching_taken _ e part may line history = absurd (false≢true e)

  before_end : (part : Part) → may_have_observers part ≡ true → is_over part ≡ false
  before_end Events e = refl
  before_end States e = refl
  before_end Observers e = refl
  before_end Members e = absurd (false≢true e)
  before_end Over e = absurd (false≢true e)

  observers_run : (observers : List Row) → list_all is_watching observers ≡ true → (part : Part) → may_have_observers part ≡ true → (line : ℕ)
      (history : List Request) → Comes (run_on (Some (at part history)) line observers) history
  observers_run [] e part may line history = record { part = part; open_end = before_end part may; is = refl }
  observers_run (row ∷ rows) e part may line history =
      let p = and_parts (is_watching row) (list_all is_watching rows) e in
      let rest = observers_run rows p.1 Observers refl (line + 1) history in
      record {
        part = rest.part;
        open_end = rest.open_end;
        is = ap (λ (o : Option SoFar). run_on o (line + 1) rows) (watching_taken row p.0 part may line history) ∙ rest.is;
      }

  member_taken : (part : Part) → is_over part ≡ false → (line place : ℕ) (r : Request) (history : List Request) → place ≡ length history + 1
      → step line (at part history) (Member place r) ≡ Some (at Members (history ++ r ∷ []))
  member_taken part open_end line place r history e = rw (open_end, eq-eqb place (length history + 1) e) refl

  members_run : (rest : List Request) (part : Part) → is_over part ≡ false → (line place : ℕ) (history : List Request)
      → place ≡ length history + 1 → Comes (run_on (Some (at part history)) line (members place rest)) (history ++ rest)
  members_run [] part open_end line place history e = record {
    part = part;
    open_end = open_end;
    is = ap (λ (xs : List Request). Some (at part xs)) (sym (append-nil history));
  }
  members_run (r ∷ rest) part open_end line place history e =
      let later = members_run rest Members refl (line + 1) (place + 1) (history ++ r ∷ []) (omega (arith, length-append history (r ∷ []))) in
      record {
        part = later.part;
        open_end = later.open_end;
        is = ap (λ (o : Option SoFar). run_on o (line + 1) (members (place + 1) rest)) (member_taken part open_end line place r history e)
            ∙ later.is ∙ ap (λ (xs : List Request). Some (at later.part xs)) (append_assoc history (r ∷ []) rest);
      }

  end_taken : (part : Part) → is_over part ≡ false → (line : ℕ) (history : List Request)
      → run_on (Some (at part history)) line (End ∷ []) ≡ Some (at Over history)
  end_taken part open_end line history = rw open_end refl

  -- the observers, the members and the end
  behind_states : (observers : List Row) → list_all is_watching observers ≡ true → (part : Part) → may_have_observers part ≡ true
      → (history : List Request) (line : ℕ)
      → run_on (Some (at part [])) line (observers ++ (members 1 history ++ End ∷ [])) ≡ Some (at Over history)
  behind_states observers e part may history line =
      let first = observers_run observers e part may line [] in
      let second = members_run history first.part first.open_end (length observers + line) 1 [] refl in
      let third = length (members 1 history) + (length observers + line) in
      then_run observers (members 1 history ++ End ∷ []) (Some (at part [])) (Some (at first.part [])) line (length observers + line) refl
      first.is
      ∙ then_run (members 1 history) (End ∷ []) (Some (at first.part [])) (Some (at second.part history)) (length observers + line) third refl
      second.is
      ∙ end_taken second.part second.open_end third history

  behind_events : (states observers : List Row) → list_all is_state states ≡ true → list_all is_watching observers ≡ true
      → (history : List Request) (line : ℕ)
      → run_on (Some (at Events [])) line (states ++ (observers ++ (members 1 history ++ End ∷ []))) ≡ Some (at Over history)
  behind_events states observers e f history line =
      let first = states_run states e Events refl line [] in
      then_run states (observers ++ (members 1 history ++ End ∷ [])) (Some (at Events [])) (Some (at first.part [])) line
      (length states + line) refl first.is
      ∙ behind_states observers f first.part first.may history (length states + line)

-- ---- all rows

abbrev pub what_it_says : Transcript → SoFar
what_it_says t = record { part = Over; said = said t; places = places_of 2 t.events; history = t.history }

pub body_runs : (t : Transcript) → TranscriptFits t → run (body t) ≡ Some (what_it_says t)
body_runs t fits =
    then_run t.events (t.states ++ (t.observers ++ (members 1 t.history ++ End ∷ []))) (Some nothing_yet)
    (Some (state_of Events (said t) (places_of 2 t.events) [])) 2 (length t.events + 2) refl (events_run [] t.events fits.events 2 [] [])
    ∙ behind_events (said t) (places_of 2 t.events) t.states t.observers fits.states fits.observers t.history (length t.events + 2)
