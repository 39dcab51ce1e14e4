-- Rows of traces as steps of the world, and the first fault.
use Rattle.std.specs.Prelude.{◌≡◌, ℕ, ◌+◌, ◌==◌, ⊤, List, [], ◌∷◌, ◌++◌, map, Bool, true, false, ◌&&◌, Option, Some, None, Result, Ok, Err}
use Rattle.std.specs.Prelude.{if◌then◌else◌}
use Rattle.std.specs.List.{flat_map}
use Rattle.std.specs.Str.{bytes_eq}
use Rattle.nop_types.specs.Configuration.{Configuration}
use Rattle.nop_types.specs.Legality.{Legal}
use Rattle.nop_types.specs.Lines.{Line}
use Rattle.nop_types.specs.Lines as lines
use Rattle.nop_types.specs.Meaning.{Meaning}
use Rattle.nop_types.specs.declared.datagram.Datagram.{Datagram}
use Rattle.nop_types.specs.declared.input.Tick.{Tick}
use Rattle.nop_types.specs.declared.output.Actor.{Actor}
use Rattle.nop_types.specs.declared.output.Actor.TheVariants.{Client, Controller}
use Rattle.oum_codec.specs.declared.bad.Bad.{Bad}
use Rattle.oum_codec.specs.Reading.{reading}
use Rattle.judge.specs.Saying.{claiming}
use Rattle.schedule_text.specs.Ticks.{takes_tick}
use Rattle.schedule_text.specs.declared.event.Event.{Event}
use Rattle.schedule_text.specs.declared.event.Event.TheVariants as events
use Rattle.network.specs.Finding.{first_index}
use Rattle.network.specs.Network.{Sent}
use Rattle.trace_rows.specs.declared.row.Gave.{Gave}
use Rattle.trace_rows.specs.declared.row.Gave.TheVariants as gaves
use Rattle.trace_rows.specs.declared.row.Row.{Row}
use Rattle.trace_rows.specs.declared.row.Row.TheVariants.{In, Out}
use Rattle.trace_rows.specs.declared.row.Taken.{Taken}
use Rattle.trace_rows.specs.declared.row.Taken.TheVariants as takens
use Rattle.trace_rows.specs.TracedRows.{name_as}
use Rattle.world.specs.Refusals.{is_actor}
use Rattle.world.specs.WorldSteps.{WorldState, Happened, Refusal, history, opening, step}
use Rattle.audit_laws.specs.Names.{same_actor, actor_in, number_within, is_number, names_dest}
use Rattle.audit_laws.specs.declared.fault.Fault.{Fault}
use Rattle.audit_laws.specs.declared.fault.Fault.TheVariants.{Misspelled, Misplaced, Unsent, Unlike}

abbrev pub fault_number : Fault → ℕ
fault_number Misspelled = 1
fault_number Misplaced = 2
fault_number Unsent = 3
fault_number Unlike = 4

-- ---- the event of an input

abbrev pub found_event : Actor → Option ℕ → Result Event Fault
found_event a None = Err Unsent
found_event a (Some index) = Ok (events.Deliver index a)

-- the first datagram that was sent with these bytes, or bytes that spell none
abbrev pub packet_event : List Sent → Actor → List ℕ → Result Datagram Bad → Result Event Fault
packet_event sent a bytes (Ok d) = found_event a (first_index bytes sent)
packet_event sent a bytes (Err e) = Ok (events.Junk a bytes)

abbrev pub tick_event : Actor → Tick → Result Event Fault
tick_event a tick = if takes_tick a tick then Ok (events.Tick a tick) else Err Misplaced

abbrev pub submit_event : Actor → List ℕ → Result Event Fault
submit_event (Client c) op = Ok (events.Submit c op)
submit_event _ op = Err Misplaced

-- a client asks an observer that is there
abbrev pub read_event : Actor → Option ℕ → List ℕ → Result Event Fault
read_event (Client c) (Some o) key = Ok (events.Read c o key)
read_event _ _ key = Err Misplaced

-- a controller is to move to a sequencer that is there
abbrev pub install_event : Actor → Option ℕ → Result Event Fault
install_event (Controller k) (Some j) = Ok (events.Install k j)
install_event _ _ = Err Misplaced

-- what an actor takes as an event, where these datagrams were sent
abbrev pub event_of : Configuration → List Sent → Actor → Taken → Result Event Fault
event_of c sent a (takens.Packet bytes) = packet_event sent a bytes (reading bytes)
event_of c sent a (takens.Tick tick) = tick_event a tick
event_of c sent a (takens.Submit op) = submit_event a op
event_of c sent a (takens.Read observer key) = read_event a (number_within c.observers observer) key
event_of c sent a (takens.Install sequencer) = install_event a (number_within c.sequencers sequencer)

-- ---- the line of an output

-- whether what an actor gave is what a line tells: of a send whatever its index. That a client was busy, and that an actor had crashed,
-- is in no trace
abbrev pub says : Actor → Gave → Line → Bool
says a (gaves.Send to datagram) (lines.Send index from dest sent) = same_actor a from && (names_dest to dest && bytes_eq datagram sent)
says a (gaves.Submit id op) (lines.Submit r) = same_actor a (Client r.client) && ((id == r.id) && bytes_eq op r.op)
says a (gaves.Accept id result) (lines.Accept client other given) =
    same_actor a (Client client) && ((id == other) && bytes_eq result given)
says a (gaves.Read id number key) (lines.Read client other observer asked) =
    same_actor a (Client client) && ((id == other) && (is_number number observer && bytes_eq key asked))
says a (gaves.Answer id number position result) (lines.Answer client other observer at given) =
    same_actor a (Client client)
    && ((id == other) && (is_number number observer && ((position == at) && bytes_eq result given)))
says a _ line = false

-- ---- row by row

-- the world and the lines so far, the events, and the lines of the last step whose rows are still to come
pub record SoFar : Type 0 where
  pub world : WorldState
  pub lines : List Line
  pub events : List Event
  pub missing : List Line
  -- whose step it was
  pub actor : Actor

abbrev pub starts : Configuration → SoFar
starts c = record { world = opening c; lines = []; events = []; missing = []; actor = Controller 0 }

abbrev pub happened_in : SoFar → Happened
happened_in s = record { world = s.world; lines = s.lines }

abbrev pub is_none : List Line → Bool
is_none [] = true
is_none (l ∷ ls) = false

abbrev pub goes : SoFar → Actor → Event → Result Happened Refusal → Result SoFar Fault
goes s a e (Err refusal) = Err Misplaced
goes s a e (Ok h) =
    Ok (record { world = h.world; lines = s.lines ++ h.lines; events = s.events ++ e ∷ []; missing = h.lines; actor = a })

-- the next line that is missing
abbrev pub gives : SoFar → Option Actor → Gave → List Line → Result SoFar Fault
gives s None gave ls = Err Misplaced
gives s (Some a) gave [] = Err Unlike
gives s (Some a) gave (l ∷ ls) = if same_actor a s.actor && says a gave l then Ok (record s { missing = ls }) else Err Unlike

module _ {S : Type 0} (m : Meaning S) where
  abbrev pub goes_by : SoFar → Actor → Result Event Fault → Result SoFar Fault
  goes_by s a (Err fault) = Err fault
  goes_by s a (Ok e) = goes s a e (step m s.world e)

  abbrev pub takes : SoFar → Option Actor → Taken → Result SoFar Fault
  takes s None taken = Err Misplaced
  takes s (Some a) taken = goes_by s a (event_of s.world.config s.world.sent a taken)

  -- at an input, an output that is missing comes before its actor
  abbrev pub row : SoFar → Row → Result SoFar Fault
  row s (In name taken) = if is_none s.missing then takes s (actor_in s.world.config name) taken else Err Unlike
  row s (Out name gave) = gives s (actor_in s.world.config name) gave s.missing

  -- a fault with the place of its row; at the end an output may be missing
  abbrev pub ends : ℕ → SoFar → Bool → Result SoFar (ℕ × Fault)
  ends k s true = Ok s
  ends k s false = Err (k, Unlike)

  abbrev pub go_on : ℕ → Result SoFar Fault → (SoFar → Result SoFar (ℕ × Fault)) → Result SoFar (ℕ × Fault)
  go_on k (Err fault) f = Err (k, fault)
  go_on k (Ok s) f = f s

  -- of the rows from here on, of which the first is the k-th
  abbrev pub audited : ℕ → SoFar → List Row → Result SoFar (ℕ × Fault)
  audited k s [] = ends k s (is_none s.missing)
  audited k s (r ∷ rs) = go_on k (row s r) (λ t. audited (k + 1) t rs)

-- ---- steps

-- a step of an actor, as its trace has it
pub record Step : Type 0 where
  pub actor : Actor
  pub taken : Taken
  pub outputs : List Gave

abbrev pub step_rows : Step → List Row
step_rows x = In (name_as x.actor) x.taken ∷ map (Out (name_as x.actor)) x.outputs

-- the outputs are those that the lines tell
abbrev pub AllSay : Actor → List Gave → List Line → Type 0
AllSay a [] [] = ⊤
AllSay a [] (l ∷ ls) = ⊥
AllSay a (o ∷ os) [] = ⊥
AllSay a (o ∷ os) (l ∷ ls) = (says a o l ≡ true) × AllSay a os ls

module _ {S : Type 0} (m : Meaning S) where
  -- the step is its actor's in this world, and a packet that spells a datagram was sent before
  pub record IsStep (w : WorldState) (x : Step) (e : Event) (h : Happened) : Type 0 where
    pub there : is_actor w.config x.actor ≡ true
    pub event : event_of w.config w.sent x.actor x.taken ≡ Ok e
    pub happens : step m w e ≡ Ok h
    pub outputs : AllSay x.actor x.outputs h.lines

  -- one after the other
  pub data Follows : WorldState → List Step → List Event → Happened → Type 0 where
    Ends : (w : WorldState) → Follows w [] [] (record { world = w; lines = [] })
    Goes : (w : WorldState) (x : Step) (e : Event) (h : Happened) (xs : List Step) (es : List Event) (v : Happened)
        → IsStep w x e h → Follows h.world xs es v
        → Follows w (x ∷ xs) (e ∷ es) (record { world = v.world; lines = h.lines ++ v.lines })

  -- the rows are those of steps, one after the other
  pub record Audits (c : Configuration) (rows : List Row) (s : SoFar) : Type 0 where
    pub steps : List Step
    pub are : rows ≡ flat_map step_rows steps
    pub follows : Follows (opening c) steps s.events (happened_in s)

  -- rows are audited without a fault, from this state on, and lead here
  pub record Passes (k : ℕ) (s : SoFar) (rows : List Row) (es : List Event) (v : Happened) : Type 0 where
    pub now : SoFar
    pub is : audited m k s rows ≡ Ok now
    pub world : now.world ≡ v.world
    pub lines : now.lines ≡ s.lines ++ v.lines
    pub events : now.events ≡ s.events ++ es

-- ---- what a trace claims

-- the line that an output claims: only clients submit and accept
abbrev pub claim_of : Gave → Actor → List Line
claim_of (gaves.Submit id op) (Client c) = lines.Submit (record { client = c; id = id; op = op }) ∷ []
claim_of (gaves.Accept id result) (Client c) = lines.Accept c id result ∷ []
claim_of _ a = []

abbrev pub claims_of : Actor → List Gave → List Line
claims_of a [] = []
claims_of a (o ∷ os) = claim_of o a ++ claims_of a os

abbrev pub claims_in : List Step → List Line
claims_in [] = []
claims_in (x ∷ xs) = claims_of x.actor x.outputs ++ claims_in xs

-- what a trace says was submitted and accepted is what the run tells, and legal of its history
pub record Claims {S : Type 0} (m : Meaning S) (steps : List Step) (h : Happened) : Type 0 where
  pub same : claims_in steps ≡ claiming h.lines
  pub legal : Legal m (claims_in steps) (history h.world)
