-- What each event of the real world brings in the whole one, and what of both worlds is the same afterwards.
use Rattle.std.specs.Prelude.{◌≡◌, List, [], ◌∷◌, Bool, true, false, not, ◌&&◌, Option, Some, None, Result, Ok, Err, ℕ, map, slice_get, filter}
use Rattle.nop_types.specs.Configuration.{Configuration, is_configuration}
use Rattle.nop_types.specs.Meaning.{Meaning}
use Rattle.nop_types.specs.Lines.{Line}
use Rattle.nop_types.specs.Lines as lines
use Rattle.nop_types.specs.declared.datagram.Datagram.{Datagram}
use Rattle.nop_types.specs.declared.datagram.Datagram.TheVariants as datagrams
use Rattle.nop_types.specs.declared.datagram.Fragment.{Fragment}
use Rattle.nop_types.specs.declared.input.Tick.TheVariants as ticks
use Rattle.nop_types.specs.declared.output.Actor.{Actor}
use Rattle.nop_types.specs.declared.output.Actor.TheVariants as actors
use Rattle.nop_types.specs.declared.peer.Peer.{Peer}
use Rattle.nop_types.specs.Lists.{Has}
use Rattle.oum_codec.specs.declared.bad.Bad.{Bad}
use Rattle.oum_codec.specs.Reading.{reading}
use Rattle.fragments.specs.Joining.{Waiting, taken}
use Rattle.fragments.specs.Runs as fragments
use Rattle.fragments.specs.Runs.{AllCame}
use Rattle.peer_codec.specs.Reading as peers
use Rattle.peer_codec.specs.Spelling.{spelling}
use Rattle.replica_state.specs.State.{is_other}
use Rattle.trimmed_rows.specs.Trimmed.{trimmed, trimmed_peer}
use Rattle.replica_core.specs.ReplicaSteps.{Replica}
use Rattle.schedule_text.specs.declared.event.Event.{Event}
use Rattle.schedule_text.specs.declared.event.Event.TheVariants as events
use Rattle.schedule_text.specs.Fits.{EventsFit}
use Rattle.network.specs.Network.{Sent}
use Rattle.world.specs.Archive.{with_archive}
use Rattle.world.specs.Seats.{Seated}
use Rattle.world.specs.StateLines.{replicas_text}
use Rattle.world.specs.WorldSteps.{WorldState, Happened, Refusal, actor_of, step, opening, run, main_log, history}
use Rattle.network_laws.specs.Network.{fragments_among, Network}
use Rattle.whole_world.specs.Shows.{peers_of}
use Rattle.whole_world.specs.Whole as whole
use Rattle.whole_world.specs.Whole.{WholeReplica, WholeWorld, Letter, Brings, Nothing, Op, Ask, Timer, Junk, Equal}
use Rattle.whole_world.specs.Whole.{Heard, Message, Crash, letter_of, whole_run}

-- ---- what an event delivers

-- a fragment delivers the message that it completes, if it does
abbrev pub completes : Fragment → Option (List ℕ) → Brings
completes f None = Nothing
completes f (Some bytes) = Message f.replica f.message

-- no replica takes its own
abbrev pub fragment_if : Bool → Replica → Fragment → Brings
fragment_if true s f = completes f (taken s.reassembly f).1
fragment_if false s f = Nothing

-- a crashed replica takes none
abbrev pub fragment_at : Option (Seated Replica) → Fragment → Brings
fragment_at None f = Nothing
fragment_at (Some p) f = fragment_if (not p.crashed && is_other p.state.state f.replica) p.state f

abbrev pub fragment_to : WorldState → Actor → Fragment → Brings
fragment_to t (actors.Replica i) f = fragment_at (slice_get t.replicas i) f
fragment_to t _ f = Nothing

-- an answer is heard, as from nowhere; any other datagram brings itself
abbrev pub datagram_to : WorldState → Actor → List ℕ → Result Datagram Bad → Brings
datagram_to t a bytes (Ok (datagrams.Fragment f)) = fragment_to t a f
datagram_to t a bytes (Ok (datagrams.Answer x)) = Heard bytes
datagram_to t a bytes _ = Equal bytes

abbrev pub sent_to : WorldState → Actor → Option Sent → Brings
sent_to t a None = Nothing
sent_to t a (Some s) = datagram_to t a s.bytes (reading s.bytes)

-- by the world before the event; what comes to an observer changes nothing there
abbrev pub brought : WorldState → Event → Brings
brought t (events.Submit client op) = Op op
brought t (events.Deliver index actor) = sent_to t actor (slice_get t.sent index)
brought t (events.Tick actor tick) = Timer tick
brought t (events.Install controller sequencer) = Timer (ticks.Install sequencer)
brought t (events.Read client observer key) = Ask observer key
brought t (events.Crash actor) = Crash
brought t (events.Junk actor bytes) = Junk bytes

-- ---- what all events bring

abbrev pub rest_brings : Result Happened Refusal → (WorldState → List (Actor × Brings)) → List (Actor × Brings)
rest_brings (Err refusal) f = []
rest_brings (Ok h) f = f h.world

abbrev pub brought_from : {S : Type 0} → Meaning S → WorldState → List Event → List (Actor × Brings)
brought_from m t [] = []
brought_from m t (e ∷ es) = (actor_of e, brought t e) ∷ rest_brings (step m t e) (λ v. brought_from m v es)

-- what the events bring one after the other, up to the first that is refused
abbrev pub all_brought : {S : Type 0} → Meaning S → Configuration → List Event → List (Actor × Brings)
all_brought m config es = brought_from m (opening config) es

-- the whole world after what the events bring
abbrev pub whole_after : {S : Type 0} → Meaning S → Configuration → List Event → WholeWorld
whole_after m config es = whole_run m (whole.opening config) (all_brought m config es)

-- ---- what is the same

-- lines that submit, accept, or find a client busy
abbrev pub is_spoken : Line → Bool
is_spoken (lines.Submit r) = true
is_spoken (lines.Accept client id result) = true
is_spoken (lines.Busy client) = true
is_spoken _ = false

abbrev pub spoken : List Line → List Line
spoken ls = filter is_spoken ls

abbrev pub is_fragment : Result Datagram Bad → Bool
is_fragment (Ok (datagrams.Fragment f)) = true
is_fragment _ = false

-- of which the whole world has none: fragments, and answers of observers
abbrev pub is_apart : Result Datagram Bad → Bool
is_apart (Ok (datagrams.Fragment f)) = true
is_apart (Ok (datagrams.Answer a)) = true
is_apart _ = false

-- the others, in their order
abbrev pub other_datagrams : List Sent → List Sent
other_datagrams sent = filter (λ s. not (is_apart (reading s.bytes))) sent

-- ---- replicas

-- a replica without what it keeps of fragments
abbrev pub plain : Seated Replica → Seated WholeReplica
plain p = record { state = record { state = p.state.state; messages = p.state.messages }; crashed = p.crashed }

-- a whole replica whose log is trimmed: its checkpoint is the execution of the entries up to the sync point, and the others are kept
abbrev pub trimmed_seat : {S : Type 0} → Meaning S → Seated WholeReplica → Seated WholeReplica
trimmed_seat m p = record p { state = record p.state { state = trimmed m p.state.state } }

-- ---- letters

-- a message as it travels
abbrev pub trimmed_letter : {S : Type 0} → Meaning S → Letter → Letter
trimmed_letter m x = record x { peer = trimmed_peer m x.peer }

-- the bytes of all datagrams, the oldest first
abbrev pub bytes_of : List Sent → List (List ℕ)
bytes_of sent = map (λ s. s.bytes) sent

-- a letter as bytes, under its sender and number
abbrev pub message_of : Letter → fragments.Sent
message_of x = record { sender = x.peer.sender; number = x.number; bytes = spelling x.peer }

-- two lists have the same members
pub record SameMembers {A : Type 0} (xs ys : List A) : Type 0 where
  pub to : (x : A) → Has xs x → Has ys x
  pub from : (x : A) → Has ys x → Has xs x

-- what is joined of fragments of a replica and a number is the message of the letter of that sender and number, its log trimmed
pub record JoinsTrimmed {S : Type 0} (m : Meaning S) (w : WholeWorld) (f : Fragment) (bytes : List ℕ) : Type 0 where
  pub peer : Peer
  pub read : peers.reading bytes ≡ Ok (trimmed_peer m peer)
  pub sender : peer.sender ≡ f.replica
  pub letter : letter_of w.letters f.replica f.message ≡ Some peer

-- the fragments among the datagrams carry these letters, each under its number, and nothing else
pub record CarriesLetters (bytes : List (List ℕ)) (used : ℕ → ℕ) (letters : List Letter) : Type 0 where
  pub peer_messages : List Peer
  pub network : Network peer_messages bytes used
  pub peers : SameMembers peer_messages (peers_of letters)
  pub messages : SameMembers network.carried.sent (map message_of letters)

-- ---- all of it

-- the real world, with its lines so far, shows what the whole one shows
pub record FollowsWhole {S : Type 0} (m : Meaning S) (h : Happened) (w : WholeWorld) : Type 0 where
  -- lines that submit, accept, or find a client busy
  pub lines : spoken h.lines ≡ w.lines
  -- datagrams that are neither fragments nor answers of observers; so the replies
  pub sent : other_datagrams h.world.sent ≡ w.sent
  -- and the fragments, which carry the letters with their logs trimmed; `used` gives the last message number that each replica used,
  -- which is its counter
  pub used : ℕ → ℕ
  pub counters : (i : ℕ) (p : Seated Replica) → slice_get h.world.replicas i ≡ Some p → p.state.messages ≡ used i
  pub fragments : CarriesLetters (bytes_of h.world.sent) used (map (trimmed_letter m) w.letters)
  pub config : h.world.config ≡ w.config
  -- each replica's state but for its log, which is the whole one trimmed; its message number, and whether it crashed
  pub replicas : map plain h.world.replicas ≡ map (trimmed_seat m) w.replicas
  -- sequencers, clients and controllers
  pub others : h.world.others ≡ w.others
  -- what a replica keeps of messages that are not complete came in fragments of the network
  pub kept : (i : ℕ) (p : Seated Replica) → slice_get h.world.replicas i ≡ Some p
      → AllCame (fragments_among (bytes_of h.world.sent)) p.state.reassembly
  -- so whoever keeps such parts joins letters
  pub joins : (waiting : List Waiting) (f : Fragment) (bytes : List ℕ) → AllCame (fragments_among (bytes_of h.world.sent)) waiting
      → Has (fragments_among (bytes_of h.world.sent)) f → (taken waiting f).1 ≡ Some bytes → JoinsTrimmed m w f bytes
  -- the archive and a replica's log are its whole log
  pub logs : (i : ℕ) (p : Seated Replica) (q : Seated WholeReplica) → slice_get h.world.replicas i ≡ Some p
      → slice_get w.replicas i ≡ Some q → with_archive h.world.archive p.state.state.log ≡ q.state.state.log.entries
  -- the main log; so the history
  pub main : main_log h.world ≡ whole.main_log w
  pub history : history h.world ≡ whole.history w
  -- the printed lines of replicas and their entries
  pub text : replicas_text h.world.archive 0 h.world.replicas ≡ whole.replicas_text 0 w.replicas

-- for every list of events that are not refused
abbrev pub RunsFollowWhole : {S : Type 0} → Meaning S → Type 0
RunsFollowWhole m = (config : Configuration) (es : List Event) (h : Happened) → is_configuration config ≡ true → EventsFit es
    → run m config es ≡ Ok h → FollowsWhole m h (whole_after m config es)
