-- The line of an event, as a schedule has it.
use Rattle.std.specs.Prelude.{◌≡◌, ℕ, ◌<◌, ◌≤◌, ◌^◌, ⊤, List, [], ◌∷◌, ◌++◌, length, codes, decimal, Ok, true, IsTrue, ◌==◌, if◌then◌else◌}
use Rattle.std.specs.List.{flat_map}
use Rattle.hex.specs.Hex.{IsBytes}
use Rattle.nop_types.specs.Configuration.{Configuration, is_configuration}
use Rattle.nop_types.specs.declared.input.Tick.{Tick}
use Rattle.nop_types.specs.declared.input.Tick.TheVariants as ticks
use Rattle.nop_types.specs.declared.limits.TheConstants.{MAX_DATAGRAM_BYTES, MAX_KEY_BYTES, MAX_LINES, MAX_OP_BYTES}
use Rattle.nop_types.specs.declared.output.Actor.TheVariants as actors
use Rattle.line_fields.specs.Fields.{IsActorOf}
use Rattle.schedule_text.specs.declared.event.Event.{Event}
use Rattle.schedule_text.specs.declared.event.Event.TheVariants as events
use Rattle.transcript_text.specs.LineText.{after_space}
use Rattle.schedule_text.specs.Rules.{event_of}
use Rattle.schedule_text.specs.Ticks.{takes_tick}
use Rattle.transcript_text.specs.Transcript.{actor_text, hex_text}

-- ---- which events have a line

-- a schedule has a word for the tick
abbrev pub HasWord : Tick → Type 0
HasWord ticks.Next = ⊥
HasWord (ticks.Install j) = ⊥
HasWord _ = ⊤

-- a tick has a word, and junk is no longer than a datagram
abbrev pub HasLine : Event → Type 0
HasLine (events.Tick actor tick) = HasWord tick
HasLine (events.Junk actor bytes) = length bytes ≤ MAX_DATAGRAM_BYTES
HasLine _ = ⊤

-- ---- its text

abbrev pub tick_text : Tick → List ℕ
tick_text ticks.Suspect = codes "suspect"
tick_text ticks.Watch = codes "watch"
tick_text ticks.Resend = codes "resend"
tick_text ticks.Sync = codes "sync"
tick_text ticks.Retry = codes "retry"
tick_text ticks.Probe = codes "probe"
tick_text _ = []

abbrev pub event_word : Event → List ℕ
event_word (events.Submit client op) = codes "submit"
event_word (events.Deliver index actor) = codes "deliver"
event_word (events.Tick actor tick) = codes "tick"
event_word (events.Install controller sequencer) = codes "install"
event_word (events.Crash actor) = codes "crash"
event_word (events.Junk actor bytes) = codes "junk"
event_word (events.Read client observer key) = codes "read"

-- controller 0 is not named
abbrev pub named_controller : ℕ → List (List ℕ)
named_controller k = if k == 0 then [] else actor_text (actors.Controller k) ∷ []

-- the fields after the word; bytes in lower case
abbrev pub event_fields : Event → List (List ℕ)
event_fields (events.Submit client op) = actor_text (actors.Client client) ∷ hex_text op ∷ []
event_fields (events.Deliver index actor) = decimal index ∷ actor_text actor ∷ []
event_fields (events.Tick actor tick) = actor_text actor ∷ tick_text tick ∷ []
event_fields (events.Install controller sequencer) = actor_text (actors.Sequencer sequencer) ∷ named_controller controller
event_fields (events.Crash actor) = actor_text actor ∷ []
event_fields (events.Junk actor bytes) = actor_text actor ∷ hex_text bytes ∷ []
event_fields (events.Read client observer key) = actor_text (actors.Client client) ∷ actor_text (actors.Observer observer) ∷ hex_text key ∷ []

-- the line, without its end
unfoldable pub event_text : Event → List ℕ
event_text e = event_word e ++ flat_map after_space (event_fields e)

-- ---- what the line means

-- each actor that the event names is of the configuration, and takes its tick
abbrev pub IsEventOf : Configuration → Event → Type 0
IsEventOf c (events.Submit client op) = client < c.clients
IsEventOf c (events.Deliver index actor) = IsActorOf c actor
IsEventOf c (events.Tick actor tick) = IsActorOf c actor × (takes_tick actor tick ≡ true)
IsEventOf c (events.Install controller sequencer) = (controller < c.controllers) × (sequencer < c.sequencers)
IsEventOf c (events.Crash actor) = IsActorOf c actor
IsEventOf c (events.Junk actor bytes) = IsActorOf c actor
IsEventOf c (events.Read client observer key) = (client < c.clients) × (observer < c.observers)

-- a line of a schedule means the event, in each configuration that has its actors, and whatever lines stand before it
abbrev pub Means : List ℕ → Event → Type 0
Means line e = (c : Configuration) (before : ℕ) → IsTrue (is_configuration c) → before < MAX_LINES → IsEventOf c e
    → event_of c before line ≡ Ok e

pub record IsTypedKey (key : List ℕ) : Type 0 where
  pub bytes : IsBytes key
  pub some : 1 ≤ length key
  pub most : length key ≤ MAX_KEY_BYTES

-- the numbers of the event are those of its types
abbrev pub IsTyped : Event → Type 0
IsTyped (events.Submit client op) = (length op ≤ MAX_OP_BYTES) × IsBytes op
IsTyped (events.Deliver index actor) = index < 2 ^ 64
IsTyped (events.Tick actor tick) = ⊤
IsTyped (events.Install controller sequencer) = ⊤
IsTyped (events.Crash actor) = ⊤
IsTyped (events.Junk actor bytes) = IsBytes bytes
IsTyped (events.Read client observer key) = IsTypedKey key
