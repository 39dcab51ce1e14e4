-- The words of an event beside its row.
use Rattle.std.specs.Prelude.{List, ℕ, [], ◌∷◌, ◌++◌}
use Rattle.std.specs.List.{flat_map}
use Rattle.nop_types.specs.declared.output.Actor.TheVariants as actors
use Rattle.schedule_text.specs.EventText.{event_fields, event_word}
use Rattle.schedule_text.specs.declared.event.Event.{Event}
use Rattle.schedule_text.specs.declared.event.Event.TheVariants as events
use Rattle.transcript_text.specs.LineText.{after_space}
use Rattle.transcript_text.specs.Transcript.{actor_text}

-- the fields of its line without an op, without a key and without malformed bytes
abbrev pub shown_fields : Event → List (List ℕ)
shown_fields (events.Submit client op) = actor_text (actors.Client client) ∷ []
shown_fields (events.Deliver index actor) = event_fields (events.Deliver index actor)
shown_fields (events.Tick actor tick) = event_fields (events.Tick actor tick)
shown_fields (events.Install controller sequencer) = event_fields (events.Install controller sequencer)
shown_fields (events.Read client observer key) = actor_text (actors.Client client) ∷ actor_text (actors.Observer observer) ∷ []
shown_fields (events.Crash actor) = event_fields (events.Crash actor)
shown_fields (events.Junk actor bytes) = actor_text actor ∷ []

abbrev pub shown_text : Event → List ℕ
shown_text e = event_word e ++ flat_map after_space (shown_fields e)
