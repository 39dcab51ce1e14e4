-- What an observer of a run answers.
use Rattle.std.specs.Prelude.{◌≡◌, ◌≤◌, ◌⊎◌, ℕ, List, [], ◌∷◌, length, take, true, Ok}
use Rattle.nop_types.specs.Configuration.{Configuration, is_configuration}
use Rattle.nop_types.specs.Execution.{opening}
use Rattle.nop_types.specs.Given.{Given, Packet}
use Rattle.nop_types.specs.Histories.{history_of}
use Rattle.nop_types.specs.Lists.{Has, IsPrefixOf}
use Rattle.nop_types.specs.Logs.{Trimmed}
use Rattle.nop_types.specs.Meaning.{Meaning}
use Rattle.nop_types.specs.Services.{get_of}
use Rattle.nop_types.specs.declared.datagram.Datagram.TheVariants as datagrams
use Rattle.nop_types.specs.declared.datagram.Read.{Read}
use Rattle.nop_types.specs.declared.output.Actor.TheVariants.{Client}
use Rattle.nop_types.specs.declared.output.Dest.TheVariants.{One}
use Rattle.nop_types.specs.declared.output.Out.TheVariants.{Send}
use Rattle.oum_codec.specs.Reading.{reading}
use Rattle.oum_codec.specs.Spelling.{spelling}
use Rattle.execution_laws.specs.Execution.{execute_all}
use Rattle.schedule_text.specs.declared.event.Event.{Event}
use Rattle.schedule_text.specs.Fits.{EventsFit}
use Rattle.world.specs.WorldSteps.{WorldState, Happened, run, main_log, history}
use Rattle.network_laws.specs.Network.{MayCome}
use Rattle.safety.specs.Following.{bytes_of}
use Rattle.observer.specs.Observing.{Observing, position, answer}
use Rattle.observer.specs.ObserverSteps as observer
use Rattle.observer.specs.ObserverSteps.{Observer, after, next}

module _ {S : Type 0} (m : Meaning S) (w : WorldState) where
  -- what a map answers after those members of the history that stand in the first slots of the main log
  abbrev pub history_answer : ℕ → List ℕ → List ℕ
  history_answer n op = m.answer (execute_all m (opening m) (history_of (take n (main_log w)))).host op

  -- a read there gives that of the slots up to the position
  pub record ReadsHistory (s : Observing) : Type 0 where
    pub within : position s ≤ length (main_log w)
    pub members : IsPrefixOf (history_of (take (position s) (main_log w))) (history w)
    pub answers : (op : List ℕ) → answer m Trimmed s op ≡ history_answer (position s) op

  -- and so it is answered: to its client, under the observer's number, and no more than that is done
  pub record AnswersHistory (number : ℕ) (s : Observer) : Type 0 where
    pub reads : ReadsHistory s.heard.state
    pub answers : (bytes : List ℕ) (r : Read) → reading bytes ≡ Ok (datagrams.Read r)
        → next m s (Packet bytes) ≡ (
          s,
          Send (One (Client r.client)) (spelling (datagrams.Answer (record {
            observer = number;
            position = position s.heard.state;
            client = r.client;
            id = r.id;
            result = history_answer (position s.heard.state) (get_of r.key);
          }))) ∷ [],
        )

-- a read, whoever asks
abbrev pub IsRead : Given → Type 0
IsRead (Packet bytes) = (r : Read) × (reading bytes ≡ Ok (datagrams.Read r))
IsRead _ = ⊥

-- at the end of each run: whatever was sent by then came to an observer, in whatever order and how often, among reads and whatever bytes
-- that spell nothing
abbrev pub ObserversReadTheHistory : {S : Type 0} → Meaning S → Type 0
ObserversReadTheHistory m = (config : Configuration) (es : List Event) (h : Happened) → is_configuration config ≡ true → EventsFit es
    → run m config es ≡ Ok h → (number : ℕ) (inputs : List Given)
    → ((x : Given) → Has inputs x → MayCome (bytes_of h.world.sent) x ⊎ IsRead x)
    → AnswersHistory m h.world number (after m (observer.opening config number) inputs)
