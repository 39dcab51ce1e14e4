-- The transcript of a run, as a judge reads it.
use Rattle.std.specs.Prelude.{◌≤◌, ◌+◌, ◌==◌, ℕ, Bool, List, [], ◌∷◌, ◌++◌, map, take, count_by}
use Rattle.nop_types.specs.declared.header.Header.{Header}
use Rattle.nop_types.specs.Legality.{Legal}
use Rattle.nop_types.specs.Logs.{Trimmed, length_of}
use Rattle.nop_types.specs.Meaning.{Meaning}
use Rattle.nop_types.specs.declared.request.Entry.{Entry}
use Rattle.observer.specs.ObserverSteps.{Observer}
use Rattle.observer.specs.Observing.{position}
use Rattle.replica_state.specs.declared.state.ReplicaState.{ReplicaState}
use Rattle.replica_core.specs.ReplicaSteps.{Replica}
use Rattle.transcript_rows.specs.LineRows.{row_of}
use Rattle.transcript_rows.specs.declared.row.Row.{Row}
use Rattle.transcript_rows.specs.declared.row.Row.TheVariants.{State, Slot, Watching}
use Rattle.transcript_reader.specs.Transcripts.{Transcript, Spells, said}
use Rattle.transcript_reader.specs.declared.limits.TheConstants.{MAX_TRANSCRIPT_LINES}
use Rattle.world.specs.Seats.{Seated}
use Rattle.world.specs.WorldSteps.{Happened, history}

-- ---- its rows

abbrev pub slot_rows : ℕ → ℕ → List Entry → List Row
slot_rows replica slot [] = []
slot_rows replica slot (e ∷ es) = Slot replica slot e ∷ slot_rows replica (slot + 1) es

-- a replica, and then each slot up to its sync point, which is in the archive
abbrev pub rows_of : List Entry → ℕ → Seated Replica → List Row
rows_of archive i p =
    let s : ReplicaState = p.state.state in
    State i p.crashed s.status s.view (length_of Trimmed s.log) s.sync.sync_point ∷ slot_rows i 1 (take s.sync.sync_point archive)

abbrev pub state_rows : List Entry → ℕ → List (Seated Replica) → List Row
state_rows archive i [] = []
state_rows archive i (p ∷ ps) = rows_of archive i p ++ state_rows archive (i + 1) ps

-- the observers, each with its position
abbrev pub watching_rows : ℕ → List (Seated Observer) → List Row
watching_rows i [] = []
watching_rows i (p ∷ ps) = Watching i p.crashed (position p.state.heard.state) ∷ watching_rows (i + 1) ps

-- the lines of the events, the replicas and the observers at the end, and the history
abbrev pub transcript_of : Header → Happened → Transcript
transcript_of header h =
    record {
      header = header;
      events = map row_of h.lines;
      states = state_rows h.world.archive 0 h.world.replicas;
      observers = watching_rows 0 h.world.observers;
      history = history h.world;
    }

-- ---- its lines

abbrev pub is_line_end : ℕ → Bool
is_line_end b = b == 10

-- the bytes have no line more than a transcript may have
abbrev pub HasRoom : List ℕ → Type 0
HasRoom text = count_by is_line_end text ≤ MAX_TRANSCRIPT_LINES

-- ---- what a judge finds

-- the bytes are the text of the run's transcript, and its history is legal for its claims
pub record IsLegalRun {S : Type 0} (m : Meaning S) (header : Header) (h : Happened) (text : List ℕ) : Type 0 where
  pub spells : Spells (transcript_of header h) text
  pub legal : Legal m (said (transcript_of header h)) (history h.world)
