-- The lines that show the replicas and the observers at the end of a run.
use Rattle.std.specs.Prelude.{ℕ, ◌+◌, List, [], ◌∷◌, ◌++◌, take}
use Rattle.nop_types.specs.Logs.{Trimmed, length_of}
use Rattle.nop_types.specs.declared.request.Entry.{Entry}
use Rattle.transcript_text.specs.Transcript.{replica_line, entry_line, observer_line}
use Rattle.observer.specs.ObserverSteps.{Observer}
use Rattle.observer.specs.Observing.{position}
use Rattle.replica_state.specs.declared.state.ReplicaState.{ReplicaState}
use Rattle.replica_core.specs.ReplicaSteps.{Replica}
use Rattle.world.specs.Seats.{Seated}

abbrev pub entries_text : ℕ → ℕ → List Entry → List ℕ
entries_text replica slot [] = []
entries_text replica slot (e ∷ es) = entry_line replica slot e ++ entries_text replica (slot + 1) es

-- a replica, and then each slot up to its sync point, which is in the archive
abbrev pub replica_text : List Entry → ℕ → Seated Replica → List ℕ
replica_text archive i p =
    let s : ReplicaState = p.state.state in
    replica_line i p.crashed s.status s.view (length_of Trimmed s.log) s.sync.sync_point
    ++ entries_text i 1 (take s.sync.sync_point archive)

abbrev pub replicas_text : List Entry → ℕ → List (Seated Replica) → List ℕ
replicas_text archive i [] = []
replicas_text archive i (p ∷ ps) = replica_text archive i p ++ replicas_text archive (i + 1) ps

abbrev pub observer_text : ℕ → Seated Observer → List ℕ
observer_text i p = observer_line i p.crashed (position p.state.heard.state)

abbrev pub observers_text : ℕ → List (Seated Observer) → List ℕ
observers_text i [] = []
observers_text i (p ∷ ps) = observer_text i p ++ observers_text (i + 1) ps
