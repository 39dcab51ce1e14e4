-- The sync point moves, and the log is trimmed at once.
use Rattle.std.specs.Prelude.{◌+◌, [], ◌∷◌, cond, Option, Some, None}
use Rattle.nop_types.specs.Meaning.{Meaning}
use Rattle.nop_types.specs.Logs.{Trimmed}
use Rattle.replica_rows.specs.declared.trimming.TrimmedEntries.{TrimmedEntries}
use Rattle.replica_state.specs.declared.sending.Sending.TheVariants.{Trims}
use Rattle.replica_state.specs.declared.state.ReplicaState.{ReplicaState}
use Rattle.replica_state.specs.Sends.{Effect, still, then_do}
use Rattle.replica_state.specs.State.{may_trim}
use Rattle.replica_state.specs.Moves.{log_trimmed, trimmed_entries, drain}

-- the log is trimmed where the sync point passed it
abbrev pub trim_log : {S : Type 0} → Meaning S → ReplicaState → ReplicaState
trim_log m s = cond (may_trim s) (log_trimmed m Trimmed s) s

-- the entries between the two, from the first of their slots on
abbrev pub trimmed_by : ReplicaState → Option TrimmedEntries
trimmed_by s = cond (may_trim s) (Some (record { first = s.log.sync_point + 1; entries = trimmed_entries Trimmed s })) None

-- what a move does that may move the sync point, and the log is trimmed at once
abbrev pub then_trim : {S : Type 0} → Meaning S → (ReplicaState → Effect) → ReplicaState → Effect
then_trim m move s = (trim_log m (move s).0, (move s).1)

-- the entries that were trimmed move out, and what waits is taken
abbrev pub send_trimmed : {S : Type 0} → Meaning S → Option TrimmedEntries → ReplicaState → Effect
send_trimmed m None s = still s
send_trimmed m (Some p) s = then_do (s, Trims p.first p.entries ∷ []) (drain m Trimmed)
