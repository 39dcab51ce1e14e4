-- The sync point moves, the log is trimmed, and what was trimmed goes out.
use Rattle.std.proofs.Common.{◌≡◌, ℕ, Bool, true, false, List, ◌++◌, refl, sym, ap, ◌∙◌, append-nil}
use Rattle.std.specs.Prelude.{◌+◌, ◌==◌, cond, Option, Some, None}
use Rattle.nop_types.specs.CheckpointedLogs.{raised}
use Rattle.nop_types.specs.declared.host.Host.{Ghosts}
use Rattle.nop_types.specs.declared.peer.Body.{Body}
use Rattle.nop_types.specs.declared.peer.Body.TheVariants as bodies
use Rattle.nop_types.specs.declared.replica_state.Vote.{Vote}
use Rattle.nop_types.specs.declared.replica_state.Vote.TheVariants.{Settled, Waiting}
use Rattle.nop_types.specs.Logs.{Log, Trimmed}
use Rattle.nop_types.specs.Meaning.{Meaning}
use Rattle.slot_votes.specs.Synchronisation as synchronisation
use Rattle.slot_votes.specs.Synchronisation.{Synchronisation, vote_for}
use Rattle.replica_state.specs.declared.sending.Sending.{Sending}
use Rattle.replica_state.specs.declared.state.ReplicaState.{ReplicaState}
use Rattle.replica_state.specs.Moves.{log_trimmed, trim, trimmed_entries, drain, commit_if, count_sync_vote}
use Rattle.replica_state.specs.Sends.{Effect, then_do, when, to_all, to_all_if}
use Rattle.replica_state.specs.State.{max_faults, may_trim}
use Rattle.replica_rows.specs.declared.member.Member.{Member}
use Rattle.replica_rows.specs.declared.trimming.TrimmedEntries.{TrimmedEntries}
use Rattle.replica_rows.specs.Trimming.{trim_log, trimmed_by, then_trim, send_trimmed}
use Rattle.replica_rows.specs.Rows.{trim_and_drain}
use Rattle.replica_rows.specs.Within.{IsRunning, Does}
use Rattle.replica_rows.proofs.Running.{sent_on}

-- ---- where a vote is counted

-- a message to all does not depend on the log, nor on the synchronisation
to_all_by : (b : Bool) (s : ReplicaState) (x : Synchronisation) (l : Log) (body : Body)
    → to_all_if b (record s { sync = x; log = l }) body ≡ to_all_if b s body
to_all_by true s x l body = refl
to_all_by false s x l body = refl

to_all_trimmed : {S : Type 0} (m : Meaning S) (b : Bool) (s : ReplicaState) (x : Synchronisation) (body : Body)
    → to_all (cond b (log_trimmed m Trimmed (record s { sync = x })) (record s { sync = x })) body ≡ to_all s body
to_all_trimmed m true s x body = to_all_by (max_faults s == 0) s x (raised m Trimmed s.log x.sync_point) body
to_all_trimmed m false s x body = to_all_by (max_faults s == 0) s x s.log body

module _ {H U : Type 0} (host : Ghosts H U) where
  pub vote_settled : (old mid new : Member H U) (q n : ℕ) (x : Synchronisation) (v : Vote)
      → x ≡ synchronisation.sync_vote_counted old.state.sync q n → v ≡ vote_for old.state.sync q n → v ≡ Settled
      → mid.state ≡ trim_log host.meaning (record old.state { sync = x }) → mid.sends ≡ old.sends
      → Does host mid new (λ s. (s, to_all s (bodies.SyncCommit n)))
      → Does host old new (then_trim host.meaning (λ s. count_sync_vote s q n))
  vote_settled old mid new q n x v counted vote settled trims same does =
      let s : ReplicaState = old.state in
      let p : ReplicaState = record s { sync = x } in
      record {
        runs = does.runs;
        state = does.state ∙ trims ∙ ap (λ (y : Synchronisation). trim_log host.meaning (record s { sync = y })) counted;
        sends =
            does.sends
            ∙ ap (λ (xs : List Sending). xs ++ to_all mid.state (bodies.SyncCommit n)) same
            ∙ ap (λ (t : ReplicaState). old.sends ++ to_all t (bodies.SyncCommit n)) trims
            ∙ ap (λ (xs : List Sending). old.sends ++ xs) (to_all_trimmed host.meaning (may_trim p) s x (bodies.SyncCommit n))
            ∙ ap (λ (w : Vote). old.sends ++ commit_if s n w) (sym settled ∙ vote);
      }

  pub vote_waits : (old mid : Member H U) (q n : ℕ) (x : Synchronisation) (v : Vote)
      → x ≡ synchronisation.sync_vote_counted old.state.sync q n → v ≡ vote_for old.state.sync q n → v ≡ Waiting
      → mid.state ≡ trim_log host.meaning (record old.state { sync = x }) → mid.sends ≡ old.sends → IsRunning host mid
      → Does host old mid (then_trim host.meaning (λ s. count_sync_vote s q n))
  vote_waits old mid q n x v counted vote waits trims same runs =
      let s : ReplicaState = old.state in
      record {
        runs = runs;
        state = trims ∙ ap (λ (y : Synchronisation). trim_log host.meaning (record s { sync = y })) counted;
        sends = same ∙ sym (append-nil old.sends) ∙ ap (λ (w : Vote). old.sends ++ commit_if s n w) (sym waits ∙ vote);
      }

-- ---- what was trimmed goes out

rises : {S : Type 0} (m : Meaning S) (b : Bool) (t : ReplicaState)
    → send_trimmed m (cond b (Some (record { first = t.log.sync_point + 1; entries = trimmed_entries Trimmed t })) None) (cond b (log_trimmed m Trimmed t) t)
    ≡ when b (λ p. then_do (trim m Trimmed p) (drain m Trimmed)) t
rises m true t = refl
rises m false t = refl

-- the log followed a move at once, and what was passed went out after that
pub sends_trimmed : {H U : Type 0} (host : Ghosts H U) (old mid new : Member H U) (move : ReplicaState → Effect) (trimmed : Option TrimmedEntries)
    → Does host old mid (then_trim host.meaning move) → trimmed ≡ trimmed_by (move old.state).0
    → Does host mid new (send_trimmed host.meaning trimmed)
    → Does host old new (λ s. then_do (move s) (trim_and_drain host.meaning Trimmed))
sends_trimmed host old mid new move trimmed first is next =
    let t : ReplicaState = (move old.state).0 in
    let sent : List Sending = (move old.state).1 in
    let m = host.meaning in
    let row = ap (λ (o : Option TrimmedEntries). send_trimmed m o (trim_log m t)) is ∙ rises m (may_trim t) t in
    record {
      runs = next.runs;
      state = next.state ∙ ap (λ (p : ReplicaState). (send_trimmed m trimmed p).0) first.state ∙ ap (λ (e : Effect). e.0) row;
      sends =
          sent_on old.sends sent mid.sends (send_trimmed m trimmed mid.state).1 new.sends first.sends next.sends
          ∙ ap (λ (p : ReplicaState). old.sends ++ (sent ++ (send_trimmed m trimmed p).1)) first.state
          ∙ ap (λ (e : Effect). old.sends ++ (sent ++ e.1)) row;
    }
