-- Part is taken in a view, or another log is laid over: replies go out then.
use Rattle.std.proofs.Common.{◌≡◌, ℕ, List, ◌++◌, ap, ◌∙◌}
use Rattle.std.specs.Prelude.{max}
use Rattle.nop_types.specs.declared.peer.Body.TheVariants as bodies
use Rattle.nop_types.specs.Logs.{Log, Trimmed, length_of}
use Rattle.nop_types.specs.Meaning.{Meaning}
use Rattle.replica_state.specs.declared.sending.Sending.{Sending}
use Rattle.replica_state.specs.declared.state.ReplicaState.{ReplicaState}
use Rattle.replica_state.specs.Moves.{overlaid, overlay}
use Rattle.replica_state.specs.Replies.{replies_above}
use Rattle.replica_state.specs.Sends.{to_leader}
use Rattle.replica_rows.proofs.Running.{sent_on}

-- each request above a slot was replied for, in the state that a move made
pub replied_above : {S : Type 0} (m : Meaning S) (t is : ReplicaState) (n slot : ℕ) (old mid new : List Sending) → t ≡ is → n ≡ slot
    → mid ≡ old
    → new ≡ mid ++ replies_above m Trimmed t n → new ≡ old ++ replies_above m Trimmed is slot
replied_above m t is n slot old mid new state at same sent =
    sent
    ∙ ap (λ (xs : List Sending). xs ++ replies_above m Trimmed t n) same
    ∙ ap (λ (i : ℕ). old ++ replies_above m Trimmed t i) at
    ∙ ap (λ (p : ReplicaState). old ++ replies_above m Trimmed p slot) state

-- a log was laid over, what is new was replied for, and the leader told
pub overlay_sends : {S : Type 0} (m : Meaning S) (s t u : ReplicaState) (l : Log) (n leader_len : ℕ) (old a b new : List Sending)
    → t ≡ overlaid Trimmed s l → n ≡ max (length_of Trimmed s.log) t.sync.sync_point → leader_len ≡ length_of Trimmed l → a ≡ old → u ≡ t
    → b ≡ a ++ replies_above m Trimmed t n → new ≡ b ++ to_leader u (bodies.SyncRep leader_len) → new ≡ old ++ (overlay m Trimmed s l).1
unfolding overlay
overlay_sends m s t u l n leader_len old a b new is at len same stays replied sent =
    let p : ReplicaState = overlaid Trimmed s l in
    let slot : ℕ = max (length_of Trimmed s.log) p.sync.sync_point in
    let above = ap (λ (q : ReplicaState). max (length_of Trimmed s.log) q.sync.sync_point) is in
    sent_on old (replies_above m Trimmed p slot) b (to_leader s (bodies.SyncRep (length_of Trimmed l))) new
    (replied_above m t p n slot old a b is (at ∙ above) same replied)
    (sent
    ∙ ap (λ (q : ReplicaState). b ++ to_leader q (bodies.SyncRep leader_len)) (stays ∙ is)
    ∙ ap (λ (i : ℕ). b ++ to_leader s (bodies.SyncRep i)) len)
