-- What rows send, part by part.
use Rattle.std.proofs.Common.{◌≡◌, ℕ, ◌+◌, Bool, true, false, List, ◌++◌, refl, ap, ◌∙◌}
use Rattle.std.specs.Prelude.{◌==◌}
use Rattle.nop_types.specs.Logs as logs
use Rattle.nop_types.specs.Logs.{Trimmed, length_of}
use Rattle.nop_types.specs.Meaning.{Meaning}
use Rattle.nop_types.specs.declared.request.Request.{Request}
use Rattle.nop_types.specs.declared.request.Entry.{Entry}
use Rattle.nop_types.specs.declared.request.Entry.TheVariants.{NoOp, Req}
use Rattle.nop_types.specs.declared.peer.Body.{Body}
use Rattle.nop_types.specs.declared.peer.Body.TheVariants as bodies
use Rattle.replica_state.specs.declared.sending.Sending.{Sending}
use Rattle.replica_state.specs.declared.state.ReplicaState.{ReplicaState}
use Rattle.replica_state.specs.Replies.{reply_at}
use Rattle.replica_state.specs.Moves.{appended, gap_opened, add_gap, fill}
use Rattle.replica_state.specs.Sends.{to_leader, to_all, to_all_if}
use Rattle.replica_state.specs.State.{max_faults}
use Rattle.replica_rows.proofs.Draining.{replies_filled}
use Rattle.replica_rows.proofs.Fields.{length-appended}

after_last : (s t : ReplicaState) (e : Entry) (slot : ℕ) → slot ≡ length_of Trimmed t.log → t.log ≡ logs.appended s.log e
    → slot ≡ length_of Trimmed s.log + 1
after_last s t e slot last same = last ∙ ap (length_of Trimmed) same ∙ length-appended Trimmed s.log e

-- a NO-OP was appended, and the leader told so
pub add_gap_sends : (s t : ReplicaState) (slot : ℕ) (old mid new : List Sending) → t ≡ appended s NoOp → slot ≡ length_of Trimmed t.log
    → mid ≡ old → new ≡ mid ++ to_leader t (bodies.GapRep slot) → new ≡ old ++ (add_gap Trimmed s).1
add_gap_sends s t slot old mid new state last same sent =
    let next = after_last s t NoOp slot last (ap (λ (p : ReplicaState). p.log) state) in
    sent
    ∙ ap (λ (xs : List Sending). xs ++ to_leader t (bodies.GapRep slot)) same
    ∙ ap (λ (p : ReplicaState). old ++ to_leader p (bodies.GapRep slot)) state
    ∙ ap (λ n. old ++ to_leader s (bodies.GapRep n)) next

to_all_opened : (b : Bool) (s : ReplicaState) (body : Body) → to_all_if b (gap_opened Trimmed s) body ≡ to_all_if b s body
to_all_opened true s body = refl
to_all_opened false s body = refl

-- and the same of a leader's gap
pub open_gap_sends : (s t : ReplicaState) (slot : ℕ) (old new : List Sending) → t ≡ gap_opened Trimmed s → slot ≡ length_of Trimmed t.log
    → new ≡ old ++ to_all t (bodies.GapCommit slot) → new ≡ old ++ to_all s (bodies.GapCommit (length_of Trimmed s.log + 1))
open_gap_sends s t slot old new state last sent =
    let next = after_last s t NoOp slot last (ap (λ (p : ReplicaState). p.log) state) in
    sent
    ∙ ap (λ (p : ReplicaState). old ++ to_all p (bodies.GapCommit slot)) state
    ∙ ap (λ (xs : List Sending). old ++ xs) (to_all_opened (max_faults s == 0) s (bodies.GapCommit slot))
    ∙ ap (λ n. old ++ to_all s (bodies.GapCommit n)) next

-- the request was appended, and replied for in its slot
pub fill_sends : {S : Type 0} (m : Meaning S) (s t : ReplicaState) (slot : ℕ) (r : Request) (old mid new : List Sending)
    → t ≡ appended s (Req r) → slot ≡ length_of Trimmed t.log → mid ≡ old → new ≡ mid ++ reply_at m Trimmed t slot
    → new ≡ old ++ (fill m Trimmed s r).1
fill_sends m s t slot r old mid new state last same sent =
    let next = after_last s t (Req r) slot last (ap (λ (p : ReplicaState). p.log) state) in
    sent
    ∙ ap (λ (xs : List Sending). xs ++ reply_at m Trimmed t slot) same
    ∙ ap (λ (p : ReplicaState). old ++ reply_at m Trimmed p slot) state
    ∙ ap (λ k. old ++ reply_at m Trimmed (appended s (Req r)) k) next
    ∙ ap (λ (xs : List Sending). old ++ xs) (replies_filled m s r)
