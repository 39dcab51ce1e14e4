-- The rows of a leader that its followers speak to.
use Rattle.std.proofs.Common.{◌≡◌, ℕ, ◌+◌, Bool, true, false, Option, None, Some, refl, sym, subst, length}
use Rattle.std.specs.Prelude.{◌&&◌, ◌==◌, not, cond, nat_lt, nat_le, take}
use Rattle.std.proofs.lemmas.Bool.{and_parts, eqb-true}
use Rattle.nop_types.specs.declared.limits.TheConstants.{NUMBER_END}
use Rattle.nop_types.specs.declared.peer.Body.TheVariants as bodies
use Rattle.nop_types.specs.declared.request.Entry.{Entry}
use Rattle.nop_types.specs.declared.request.Entry.TheVariants.{NoOp, Req}
use Rattle.nop_types.specs.Lists.{slot_of}
use Rattle.nop_types.specs.Logs.{Whole, has_room}
use Rattle.nop_types.specs.Meaning.{Meaning}
use Rattle.slot_votes.specs.Agreement.{Agreement}
use Rattle.replica_log.specs.Answer.{Below, answer_by, answer_above, may_begin}
use Rattle.replica_state.specs.declared.state.ReplicaState.{ReplicaState}
use Rattle.replica_state.specs.State.{waits}
use Rattle.replica_state.specs.Sends.{to_replica}
use Rattle.replica_state.specs.Moves.{open_gap, count_gap_vote, count_sync_vote, send_synced, drain}
use Rattle.replica_rows.specs.Rows.{begin_gap, slot_lookup_by, slot_lookup, gap_reply_at, gap_reply, sync_reply}
use Rattle.slot_votes.specs.Synchronisation.{sync_vote_counted}
use Rattle.protocol.specs.Conf.{Conf}
use Rattle.protocol.specs.LocalState.{standing}
use Rattle.protocol.specs.Moves.{MayLead, DidAnother}
use Rattle.protocol.specs.Runs.{Say, CountGapVote, CountSyncVote}
use Rattle.protocol.specs.Said.{Found, GapCommit, GapRep, SyncPrepare, SyncRep}
use Rattle.refinement.specs.Projection.{local_state_of}
use Rattle.refinement.specs.Replicas.{Matches}
use Rattle.refinement.proofs.Composing.{InView, in_view_then, nothing_in_view, move_in_view, when_in_view}
use Rattle.refinement.proofs.Draining.{open_gap_in_view, drain_in_view}
use Rattle.refinement.proofs.Matching.{leader_has, may_say_synced}
use Rattle.refinement.proofs.Parts.{stays_still, point_stays}
use Rattle.refinement.proofs.Trimming.{rise_in_view}
use Rattle.refinement.proofs.Points.{vote_rises}
use Rattle.refinement.proofs.Same.{count_sync_vote_same}
use Rattle.refinement.proofs.Staying.{no_gap_from}

module _ {S : Type 0} (m : Meaning S) (f : ℕ) (c : Conf) (r : ℕ) (s : ReplicaState) (h : Matches m f c r s) where
  -- ---- a follower asks for a slot

  begin_gap_in_view : MayLead (local_state_of s) → s.gap ≡ None → InView m f c r s (begin_gap m Whole s)
  begin_gap_in_view may none = when_in_view m f r c s (nat_lt s.next NUMBER_END) _ h (λ e.
      in_view_then m f r c s (open_gap Whole s) (drain m Whole) h
      (open_gap_in_view m f r c s h (record { normal = may.normal; no_gap = none }) may.leads)
      (λ d g. drain_in_view m f r d (open_gap Whole s).0 g))

  answer_in_view : (o : Option Entry) (b : Bool) (q k : ℕ) → MayLead (local_state_of s) → slot_of s.log.entries k ≡ o
      → may_begin Whole s.log (waits s.gap) k ≡ b → InView m f c r s (slot_lookup_by m Whole (answer_by o b) q k s)
  answer_in_view (Some (Req x)) b q k may at begins =
      move_in_view m f r c s (s, to_replica s q (bodies.Found k x)) (Say (Found k x)) h
      (record { true = leader_has m f c r s h k (Req x) may at; point = tt })
      (record { state = refl; said = refl; replies = refl }) (stays_still f r (standing (local_state_of s))) h.points
  answer_in_view (Some NoOp) b q k may at begins =
      move_in_view m f r c s (s, to_replica s q (bodies.GapCommit k)) (Say (GapCommit k)) h
      (record { true = leader_has m f c r s h k NoOp may at; point = tt })
      (record { state = refl; said = refl; replies = refl }) (stays_still f r (standing (local_state_of s))) h.points
  answer_in_view None true q k may at begins =
      let room = and_parts (k == length s.log.entries + 1) (not (waits s.gap) && has_room Whole s.log) begins in
      let free = and_parts (not (waits s.gap)) (has_room Whole s.log) room.1 in
      begin_gap_in_view may (no_gap_from s.gap free.0)
  answer_in_view None false q k may at begins = nothing_in_view m f r c s s h refl h.points

  lookup_if_in_view : (b : Bool) (q k : ℕ) → MayLead (local_state_of s)
      → InView m f c r s (slot_lookup_by m Whole (cond b Below (answer_above Whole s.log (waits s.gap) k)) q k s)
  lookup_if_in_view true q k may =
      move_in_view m f r c s (send_synced Whole s q) (Say (SyncPrepare s.log.sync_point (take s.sync.sync_point s.log.entries))) h
      (may_say_synced m f c r s h may)
      (record { state = refl; said = refl; replies = refl }) (stays_still f r (standing (local_state_of s))) h.points
  lookup_if_in_view false q k may =
      answer_in_view (slot_of s.log.entries k) (may_begin Whole s.log (waits s.gap) k) q k may refl refl

  pub slot_lookup_in_view : (q k : ℕ) → MayLead (local_state_of s) → InView m f c r s (slot_lookup m Whole q k s)
  unfolding slot_lookup
  slot_lookup_in_view q k may = lookup_if_in_view (nat_le k s.log.sync_point) q k may

  -- ---- a follower votes

  gap_reply_at_in_view : (g : Option Agreement) (q k : ℕ) → s.gap ≡ g → DidAnother f c (local_state_of s) q (GapRep k)
      → InView m f c r s (gap_reply_at m Whole g q k s)
  gap_reply_at_in_view None q k waits vote = nothing_in_view m f r c s s h refl h.points
  gap_reply_at_in_view (Some g) q k waits vote = when_in_view m f r c s (g.slot == k) _ h (λ e.
      let same : k ≡ g.slot = sym (eqb-true g.slot k e) in
      in_view_then m f r c s (count_gap_vote s g q) (drain m Whole) h
      (move_in_view m f r c s (count_gap_vote s g q) (CountGapVote g q) h
      (record { waits = waits; vote = subst (λ (i : ℕ). DidAnother f c (local_state_of s) q (GapRep i)) same vote })
      (record { state = refl; said = refl; replies = refl }) (stays_still f r (standing (local_state_of s))) h.points)
      (λ d t. drain_in_view m f r d (count_gap_vote s g q).0 t))

  pub gap_reply_in_view : (q k : ℕ) → DidAnother f c (local_state_of s) q (GapRep k) → InView m f c r s (gap_reply m Whole q k s)
  unfolding gap_reply
  gap_reply_in_view q k vote = gap_reply_at_in_view s.gap q k refl vote

  pub sync_reply_in_view : (q k : ℕ) → MayLead (local_state_of s) → DidAnother f c (local_state_of s) q (SyncRep k)
      → InView m f c r s (sync_reply m Whole q k s)
  unfolding sync_reply
  sync_reply_in_view q k may vote =
      rise_in_view m f c r s h (count_sync_vote s q k).0 (count_sync_vote s q k).1 (CountSyncVote q k)
      (record { may_lead = may; vote = vote }) (count_sync_vote_same s q k)
      (point_stays f r (standing (local_state_of s)) (sync_vote_counted s.sync q k).sync_point) refl (vote_rises s.sync q k)
