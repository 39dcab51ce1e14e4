-- The rows of the ticks Resend and Sync.
use Rattle.std.proofs.Common.{◌≡◌, ℕ, ◌+◌, Bool, true, false, Option, None, Some, refl, length, le_refl}
use Rattle.std.specs.Prelude.{◌&&◌, ◌==◌, not, nat_lt}
use Rattle.std.proofs.lemmas.Bool.{and_parts, ltb-true}
use Rattle.nop_types.specs.declared.peer.Body.{Body}
use Rattle.nop_types.specs.declared.peer.Body.TheVariants as bodies
use Rattle.nop_types.specs.declared.replica_state.Phase.{Phase}
use Rattle.nop_types.specs.declared.replica_state.Phase.TheVariants.{Normal, Change}
use Rattle.nop_types.specs.declared.request.Entry.TheVariants.{NoOp}
use Rattle.nop_types.specs.Logs.{Whole}
use Rattle.nop_types.specs.Meaning.{Meaning}
use Rattle.slot_votes.specs.Agreement.{Agreement}
use Rattle.oum_receiver.specs.Front.{Front, Nothing, Message, Dropped}
use Rattle.oum_receiver.specs.Receiving.{front_of}
use Rattle.replica_state.specs.declared.state.ReplicaState.{ReplicaState}
use Rattle.replica_state.specs.State.{max_faults, leads, is_normal, waits, has_room}
use Rattle.replica_state.specs.Sends.{then_do, when, to_all_if, to_all, to_leader}
use Rattle.replica_state.specs.Moves.{change_sent, open_sync, repeat_commit}
use Rattle.replica_state.specs.Repeating.{gap_again, lookup_again, change_again, resend_by, resend, sync_if, sync}
use Rattle.replica_rows.specs.Rows as rows
use Rattle.slot_votes.specs.Synchronisation.{with_round}
use Rattle.protocol.specs.Conf.{Conf}
use Rattle.protocol.specs.LocalState.{standing}
use Rattle.protocol.specs.Moves.{MaySay, MayLead}
use Rattle.protocol.specs.Runs.{Say, OpenSync, RepeatCommit}
use Rattle.protocol.specs.Said.{Plain, ViewChange}
use Rattle.refinement.specs.Projection.{local_state_of, word_of}
use Rattle.refinement.specs.Replicas.{Matches}
use Rattle.refinement.proofs.Composing.{InView, in_view_then, nothing_in_view, move_in_view, when_in_view}
use Rattle.refinement.proofs.Matching.{own, leader_has, entered_with_it}
use Rattle.refinement.proofs.Parts.{stays_still, point_stays}
use Rattle.refinement.proofs.Points.{round_rises}
use Rattle.refinement.proofs.Trimming.{rise_in_view, still_in_view}
use Rattle.refinement.proofs.Same.{change_said, open_sync_same, repeat_commit_same}
use Rattle.refinement.proofs.Staying.{normal_from, no_gap_from}

module _ {S : Type 0} (m : Meaning S) (f : ℕ) (c : Conf) (r : ℕ) (s : ReplicaState) (h : Matches m f c r s) where
  -- a true word is said to all
  to_all_in_view : (b : Bool) (body : Body) → MaySay f c (local_state_of s) (word_of body) → InView m f c r s (s, to_all_if b s body)
  to_all_in_view true body may = nothing_in_view m f r c s s h refl h.points
  to_all_in_view false body may =
      move_in_view m f r c s (s, to_all_if false s body) (Say (word_of body)) h may (record { state = refl; said = refl; replies = refl })
      (stays_still f r (standing (local_state_of s))) h.points

  -- what waits is said again

  gap_again_in_view : (g : Option Agreement) → s.gap ≡ g → MayLead (local_state_of s) → InView m f c r s (gap_again g s)
  gap_again_in_view None e may = nothing_in_view m f r c s s h refl h.points
  gap_again_in_view (Some g) e may =
      to_all_in_view (max_faults s == 0) (bodies.GapCommit g.slot)
      (record { true = leader_has m f c r s h g.slot NoOp may ((own m f c r s h).gap.waits g e).noop; point = tt })

  lookup_again_in_view : (front : Front) → InView m f c r s (lookup_again Whole front s)
  lookup_again_in_view Nothing = nothing_in_view m f r c s s h refl h.points
  lookup_again_in_view (Message q) = nothing_in_view m f r c s s h refl h.points
  lookup_again_in_view Dropped = when_in_view m f r c s (has_room Whole s) _ h (λ e.
      move_in_view m f r c s (s, to_leader s (bodies.SlotLookup (length s.log.entries + 1))) (Say Plain) h
      (record { true = tt; point = tt })
      (record { state = refl; said = refl; replies = refl }) (stays_still f r (standing (local_state_of s))) h.points)

  change_again_in_view : (b : Bool) → s.status ≡ Change → InView m f c r s (change_again b s)
  change_again_in_view true change = nothing_in_view m f r c s s h refl h.points
  change_again_in_view false change =
      move_in_view m f r c s (s, change_sent s) (Say (ViewChange s.last_normal s.next s.sync.sync_point s.log.entries)) h
      (record { true = entered_with_it m f c r s h change; point = tt })
      (record { state = refl; said = change_said s h.points; replies = refl }) (stays_still f r (standing (local_state_of s))) h.points

  -- ---- sync points

  sync_if_in_view : (b : Bool) → nat_lt s.sync.sync_point (length s.log.entries) ≡ b → MayLead (local_state_of s) → s.gap ≡ None
      → InView m f c r s (then_do (sync_if Whole b s) (rows.trim_and_drain m Whole))
  sync_if_in_view true longer may none =
      rise_in_view m f c r s h (open_sync Whole s).0 (open_sync Whole s).1 OpenSync
      (record { may_lead = may; no_gap = none; longer = ltb-true s.sync.sync_point (length s.log.entries) longer })
      (open_sync_same s h.points)
      (point_stays f r (standing (local_state_of s)) (with_round s.sync (length s.log.entries)).sync_point) refl
      (round_rises s.sync (length s.log.entries))
  sync_if_in_view false longer may none =
      rise_in_view m f c r s h s (repeat_commit s).1 RepeatCommit may (repeat_commit_same s)
      (stays_still f r (standing (local_state_of s))) refl (le_refl s.sync.sync_point)

  sync_by : (b : Bool) → (is_normal s.status && (leads s && not (waits s.gap))) ≡ b
      → InView m f c r s (then_do (when b (λ t. sync_if Whole (nat_lt t.sync.sync_point (length t.log.entries)) t) s)
      (rows.trim_and_drain m Whole))
  sync_by true e =
      let one = and_parts (is_normal s.status) (leads s && not (waits s.gap)) e in
      let two = and_parts (leads s) (not (waits s.gap)) one.1 in
      sync_if_in_view (nat_lt s.sync.sync_point (length s.log.entries)) refl
      (record { normal = normal_from s.status one.0; leads = two.0 }) (no_gap_from s.gap two.1)
  sync_by false e = still_in_view m f c r s h

  pub sync_row_in_view : InView m f c r s (rows.sync m Whole s)
  unfolding rows.sync sync
  sync_row_in_view = sync_by (is_normal s.status && (leads s && not (waits s.gap))) refl

-- ---- what was not answered

module _ {S : Type 0} (m : Meaning S) (f : ℕ) (c : Conf) (r : ℕ) (s : ReplicaState) (h : Matches m f c r s) where
  resend_by_in_view : (p : Phase) (b : Bool) → s.status ≡ p → leads s ≡ b → InView m f c r s (resend_by Whole p b s)
  resend_by_in_view Change b status leading =
      in_view_then m f r c s (s, to_all s bodies.ViewChangeReq) (change_again b) h
      (to_all_in_view m f c r s h (max_faults s == 0) bodies.ViewChangeReq (record { true = tt; point = tt }))
      (λ d g. change_again_in_view m f d r s g b status)
  resend_by_in_view Normal true status leading = gap_again_in_view m f c r s h s.gap refl (record { normal = status; leads = leading })
  resend_by_in_view Normal false status leading = lookup_again_in_view m f c r s h (front_of s.receiver)

  pub resend_in_view : InView m f c r s (resend Whole s)
  unfolding resend
  resend_in_view = resend_by_in_view s.status (leads s) refl refl
