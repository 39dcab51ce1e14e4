-- The rows of a follower that its leader speaks to.
use Rattle.std.proofs.Common.{◌≡◌, ℕ, ◌+◌, Bool, true, false, refl, ap, subst, ◌∙◌, length, List, []}
use Rattle.std.specs.Prelude.{◌-◌, ◌&&◌, ◌==◌, max, nat_le}
use Rattle.std.proofs.lemmas.Bool.{and_parts, eqb-true, leb-true}
use Rattle.nop_types.specs.declared.limits.TheConstants.{NUMBER_END}
use Rattle.nop_types.specs.declared.request.Request.{Request}
use Rattle.nop_types.specs.declared.request.Entry.{Entry}
use Rattle.nop_types.specs.declared.request.Entry.TheVariants.{NoOp, Req}
use Rattle.nop_types.specs.Logs as logs
use Rattle.nop_types.specs.Logs.{Log, Whole}
use Rattle.nop_types.specs.Meaning.{Meaning}
use Rattle.replica_log.proofs.Adopted.{overlaid_point}
use Rattle.replica_state.specs.declared.state.ReplicaState.{ReplicaState}
use Rattle.replica_state.specs.State.{PointsMeet, may_append}
use Rattle.replica_state.specs.Sends.{then_do, when}
use Rattle.replica_state.specs.Moves.{hear, gap_written, write_gap, add_gap, fill, overlay, obey, sync_commit, drain}
use Rattle.replica_rows.specs.Rows.{gap_commit_if, gap_commit, found, sync_prepare, trim_and_drain}
use Rattle.replica_rows.specs.Rows as rows
use Rattle.slot_votes.specs.Synchronisation.{committed}
use Rattle.protocol.specs.Conf.{Conf}
use Rattle.protocol.specs.LocalState.{standing}
use Rattle.protocol.specs.Moves.{MayFollow, MayWriteGap}
use Rattle.protocol.specs.Runs.{Fill, WriteGap, AddGap, Overlay, Obey}
use Rattle.protocol.specs.Said.{Found, GapCommit, SyncPrepare, SyncCommit}
use Rattle.refinement.specs.Projection.{local_state_of}
use Rattle.refinement.specs.Replicas.{Matches}
use Rattle.refinement.proofs.Composing.{InView, in_view_then, nothing_in_view, move_in_view, when_in_view}
use Rattle.refinement.proofs.Draining.{drain_in_view}
use Rattle.refinement.proofs.Matching.{follows_last}
use Rattle.refinement.proofs.Parts.{Stays, point_stays}
use Rattle.refinement.proofs.Points.{commit_rises}
use Rattle.refinement.proofs.Trimming.{rise_in_view, still_in_view}
use Rattle.refinement.proofs.Same.{fill_same, overlay_same}
use Rattle.refinement.proofs.Splices.{overlaid_entries, overlay_begins, gap_entries, gap_meets}
use Rattle.refinement.proofs.Staying.{append_stays, follower_stays}

module _ {S : Type 0} (m : Meaning S) (f : ℕ) (c : Conf) (r : ℕ) (s : ReplicaState) (h : Matches m f c r s) where
  -- ---- a NO-OP of the leader

  write_gap_in_view : (k : ℕ) → MayFollow c (local_state_of s) (GapCommit k) → nat_le k (length s.log.entries) ≡ true
      → InView m f c r s (write_gap Whole (hear s) k)
  write_gap_in_view k may within =
      let may_write : MayWriteGap c (local_state_of s) k =
      record { may_follow = may; within = leb-true k (length s.log.entries) within } in
      move_in_view m f r c s (write_gap Whole (hear s) k) (WriteGap k) h may_write
      (record {
        state = ap (λ (l : List Entry). record (local_state_of s) { log = l }) (gap_entries m f c r s h k may_write);
        said = refl;
        replies = refl;
      })
      (follower_stays f r (standing (local_state_of s)) s.next s.sync.sync_point (gap_written Whole s k).log.entries
      (follows_last m f c r s h may.normal may.follows)) (gap_meets m f c r s h k)

  add_gap_in_view : MayFollow c (local_state_of s) (GapCommit (length s.log.entries + 1)) → InView m f c r s (add_gap Whole (hear s))
  add_gap_in_view may =
      move_in_view m f r c s (add_gap Whole (hear s)) AddGap h may (record { state = refl; said = refl; replies = refl })
      (append_stays m f c r s NoOp h) h.points

  -- the next slot
  is_next : (k : ℕ) → ((k == length s.log.entries + 1) && may_append Whole s) ≡ true → k ≡ length s.log.entries + 1
  is_next k e =
      eqb-true k (length s.log.entries + 1) (and_parts (k == length s.log.entries + 1) (may_append Whole s) e).0

  gap_commit_if_in_view : (b next : Bool) (k : ℕ) → MayFollow c (local_state_of s) (GapCommit k) → nat_le k (length s.log.entries) ≡ b
      → ((k == length s.log.entries + 1) && may_append Whole s) ≡ next → InView m f c r s (gap_commit_if m Whole b next k s)
  gap_commit_if_in_view true next k may within after =
      in_view_then m f r c s (write_gap Whole (hear s) k) (drain m Whole) h (write_gap_in_view k may within)
      (λ d g. drain_in_view m f r d (write_gap Whole (hear s) k).0 g)
  gap_commit_if_in_view false true k may within after =
      let here : k ≡ length s.log.entries + 1 = is_next k after in
      in_view_then m f r c s (add_gap Whole (hear s)) (drain m Whole) h
      (add_gap_in_view (subst (λ (i : ℕ). MayFollow c (local_state_of s) (GapCommit i)) here may))
      (λ d g. drain_in_view m f r d (add_gap Whole (hear s)).0 g)
  gap_commit_if_in_view false false k may within after = nothing_in_view m f r c s s h refl h.points

  pub gap_commit_in_view : (k : ℕ) → MayFollow c (local_state_of s) (GapCommit k) → InView m f c r s (gap_commit m Whole k s)
  unfolding gap_commit
  gap_commit_in_view k may =
      gap_commit_if_in_view (nat_le k (length s.log.entries)) ((k == length s.log.entries + 1) && may_append Whole s) k may refl
      refl

  -- ---- a request that was missed

  fill_in_view : (q : Request) → MayFollow c (local_state_of s) (Found (length s.log.entries + 1) q)
      → InView m f c r s (fill m Whole (hear s) q)
  fill_in_view q may =
      move_in_view m f r c s (fill m Whole (hear s) q) (Fill q) h may (fill_same m (hear s) q) (append_stays m f c r s (Req q) h)
      h.points

  pub found_in_view : (k : ℕ) (q : Request) → MayFollow c (local_state_of s) (Found k q) → InView m f c r s (found m Whole k q s)
  unfolding found
  found_in_view k q may = when_in_view m f r c s ((k == length s.log.entries + 1) && may_append Whole s) _ h (λ e.
      let here : k ≡ length s.log.entries + 1 = is_next k e in
      in_view_then m f r c s (fill m Whole (hear s) q) (drain m Whole) h
      (fill_in_view q (subst (λ (i : ℕ). MayFollow c (local_state_of s) (Found i q)) here may))
      (λ d g. drain_in_view m f r d (fill m Whole (hear s) q).0 g))

  -- ---- sync points

  overlaid_stays : (l : Log) → MayFollow c (local_state_of s) (SyncPrepare l.sync_point l.entries)
      → Stays f r (standing (local_state_of s)) (standing (local_state_of (overlay m Whole (hear s) l).0))
  unfolding overlay
  overlaid_stays l may =
      follower_stays f r (standing (local_state_of s)) (s.next + (length l.entries - length s.log.entries))
      (max s.sync.sync_point l.sync_point) (logs.overlaid Whole l s.log).entries (follows_last m f c r s h may.normal may.follows)

  overlaid_meet : (l : Log) → PointsMeet (overlay m Whole (hear s) l).0
  unfolding overlay
  overlaid_meet l = overlaid_point l s.log ∙ ap (λ (n : ℕ). max n l.sync_point) h.points

  -- the log that is sent reaches its sync point
  overlay_in_view : (l : Log) → MayFollow c (local_state_of s) (SyncPrepare l.sync_point l.entries)
      → InView m f c r s (overlay m Whole (hear s) l)
  overlay_in_view l may =
      let good = h.sync.points.prepares _ _ l.sync_point l.entries may.said in
      let same = overlaid_entries l s.log good.within (overlay_begins m f c r s h l may) in
      move_in_view m f r c s (overlay m Whole (hear s) l) (Overlay l.sync_point l.entries) h may (overlay_same m (hear s) l same)
      (overlaid_stays l may) (overlaid_meet l)

  pub sync_prepare_in_view : (l : Log) → MayFollow c (local_state_of s) (SyncPrepare l.sync_point l.entries)
      → InView m f c r s (sync_prepare m Whole l s)
  unfolding sync_prepare
  sync_prepare_in_view l may =
      when_in_view m f r c s (nat_le (s.next + (length l.entries - length s.log.entries)) NUMBER_END) _ h (λ e.
      in_view_then m f r c s (overlay m Whole (hear s) l) (drain m Whole) h (overlay_in_view l may)
      (λ d g. drain_in_view m f r d (overlay m Whole (hear s) l).0 g))

  -- where so much is prepared
  commit_by : (b : Bool) (k : ℕ) → MayFollow c (local_state_of s) (SyncCommit k) → nat_le k s.sync.prepared ≡ b
      → InView m f c r s (then_do (when b (λ t. obey (hear t) k) s) (trim_and_drain m Whole))
  commit_by true k may e =
      rise_in_view m f c r s h (obey (hear s) k).0 [] (Obey k) (record { may_follow = may; within = leb-true k s.sync.prepared e })
      (record { state = refl; said = refl; replies = refl })
      (point_stays f r (standing (local_state_of s)) (committed s.sync k).sync_point) refl (commit_rises s.sync k)
  commit_by false k may e = still_in_view m f c r s h

  pub sync_commit_in_view : (k : ℕ) → MayFollow c (local_state_of s) (SyncCommit k) → InView m f c r s (rows.sync_commit m Whole k s)
  unfolding rows.sync_commit sync_commit
  sync_commit_in_view k may = commit_by (nat_le k s.sync.prepared) k may refl
