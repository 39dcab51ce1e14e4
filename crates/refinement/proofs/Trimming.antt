-- The sync point rises, and what waits is taken.
use Rattle.std.proofs.Common.{◌≡◌, ◌≤◌, ◌+◌, ℕ, Bool, true, false, refl, sym, ap, subst, ◌∙◌, arith, List, [], ◌∷◌, ◌++◌, append_assoc}
use Rattle.std.specs.Prelude.{nat_lt}
use Rattle.std.proofs.lemmas.Bool.Decides.{nat_tests}
use Rattle.std.proofs.lemmas.List.{append-nil}
use Rattle.nop_types.specs.Logs.{Log, Whole}
use Rattle.nop_types.specs.Meaning.{Meaning}
use Rattle.replica_state.specs.declared.sending.Sending.{Sending}
use Rattle.replica_state.specs.declared.sending.Sending.TheVariants.{Trims}
use Rattle.replica_state.specs.declared.state.ReplicaState.{ReplicaState}
use Rattle.replica_state.specs.Moves.{drain, log_trimmed, trim, trimmed_entries}
use Rattle.replica_state.specs.Sends.{still, then_do, when}
use Rattle.replica_state.specs.State.{PointsMeet, may_trim}
use Rattle.replica_rows.specs.Rows.{trim_and_drain}
use Rattle.protocol.specs.Conf.{Conf}
use Rattle.protocol.specs.LocalState.{standing}
use Rattle.protocol.specs.Runs.{Act, MayAct, effect}
use Rattle.refinement.specs.Projection.{local_state_of, said_in, replied_in}
use Rattle.refinement.specs.Replicas.{Matches}
use Rattle.refinement.proofs.Composing.{InView, in_view_then, nothing_in_view, move_in_view}
use Rattle.refinement.proofs.Draining.{drain_in_view}
use Rattle.refinement.proofs.Parts.{Stays}
use Rattle.refinement.proofs.Same.{Same}
use Rattle.refinement.proofs.Sends.{said_in-append, replied_in-append}

same_point : (n k : ℕ) → n ≤ k → nat_lt n k ≡ false → n ≡ k
same_point n k low e = grind (arith, nat_tests, low, e)

-- entries that move out of the log are no message and no reply
abbrev trimmed : ReplicaState → Sending
trimmed t = Trims (t.log.sync_point + 1) (trimmed_entries Whole t)

trims_say_nothing : (sends : List Sending) (t : ReplicaState) → said_in (sends ++ trimmed t ∷ []) ≡ said_in sends
trims_say_nothing sends t = said_in-append sends (trimmed t ∷ []) ∙ append-nil (said_in sends)

trims_reply_nothing : (sends : List Sending) (t : ReplicaState) → replied_in (sends ++ trimmed t ∷ []) ≡ replied_in sends
trims_reply_nothing sends t = replied_in-append sends (trimmed t ∷ []) ∙ append-nil (replied_in sends)

module _ {S : Type 0} (m : Meaning S) (f : ℕ) (c : Conf) (r : ℕ) (s : ReplicaState) (h : Matches m f c r s) where
  -- what a move makes of the state, whose log was not written, and whose sync point did not fall
  module _ (t : ReplicaState) (sends : List Sending) (a : Act) (may : MayAct f c (local_state_of s) a)
      (same : Same (t, sends) (effect m (local_state_of s) a)) (stays : Stays f r (standing (local_state_of s)) (standing (local_state_of t)))
      (written : t.log ≡ s.log) (rises : s.sync.sync_point ≤ t.sync.sync_point) where
    rests : may_trim t ≡ false → PointsMeet t
    rests e =
        let before : t.log.sync_point ≡ s.sync.sync_point = ap (λ (l : Log). l.sync_point) written ∙ h.points in
        same_point t.log.sync_point t.sync.sync_point (subst (λ (n : ℕ). n ≤ t.sync.sync_point) (sym before) rises) e

    trimmed_in_view : InView m f c r s (log_trimmed m Whole t, sends ++ trimmed t ∷ [])
    trimmed_in_view =
        move_in_view m f r c s (log_trimmed m Whole t, sends ++ trimmed t ∷ []) a h may
        (record { state = same.state; said = trims_say_nothing sends t ∙ same.said; replies = trims_reply_nothing sends t ∙ same.replies })
        stays refl

    rise_by : (b : Bool) → may_trim t ≡ b
        → InView m f c r s (then_do (t, sends) (λ u. when b (λ x. then_do (trim m Whole x) (drain m Whole)) u))
    rise_by true e =
        subst (λ (xs : List Sending). InView m f c r s ((drain m Whole (log_trimmed m Whole t)).0, xs))
        (append_assoc sends (trimmed t ∷ []) (drain m Whole (log_trimmed m Whole t)).1)
        (in_view_then m f r c s (log_trimmed m Whole t, sends ++ trimmed t ∷ []) (drain m Whole) h trimmed_in_view
        (λ d g. drain_in_view m f r d (log_trimmed m Whole t) g))
    rise_by false e =
        subst (λ (xs : List Sending). InView m f c r s (t, xs)) (sym (append-nil sends))
        (move_in_view m f r c s (t, sends) a h may same stays (rests e))

    -- where the move raised it, the log is trimmed
    pub rise_in_view : InView m f c r s (then_do (t, sends) (trim_and_drain m Whole))
    rise_in_view = rise_by (may_trim t) refl

  -- where nothing was done before, nothing has risen
  still_by : (b : Bool) → may_trim s ≡ b → InView m f c r s (when b (λ x. then_do (trim m Whole x) (drain m Whole)) s)
  still_by true e = absurd (no_rise s.log.sync_point s.sync.sync_point h.points e)
    where
      no_rise : (n k : ℕ) → n ≡ k → nat_lt n k ≡ true → ⊥
      no_rise n k same e = grind (arith, nat_tests, same, e)
  still_by false e = nothing_in_view m f r c s s h refl h.points

  pub still_in_view : InView m f c r s (then_do (still s) (trim_and_drain m Whole))
  still_in_view = still_by (may_trim s) refl
