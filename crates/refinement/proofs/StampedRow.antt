-- The row of a stamped request.
use Rattle.std.proofs.Common.{◌≡◌, ◌<◌, ℕ, Bool, true, false, refl, sym, ap, subst, inl, arith}
use Rattle.std.specs.Prelude.{nat_lt}
use Rattle.std.proofs.lemmas.Bool.{ltb-true}
use Rattle.nop_types.specs.declared.datagram.Stamped.{Stamped}
use Rattle.nop_types.specs.declared.view.View.{View}
use Rattle.nop_types.specs.Lists.{Has}
use Rattle.nop_types.specs.Logs.{Whole}
use Rattle.nop_types.specs.Meaning.{Meaning}
use Rattle.nop_types.specs.Views.{Below}
use Rattle.replica_state.specs.declared.state.ReplicaState.{ReplicaState}
use Rattle.replica_state.specs.Sends.{Effect, then_do}
use Rattle.replica_state.specs.Moves.{session_view, begin_session, queue, enter, open_if_enough, drain}
use Rattle.replica_rows.specs.Rows.{enter_view, new_session, stamped_if, stamped}
use Rattle.protocol.specs.Conf.{Conf}
use Rattle.protocol.specs.LocalState.{standing}
use Rattle.protocol.specs.Runs.{Queue, run}
use Rattle.refinement.specs.Projection.{local_state_of}
use Rattle.refinement.specs.Replicas.{Matches, ReplicaReaches}
use Rattle.refinement.proofs.Composing.{InView, matches_end, reaches_then_in_view, in_view_then, keeps_then, move_in_view}
use Rattle.refinement.proofs.Draining.{drain_in_view}
use Rattle.refinement.proofs.Entering.{enter_reaches, enter_keeps}
use Rattle.refinement.proofs.Matching.{own}
use Rattle.refinement.proofs.NewSessions.{enters_then_queues}
use Rattle.refinement.proofs.OpeningViews.{open_if_enough_reaches}
use Rattle.refinement.proofs.Parts.{Keeps, stays_still}

module _ {S : Type 0} (m : Meaning S) (f : ℕ) (c : Conf) (r : ℕ) (s : ReplicaState) (h : Matches m f c r s) where
  queue_in_view : (p : Stamped) → Has c.stamps p → InView m f c r s (queue s p)
  queue_in_view p came =
      move_in_view m f r c s (queue s p) (Queue p) h came (record { state = refl; said = refl; replies = refl })
      (stays_still f r (standing (local_state_of s))) h.points

  -- of the session of the view, or of an older one
  queue_and_drain_in_view : (p : Stamped) → Has c.stamps p → InView m f c r s (then_do (queue s p) (drain m Whole))
  queue_and_drain_in_view p came =
      in_view_then m f r c s (queue s p) (drain m Whole) h (queue_in_view p came) (λ d g. drain_in_view m f r d (queue s p).0 g)

-- ---- of a greater session

below_session : (s : ReplicaState) (p : Stamped) → s.view.session < p.session → Below s.view (session_view s p)
below_session s p less = record {
  at_most = record { leader = omega arith; session = omega (arith, less) };
  apart = λ e. let same : s.view.session ≡ p.session = ap (λ (v : View). v.session) e in omega (arith, less, same);
}

-- the view is entered, and the packet queued
abbrev arrived : ReplicaState → Stamped → Effect
arrived s p = then_do (enter s (session_view s p)) (λ t. queue t p)

arrived_keeps : (s : ReplicaState) (p : Stamped) → Keeps (standing (local_state_of s)) (standing (local_state_of (arrived s p).0))
arrived_keeps s p = let k = enter_keeps s (session_view s p) in
    record { last_normal = k.last_normal; next = k.next; sync_point = k.sync_point; log = k.log }

-- then the view starts where the replica is alone
abbrev opens : {S : Type 0} → Meaning S → ReplicaState → Stamped → Effect
opens m s p = then_do (arrived s p) (λ t. open_if_enough m Whole t.changes t)

enters_by : {S : Type 0} (m : Meaning S) (s : ReplicaState) (p : Stamped) → enter (begin_session s p) (session_view s p) ≡ arrived s p
    → new_session m Whole p s ≡ then_do (opens m s p) (drain m Whole)
unfolding enter_view
enters_by m s p same = ap (λ (e : Effect). then_do (then_do e (λ t. open_if_enough m Whole t.changes t)) (drain m Whole)) same

module _ {S : Type 0} (m : Meaning S) (f : ℕ) (c : Conf) (r : ℕ) (s : ReplicaState) (h : Matches m f c r s) where
  arrived_reaches : (p : Stamped) → Has c.stamps p → s.view.session < p.session → ReplicaReaches m f c r s (arrived s p)
  arrived_reaches p came less =
      let v : View = session_view s p in
      let was = h.inv.stamps p came in
      let one = enter_reaches m f c r s v h (record { greater = below_session s p less; given = (was.owner, was.owns) }) in
      let there = subst (λ (stamps : _). Has stamps p) (sym one.others.stamps) came in
      let two = queue_in_view m f (run m f c one.moves) r (enter s v).0 (matches_end m f r c s (enter s v) h one) p there in
      keeps_then m f r c s (enter s v) (λ t. queue t p) h one (enter_keeps s v) two.reaches (inl refl)

  opens_reaches : (p : Stamped) → Has c.stamps p → s.view.session < p.session → ReplicaReaches m f c r s (opens m s p)
  opens_reaches p came less =
      let one = arrived_reaches p came less in
      let t : ReplicaState = (arrived s p).0 in
      let two = open_if_enough_reaches m f r (run m f c one.moves) t (matches_end m f r c s (arrived s p) h one) in
      keeps_then m f r c s (arrived s p) (λ u. open_if_enough m Whole u.changes u) h one (arrived_keeps s p) two.reaches
      (inl two.view)

  new_session_reaches : (p : Stamped) → Has c.stamps p → s.view.session < p.session
      → ReplicaReaches m f c r s (new_session m Whole p s)
  new_session_reaches p came less =
      let same = enters_then_queues s p (own m f c r s h).queue.session less in
      subst (λ (e : Effect). ReplicaReaches m f c r s e) (sym (enters_by m s p same))
      (reaches_then_in_view m f r c s (opens m s p) (drain m Whole) h (opens_reaches p came less)
      (λ d g. drain_in_view m f r d (opens m s p).0 g))

  stamped_if_reaches : (b : Bool) (p : Stamped) → Has c.stamps p → nat_lt s.view.session p.session ≡ b
      → ReplicaReaches m f c r s (stamped_if m Whole b p s)
  stamped_if_reaches true p came e = new_session_reaches p came (ltb-true s.view.session p.session e)
  stamped_if_reaches false p came e = (queue_and_drain_in_view m f c r s h p came).reaches

  pub stamped_reaches : (p : Stamped) → Has c.stamps p → ReplicaReaches m f c r s (stamped m Whole p s)
  unfolding stamped
  stamped_reaches p came = stamped_if_reaches (nat_lt s.view.session p.session) p came refl
