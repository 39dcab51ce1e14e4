-- Rows that enter a greater view.
use Rattle.std.proofs.Common.{◌≡◌, ℕ, ◌+◌, Bool, true, false, List, max, refl, sym, ap, subst, arith, inl, inr}
use Rattle.std.specs.Prelude.{◌&&◌, not, nat_lt}
use Rattle.std.proofs.lemmas.Bool.{cases_lt}
use Rattle.nop_types.specs.Logs.{Whole}
use Rattle.nop_types.specs.Meaning.{Meaning}
use Rattle.nop_types.specs.Views.{Below, is_view, join_of}
use Rattle.nop_types.specs.declared.view.View.{View}
use Rattle.lemmas.proofs.Bools.{not-both}
use Rattle.lemmas.proofs.Views.{is_view-same}
use Rattle.replica_state.specs.declared.state.ReplicaState.{ReplicaState}
use Rattle.replica_state.specs.Moves.{enter, open_if_enough, drain}
use Rattle.replica_rows.specs.Rows.{enter_view, enter_and_drain, view_change_request, last_leader, next_leader, suspect, watch_if, watch}
use Rattle.replica_state.specs.State.{leads, is_normal}
use Rattle.protocol.specs.Conf.{Conf, Install, HasOwner}
use Rattle.protocol.specs.Moves.{MayEnter}
use Rattle.protocol.specs.Runs.{run}
use Rattle.refinement.specs.Projection.{local_state_of}
use Rattle.refinement.specs.Replicas.{Matches, ReplicaReaches}
use Rattle.refinement.proofs.Composing.{matches_end, nothing_reaches, reaches_then_in_view, keeps_then, when_reaches}
use Rattle.refinement.proofs.Draining.{drain_in_view}
use Rattle.refinement.proofs.Entering.{enter_reaches, enter_keeps}
use Rattle.refinement.proofs.Matching.{session_given}
use Rattle.refinement.proofs.OpeningViews.{open_if_enough_reaches}

-- ---- greater views

below_next : (v : View) → Below v (next_leader v)
below_next v = record {
  at_most = record { leader = omega arith; session = omega arith };
  apart = λ e. let same : v.leader ≡ v.leader + 1 = ap (λ (x : View). x.leader) e in omega (arith, same);
}

-- the least view above both, where it is another
below_join : (v w : View) → not (is_view (join_of v w) v) ≡ true → Below v (join_of v w)
below_join v w e = record {
  at_most = record { leader = omega arith; session = omega arith };
  apart = λ same. not-both (is_view (join_of v w) v) e (is_view-same (join_of v w) v (sym same));
}

owner_of_greater : (installs : List Install) (a b : ℕ) → HasOwner installs a → HasOwner installs b → HasOwner installs (max a b)
owner_of_greater installs a b x y = elim (cases_lt a b) [
  | inl low ↦ (let is : b ≡ max a b = omega (arith, low) in subst (HasOwner installs) is y)
  | inr high ↦ (let is : a ≡ max a b = omega (arith, high) in subst (HasOwner installs) is x)
]

module _ {S : Type 0} (m : Meaning S) (f : ℕ) (r : ℕ) where
  -- the view above the own one and another, whose session was given out
  pub may_join : (c : Conf) (s : ReplicaState) (v : View) → Matches m f c r s → HasOwner c.installs v.session
      → not (is_view (join_of s.view v) s.view) ≡ true → MayEnter c (local_state_of s) (join_of s.view v)
  may_join c s v h given e = record {
    greater = below_join s.view v e;
    given = owner_of_greater c.installs s.view.session v.session (session_given m f c r s h) given;
  }

  -- a replica that is alone opens the view at once
  pub enter_view_reaches : (c : Conf) (s : ReplicaState) (v : View) → Matches m f c r s → MayEnter c (local_state_of s) v
      → ReplicaReaches m f c r s (enter_view m Whole v s)
  unfolding enter_view
  enter_view_reaches c s v h up =
      let one = enter_reaches m f c r s v h up in
      let two = open_if_enough_reaches m f r (run m f c one.moves) (enter s v).0 (matches_end m f r c s (enter s v) h one) in
      keeps_then m f r c s (enter s v) (λ t. open_if_enough m Whole t.changes t) h one (enter_keeps s v) two.reaches (inl two.view)

  pub enter_and_drain_reaches : (c : Conf) (s : ReplicaState) (v : View) → Matches m f c r s → MayEnter c (local_state_of s) v
      → ReplicaReaches m f c r s (enter_and_drain m Whole v s)
  enter_and_drain_reaches c s v h up =
      reaches_then_in_view m f r c s (enter_view m Whole v s) (drain m Whole) h (enter_view_reaches c s v h up)
      (λ d g. drain_in_view m f r d (enter_view m Whole v s).0 g)

  -- ---- the view that another asks for

  pub view_change_request_reaches : (c : Conf) (s : ReplicaState) (v : View) → Matches m f c r s → HasOwner c.installs v.session
      → ReplicaReaches m f c r s (view_change_request m Whole v s)
  view_change_request_reaches c s v h given = let w = join_of s.view v in
      when_reaches m f r c s (not (is_view w s.view)) (enter_and_drain m Whole w) h (λ e.
      enter_and_drain_reaches c s w h (may_join c s v h given e))

  -- ---- the next leader's view

  pub suspect_reaches : (c : Conf) (s : ReplicaState) → Matches m f c r s → ReplicaReaches m f c r s (suspect m Whole s)
  suspect_reaches c s h = let w = next_leader s.view in
      when_reaches m f r c s (nat_lt s.view.leader last_leader) (enter_and_drain m Whole w) h (λ e.
      enter_and_drain_reaches c s w h (record { greater = below_next s.view; given = session_given m f c r s h }))

  watch_by : (leading heard : Bool) (c : Conf) (s : ReplicaState) → Matches m f c r s
      → ReplicaReaches m f c r s (watch_if m Whole leading heard s)
  watch_by true heard c s h = nothing_reaches m f r c s s h refl h.points
  watch_by false true c s h = nothing_reaches m f r c s (record s { heard = false }) h refl h.points
  watch_by false false c s h = suspect_reaches c s h

  pub watch_reaches : (c : Conf) (s : ReplicaState) → Matches m f c r s → ReplicaReaches m f c r s (watch m Whole s)
  watch_reaches c s h = watch_by (is_normal s.status && leads s) s.heard c s h
