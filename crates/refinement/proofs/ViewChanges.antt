-- What replicas tell a new leader is gathered by moves, and a late one is answered.
use Rattle.std.proofs.Common.{◌≡◌, ℕ, ◌+◌, ◌*◌, ◌<◌, Bool, true, false, Option, Some, None, refl, sym, ap, subst, ◌∙◌, arith}
use Rattle.std.proofs.Common.{inl, length, take}
use Rattle.std.specs.Option.{option_map}
use Rattle.std.specs.Prelude.{◌-◌, ◌&&◌, not}
use Rattle.std.proofs.lemmas.Bool.{and_parts}
use Rattle.nop_types.specs.Logs.{Whole}
use Rattle.nop_types.specs.Meaning.{Meaning}
use Rattle.nop_types.specs.Views.{is_view, join_of}
use Rattle.nop_types.specs.declared.view.View.{View}
use Rattle.nop_types.specs.declared.replica_state.Phase.{Phase}
use Rattle.nop_types.specs.declared.replica_state.Phase.TheVariants.{Normal, Change}
use Rattle.nop_types.specs.declared.peer.Change as peer
use Rattle.nop_types.specs.PlainChanges as plains
use Rattle.nop_types.specs.PlainChanges.{plain}
use Rattle.lemmas.proofs.Views.{is_view-true}
use Rattle.view_change.specs.Gathering.{Gathering}
use Rattle.replica_state.specs.declared.state.ReplicaState.{ReplicaState}
use Rattle.replica_state.specs.Moves.{keep_change, start_len, resend_start, open_if_enough}
use Rattle.replica_rows.specs.Rows.{enter_and_drain, view_change_request, gather, gather_by, take_change, view_change}
use Rattle.replica_state.specs.Sends.{Effect, when}
use Rattle.replica_state.specs.State.{leads, max_faults, is_other}
use Rattle.protocol.specs.Conf.{Conf, DidSay, HasOwner}
use Rattle.protocol.specs.LocalState.{standing}
use Rattle.protocol.specs.Runs.{KeepChange, Say, run}
use Rattle.protocol.specs.Said.{ViewChange, StartView, says}
use Rattle.protocol.proofs.Facts.{half_of}
use Rattle.protocol.proofs.Runs.{run_keeps}
use Rattle.refinement.specs.Projection.{local_state_of, plain_gathering}
use Rattle.refinement.specs.Replicas.{Matches, ReplicaReaches}
use Rattle.refinement.proofs.Parts.{Keeps}
use Rattle.refinement.proofs.Composing.{matches_end, move_reaches, nothing_reaches, keeps_then}
use Rattle.refinement.proofs.Entering.{enter_reaches, enter_keeps}
use Rattle.refinement.proofs.Gatherings.{counted_plain}
use Rattle.refinement.proofs.EnteringRows.{may_join}
use Rattle.refinement.proofs.Matching.{own, may_say_start}
use Rattle.refinement.proofs.NewSessions.{enters_only}
use Rattle.refinement.proofs.RoleRows.{other_from}
use Rattle.refinement.proofs.OpeningViews.{EntersNone, open_if_enough_reaches}

-- a change that another replica told
pub record ChangeSaid (f : ℕ) (c : Conf) (r : ℕ) (v : View) (x : peer.Change) : Type 0 where
  pub said : DidSay c.said x.sender v (ViewChange x.last_normal x.next x.log.sync_point x.log.entries)
  pub within : x.sender < 2 * f + 1
  pub apart : x.sender ≡ r → ⊥

-- moves do the step, which changes nothing that is noted but the view
record KeepsAll {S : Type 0} (m : Meaning S) (f : ℕ) (c : Conf) (r : ℕ) (s : ReplicaState) (e : Effect) : Type 0 where
  pub reaches : ReplicaReaches m f c r s e
  pub keeps : Keeps (standing (local_state_of s)) (standing (local_state_of e.0))

module _ {S : Type 0} (m : Meaning S) (f : ℕ) (r : ℕ) where
  -- ---- the view is entered first

  -- there is another replica
  not_alone : (c : Conf) (s : ReplicaState) (q : ℕ) → Matches m f c r s → q < 2 * f + 1 → (q ≡ r → ⊥) → 0 < max_faults s
  not_alone c s q h within apart =
      let half = half_of f s.config.replicas (own m f c r s h).replicas in
      let here = h.within in
      grind (arith, half, here, within, apart)

  request_by : (b : Bool) (c : Conf) (s : ReplicaState) (v : View) → Matches m f c r s → HasOwner c.installs v.session
      → 0 < max_faults s → not (is_view (join_of s.view v) s.view) ≡ b
      → KeepsAll m f c r s (when b (enter_and_drain m Whole (join_of s.view v)) s)
  request_by true c s v h given more e =
      subst (KeepsAll m f c r s) (sym (enters_only m s (join_of s.view v) more)) (record {
        reaches = enter_reaches m f c r s (join_of s.view v) h (may_join m f r c s v h given e);
        keeps = enter_keeps s (join_of s.view v);
      })
  request_by false c s v h given more e = record {
    reaches = nothing_reaches m f r c s s h refl h.points;
    keeps = record { last_normal = refl; next = refl; sync_point = refl; log = refl };
  }

  request_keeps : (c : Conf) (s : ReplicaState) (v : View) → Matches m f c r s → HasOwner c.installs v.session → 0 < max_faults s
      → KeepsAll m f c r s (view_change_request m Whole v s)
  request_keeps c s v h given more = request_by (not (is_view (join_of s.view v) s.view)) c s v h given more refl

  -- ---- while the view has not started, its leader keeps the change

  gather_by_moves : (o : Option (Gathering peer.Change)) (c : Conf) (s : ReplicaState) (x : peer.Change) → Matches m f c r s
      → ChangeSaid f c r s.view x
      → s.changes ≡ o → EntersNone m f c r s (gather m Whole o x s)
  gather_by_moves None c s x h change_said e = record { reaches = nothing_reaches m f r c s s h refl h.points; view = refl }
  gather_by_moves (Some g) c s x h change_said e =
      let number = (own m f c r s h).number in
      let one = move_reaches m f r c s (keep_change s g x) (KeepChange (plain_gathering g) (plain x)) h (record {
        gathers = ap (λ (o : Option (Gathering peer.Change)). option_map plain_gathering o) e;
        change = record { said = change_said.said; within = change_said.within; apart = λ same. change_said.apart (same ∙ number) };
      }) (record {
        state = ap (λ (y : Gathering plains.Change). record (local_state_of s) { changes = Some y }) (counted_plain g x);
        said = refl;
        replies = refl;
      }) h.points in
      let t : ReplicaState = (keep_change s g x).0 in
      let two = open_if_enough_reaches m f r (run m f c one.moves) t (matches_end m f r c s (keep_change s g x) h one) in
      record {
        reaches = keeps_then m f r c s (keep_change s g x) (λ y. open_if_enough m Whole y.changes y) h one
            (record { last_normal = refl; next = refl; sync_point = refl; log = refl }) two.reaches (inl two.view);
        view = two.view;
      }

  -- ---- then it answers a late one

  take_by : (p : Phase) (c : Conf) (s : ReplicaState) (x : peer.Change) → Matches m f c r s → ChangeSaid f c r s.view x → leads s ≡ true
      → s.status ≡ p → EntersNone m f c r s (gather_by m Whole p x s)
  take_by Change c s x h change_said leading e = gather_by_moves s.changes c s x h change_said refl
  take_by Normal c s x h change_said leading e = record {
    reaches = move_reaches m f r c s (resend_start Whole s x.sender)
        (Say (StartView (s.next - (length s.log.entries - start_len s)) s.log.sync_point (take (start_len s) s.log.entries))) h
        (may_say_start m f c r s h (record { normal = e; leads = leading }))
        (record { state = refl; said = refl; replies = refl }) h.points;
    view = refl;
  }

  -- a change told in this view, to its leader
  take_when : (b : Bool) (c : Conf) (s : ReplicaState) (v : View) (x : peer.Change) → Matches m f c r s → ChangeSaid f c r v x
      → (is_view v s.view && leads s) ≡ b → EntersNone m f c r s (when b (gather_by m Whole s.status x) s)
  take_when true c s v x h change_said e =
      let parts = and_parts (is_view v s.view) (leads s) e in
      let at : v ≡ s.view = is_view-true v s.view parts.0 in
      take_by s.status c s x h (subst (λ (w : View). ChangeSaid f c r w x) at change_said) parts.1 refl
  take_when false c s v x h change_said e = record { reaches = nothing_reaches m f r c s s h refl h.points; view = refl }

  take_change_reaches : (c : Conf) (s : ReplicaState) (v : View) (x : peer.Change) → Matches m f c r s → ChangeSaid f c r v x
      → EntersNone m f c r s (take_change m Whole v x s)
  take_change_reaches c s v x h change_said = take_when (is_view v s.view && leads s) c s v x h change_said refl

  -- ---- both

  change_said_later : (c : Conf) (s : ReplicaState) (e : Effect) (v : View) (x : peer.Change) → Matches m f c r s
      → (one : ReplicaReaches m f c r s e) → ChangeSaid f c r v x → ChangeSaid f (run m f c one.moves) r v x
  change_said_later c s e v x h one change_said = record {
    said = (run_keeps m f c one.moves h.inv one.may).1.sent.said
        (says x.sender v (ViewChange x.last_normal x.next x.log.sync_point x.log.entries)) change_said.said;
    within = change_said.within;
    apart = change_said.apart;
  }

  pub view_change_by_moves : (c : Conf) (s : ReplicaState) (v : View) (x : peer.Change) → Matches m f c r s → ChangeSaid f c r v x
      → ReplicaReaches m f c r s (view_change m Whole v x s)
  unfolding view_change
  view_change_by_moves c s v x h change_said =
      let e : Effect = view_change_request m Whole v s in
      let given = h.inv.said_views (says x.sender v (ViewChange x.last_normal x.next x.log.sync_point x.log.entries)) change_said.said in
      let one = request_keeps c s v h given (not_alone c s x.sender h change_said.within change_said.apart) in
      let two = take_change_reaches (run m f c one.reaches.moves) e.0 v x (matches_end m f r c s e h one.reaches)
      (change_said_later c s e v x h one.reaches change_said) in
      keeps_then m f r c s e (take_change m Whole v x) h one.reaches one.keeps two.reaches (inl two.view)

  -- told by another replica
  pub view_change_reaches : (c : Conf) (s : ReplicaState) (v : View) (x : peer.Change) → Matches m f c r s → is_other s x.sender ≡ true
      → DidSay c.said x.sender v (ViewChange x.last_normal x.next x.log.sync_point x.log.entries)
      → ReplicaReaches m f c r s (view_change m Whole v x s)
  view_change_reaches c s v x h other said =
      let from = other_from m f c r s x.sender h other in
      view_change_by_moves c s v x h (record {
        said = said;
        within = from.within;
        apart = λ e. from.apart (e ∙ sym (own m f c r s h).number);
      })
