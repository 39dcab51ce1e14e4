-- What is in front of a receiver is taken by moves.
use Rattle.std.proofs.Common.{◌≡◌, ℕ, zero, suc, ◌+◌, ◌-◌, Bool, true, false, None, refl, length}
use Rattle.std.specs.Prelude.{◌&&◌, ◌==◌, not}
use Rattle.std.proofs.lemmas.Bool.{and_parts}
use Rattle.nop_types.specs.declared.limits.TheConstants.{MAX_SLOTS}
use Rattle.nop_types.specs.declared.replica_state.Phase.TheVariants.{Normal}
use Rattle.nop_types.specs.declared.request.Request.{Request}
use Rattle.nop_types.specs.declared.request.Entry.TheVariants.{NoOp, Req}
use Rattle.nop_types.specs.Logs.{Whole, unsynced}
use Rattle.nop_types.specs.Meaning.{Meaning}
use Rattle.oum_receiver.specs.Front.{Front, Nothing, Message, Dropped}
use Rattle.oum_receiver.specs.Receiving.{front_of}
use Rattle.replica_state.specs.declared.state.ReplicaState.{ReplicaState}
use Rattle.replica_state.specs.State.{PointsMeet, is_normal, waits, has_room, drains, leads}
use Rattle.replica_state.specs.Sends.{Effect}
use Rattle.replica_state.specs.Moves.{take_front, open_gap, ask_if, drain_drop, drain_at, drain_by, drain}
use Rattle.protocol.specs.Conf.{Conf}
use Rattle.protocol.specs.LocalState.{standing}
use Rattle.protocol.specs.Runs.{TakeFront, OpenGap, Say}
use Rattle.protocol.specs.Said.{Plain}
use Rattle.refinement.specs.Projection.{local_state_of}
use Rattle.refinement.specs.Replicas.{Matches}
use Rattle.refinement.proofs.Composing.{InView, in_view_then, nothing_in_view, move_in_view}
use Rattle.refinement.proofs.Parts.{Stays, stays_still}
use Rattle.refinement.proofs.Same.{take_front_same, open_gap_same}
use Rattle.refinement.proofs.Staying.{normal_from, no_gap_from, append_stays}

-- what lets a replica take what is in front
pub record MayDrain (s : ReplicaState) : Type 0 where
  pub normal : s.status ≡ Normal
  pub no_gap : s.gap ≡ None

may_drain : (s : ReplicaState) → drains Whole s ≡ true → MayDrain s
may_drain s e =
    let parts = and_parts (is_normal s.status) (not (waits s.gap) && has_room Whole s) e in
    let rest = and_parts (not (waits s.gap)) (has_room Whole s) parts.1 in
    record { normal = normal_from s.status parts.0; no_gap = no_gap_from s.gap rest.0 }

module _ {S : Type 0} (m : Meaning S) (f : ℕ) (r : ℕ) where
  opened_stays : (c : Conf) (s : ReplicaState) → Matches m f c r s
      → Stays f r (standing (local_state_of s)) (standing (local_state_of (open_gap Whole s).0))
  unfolding open_gap
  opened_stays c s h = append_stays m f c r s NoOp h

  opened_points : (c : Conf) (s : ReplicaState) → Matches m f c r s → PointsMeet (open_gap Whole s).0
  unfolding open_gap
  opened_points c s h = h.points

  -- a leader's gap
  pub open_gap_in_view : (c : Conf) (s : ReplicaState) → Matches m f c r s → MayDrain s → leads s ≡ true
      → InView m f c r s (open_gap Whole s)
  open_gap_in_view c s h may leading =
      move_in_view m f r c s (open_gap Whole s) OpenGap h
      (record { may_lead = record { normal = may.normal; leads = leading }; none_waits = may.no_gap })
      (open_gap_same s) (opened_stays c s h) (opened_points c s h)

  take_front_in_view : (c : Conf) (s : ReplicaState) (q : Request) → Matches m f c r s → MayDrain s → front_of s.receiver ≡ Message q
      → InView m f c r s (take_front m Whole s q)
  take_front_in_view c s q h may front =
      move_in_view m f r c s (take_front m Whole s q) (TakeFront q) h
      (record { normal = may.normal; no_gap = may.no_gap; front = front })
      (take_front_same m s q) (append_stays m f c r s (Req q) h) h.points

  ask_in_view : (b : Bool) (c : Conf) (s : ReplicaState) → Matches m f c r s → InView m f c r s (ask_if Whole b s)
  ask_in_view true c s h = nothing_in_view m f r c s s h refl h.points
  ask_in_view false c s h =
      move_in_view m f r c s (ask_if Whole false s) (Say Plain) h (record { true = tt; point = tt })
      (record { state = refl; said = refl; replies = refl }) (stays_still f r (standing (local_state_of s))) h.points

  drop_in_view : (b : Bool) (again : ReplicaState → Effect) (c : Conf) (s : ReplicaState) → Matches m f c r s → MayDrain s → leads s ≡ b
      → ((d : Conf) (t : ReplicaState) → Matches m f d r t → InView m f d r t (again t))
      → InView m f c r s (drain_drop Whole again b s)
  drop_in_view true again c s h may leading next =
      in_view_then m f r c s (open_gap Whole s) again h (open_gap_in_view c s h may leading) (λ d g. next d (open_gap Whole s).0 g)
  drop_in_view false again c s h may leading next = ask_in_view (s.asked == length s.log.entries + 1) c s h

  front_in_view : (b : Bool) (front : Front) (again : ReplicaState → Effect) (c : Conf) (s : ReplicaState) → Matches m f c r s
      → drains Whole s ≡ b → front_of s.receiver ≡ front
      → ((d : Conf) (t : ReplicaState) → Matches m f d r t → InView m f d r t (again t))
      → InView m f c r s (drain_at m Whole again s b front)
  front_in_view true (Message q) again c s h may front next =
      in_view_then m f r c s (take_front m Whole s q) again h (take_front_in_view c s q h (may_drain s may) front)
      (λ d g. next d (take_front m Whole s q).0 g)
  front_in_view true Dropped again c s h may front next = drop_in_view (leads s) again c s h (may_drain s may) refl next
  front_in_view true Nothing again c s h may front next = nothing_in_view m f r c s s h refl h.points
  front_in_view false front again c s h may _ next = nothing_in_view m f r c s s h refl h.points

  drain_by_in_view : (n : ℕ) (c : Conf) (s : ReplicaState) → Matches m f c r s → InView m f c r s (drain_by m Whole n s)
  drain_by_in_view zero c s h = nothing_in_view m f r c s s h refl h.points
  drain_by_in_view (suc n) c s h =
      front_in_view (drains Whole s) (front_of s.receiver) (drain_by m Whole n) c s h refl refl (λ d t g. drain_by_in_view n d t g)

  -- the whole drain
  pub drain_in_view : (c : Conf) (s : ReplicaState) → Matches m f c r s → InView m f c r s (drain m Whole s)
  unfolding drain
  drain_in_view c s h = drain_by_in_view (MAX_SLOTS - unsynced Whole s.log) c s h
