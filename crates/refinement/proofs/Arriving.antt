-- Whatever arrives, the row that takes it is a list of moves.
use Rattle.std.proofs.Common.{◌≡◌, ℕ, true, refl}
use Rattle.nop_types.specs.declared.input.Tick.{Tick}
use Rattle.nop_types.specs.declared.input.Tick.TheVariants as ticks
use Rattle.nop_types.specs.declared.peer.Body.{Body}
use Rattle.nop_types.specs.declared.peer.Body.TheVariants as bodies
use Rattle.nop_types.specs.declared.peer.Peer.{Peer}
use Rattle.nop_types.specs.Lists.{Has}
use Rattle.nop_types.specs.Logs.{Whole}
use Rattle.nop_types.specs.Meaning.{Meaning}
use Rattle.replica_state.specs.declared.state.ReplicaState.{ReplicaState}
use Rattle.replica_rows.specs.Messages.{loads_in, Arrival, Packet, PeerMessage, Ticked, dispatch, on_body, on_message, ticked, arrive}
use Rattle.replica_state.specs.State.{is_other}
use Rattle.protocol.specs.Conf.{Conf}
use Rattle.protocol.specs.Said.{says}
use Rattle.refinement.specs.Replicas.{ReplicasReach}
use Rattle.refinement.specs.Projection.{word_of, said_of}
use Rattle.refinement.specs.Replicas.{Matches, ReplicaReaches, Came}
use Rattle.refinement.proofs.Adopting.{start_view_reaches}
use Rattle.refinement.proofs.Composing.{nothing_reaches, when_reaches}
use Rattle.refinement.proofs.EnteringRows.{view_change_request_reaches, suspect_reaches, watch_reaches}
use Rattle.refinement.proofs.ResendRows.{resend_in_view, sync_row_in_view}
use Rattle.refinement.proofs.RoleRows.{other_from, message_in_view}
use Rattle.refinement.proofs.StampedRow.{stamped_reaches}
use Rattle.refinement.proofs.ViewChanges.{view_change_reaches}

module _ {S : Type 0} (m : Meaning S) (f : ℕ) (c : Conf) (r : ℕ) (s : ReplicaState) (h : Matches m f c r s) where
  in_its_view : (p : Peer) (body : Body) → is_other s p.sender ≡ true → Has c.said (says p.sender p.view (word_of body))
      → ReplicaReaches m f c r s (dispatch m Whole p.sender p.view body s)
  in_its_view p body other came =
      (message_in_view m f c r s h p.sender p.view body (other_from m f c r s p.sender h other) came).reaches

  body_reaches : (p : Peer) (body : Body) → is_other s p.sender ≡ true → Has c.said (says p.sender p.view (word_of body))
      → ReplicaReaches m f c r s (on_body m Whole p body s)
  body_reaches p bodies.ViewChangeReq other came = view_change_request_reaches m f r c s p.view h
      (h.inv.said_views (says p.sender p.view (word_of bodies.ViewChangeReq)) came)
  body_reaches p (bodies.ViewChange u x l) other came =
      view_change_reaches m f r c s p.view (record { sender = p.sender; last_normal = u; next = x; log = l }) h other came
  body_reaches p (bodies.StartView x l) other came = start_view_reaches m f r c s p.sender p.view x l h other came
  body_reaches p body other came = in_its_view p body other came

  message_reaches : (p : Peer) → Has c.said (said_of p) → ReplicaReaches m f c r s (on_message m Whole p s)
  unfolding on_message
  message_reaches p came =
      when_reaches m f r c s (is_other s p.sender) (on_body m Whole p p.body) h (λ e. body_reaches p p.body e came)

  tick_reaches : (tick : Tick) → ReplicaReaches m f c r s (ticked m Whole tick s)
  tick_reaches ticks.Suspect = suspect_reaches m f r c s h
  tick_reaches ticks.Watch = watch_reaches m f r c s h
  tick_reaches ticks.Resend = (resend_in_view m f c r s h).reaches
  tick_reaches ticks.Sync = (sync_row_in_view m f c r s h).reaches
  tick_reaches _ = nothing_reaches m f r c s s h refl h.points

  arrival_reaches : (a : Arrival) → Came c a → ReplicaReaches m f c r s (arrive m Whole s a)
  unfolding arrive
  arrival_reaches (Packet p) came = stamped_reaches m f c r s h p came
  arrival_reaches (PeerMessage p) came =
      when_reaches m f r c s (loads_in m p.body) (on_message m Whole p) h (λ _. message_reaches p came)
  arrival_reaches (Ticked tick) came = tick_reaches tick

pub replicas_reach : {S : Type 0} (m : Meaning S) → ReplicasReach m
replicas_reach m f c r s a h came = arrival_reaches m f c r s h a came
