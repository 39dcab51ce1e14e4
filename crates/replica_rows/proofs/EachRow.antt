-- What holds of each row holds of all that arrives.
use Rattle.std.proofs.Common.{◌≡◌, ℕ, Bool, true, false, refl}
use Rattle.std.specs.Prelude.{◌&&◌}
use Rattle.nop_types.specs.Logs.{Log, Keeping}
use Rattle.nop_types.specs.Meaning.{Meaning}
use Rattle.nop_types.specs.declared.view.View.{View}
use Rattle.nop_types.specs.declared.input.Tick.{Tick}
use Rattle.nop_types.specs.declared.input.Tick.TheVariants as ticks
use Rattle.nop_types.specs.declared.request.Request.{Request}
use Rattle.nop_types.specs.declared.datagram.Stamped.{Stamped}
use Rattle.nop_types.specs.declared.peer.Peer.{Peer}
use Rattle.nop_types.specs.declared.peer.Change.{Change}
use Rattle.nop_types.specs.declared.peer.Body.{Body}
use Rattle.nop_types.specs.declared.peer.Body.TheVariants as bodies
use Rattle.replica_state.specs.declared.state.ReplicaState.{ReplicaState}
use Rattle.replica_state.specs.State.{leads, is_normal, is_other, is_from_leader, is_to_leader}
use Rattle.replica_state.specs.Sends.{Effect, still, when}
use Rattle.replica_state.specs.Repeating.{resend}
use Rattle.replica_rows.specs.Rows as rows
use Rattle.replica_rows.specs.Messages.{loads_in, Arrival, Packet, PeerMessage, Ticked, from_leader, from_follower, by_role, dispatch, on_body}
use Rattle.replica_rows.specs.Messages.{on_message, ticked, arrive}

-- a message with this body
abbrev pub saying : Peer → Body → Peer
saying p body = record p { body = body }

abbrev pub change_in : Peer → View → ℕ → Log → Change
change_in p u x l = record { sender = p.sender; last_normal = u; next = x; log = l }

-- what is known of the state, of a stamped request and of a message of another replica
module _ {S : Type 0} (m : Meaning S) (k : Keeping) (I : ReplicaState → Type 0) (P : Stamped → Type 0) (G : Peer → Type 0) where
  -- each row of the step table has this
  pub record EachRow (Q : ReplicaState → Effect → Type 0) : Type 0 where
    pub nothing : (s : ReplicaState) → I s → Q s (still s)
    pub stamped : (s : ReplicaState) (p : Stamped) → I s → P p → Q s (rows.stamped m k p s)
    pub request : (s : ReplicaState) (p : Peer) → I s → G (saying p bodies.ViewChangeReq) → Q s (rows.view_change_request m k p.view s)
    pub view_change : (s : ReplicaState) (p : Peer) (u : View) (x : ℕ) (l : Log) → I s → G (saying p (bodies.ViewChange u x l))
        → Q s (rows.view_change m k p.view (change_in p u x l) s)
    pub start_view : (s : ReplicaState) (p : Peer) (x : ℕ) (l : Log) → I s → G (saying p (bodies.StartView x l))
        → Q s (rows.start_view m k p.sender p.view x l s)
    pub gap_commit : (s : ReplicaState) (p : Peer) (n : ℕ) → I s → G (saying p (bodies.GapCommit n)) → Q s (rows.gap_commit m k n s)
    pub found : (s : ReplicaState) (p : Peer) (n : ℕ) (r : Request) → I s → G (saying p (bodies.Found n r)) → Q s (rows.found m k n r s)
    pub sync_prepare : (s : ReplicaState) (p : Peer) (l : Log) → I s → G (saying p (bodies.SyncPrepare l)) → Q s (rows.sync_prepare m k l s)
    pub sync_commit : (s : ReplicaState) (p : Peer) (n : ℕ) → I s → G (saying p (bodies.SyncCommit n)) → Q s (rows.sync_commit m k n s)
    pub slot_lookup : (s : ReplicaState) (p : Peer) (n : ℕ) → I s → G (saying p (bodies.SlotLookup n))
        → Q s (rows.slot_lookup m k p.sender n s)
    pub gap_reply : (s : ReplicaState) (p : Peer) (n : ℕ) → I s → G (saying p (bodies.GapRep n)) → Q s (rows.gap_reply m k p.sender n s)
    pub sync_reply : (s : ReplicaState) (p : Peer) (n : ℕ) → I s → G (saying p (bodies.SyncRep n)) → Q s (rows.sync_reply m k p.sender n s)
    pub suspect : (s : ReplicaState) → I s → Q s (rows.suspect m k s)
    pub unheard : (s : ReplicaState) → I s → Q s (still (record s { heard = false }))
    pub resend : (s : ReplicaState) → I s → Q s (resend k s)
    pub sync : (s : ReplicaState) → I s → Q s (rows.sync m k s)

  module _ (Q : ReplicaState → Effect → Type 0) (each : EachRow Q) where
    when_row : (b : Bool) (f : ReplicaState → Effect) (s : ReplicaState) → I s → (b ≡ true → Q s (f s)) → Q s (when b f s)
    when_row true f s i h = h refl
    when_row false f s i h = each.nothing s i

    -- ---- messages

    from_leader_row : (p : Peer) (body : Body) (s : ReplicaState) → I s → G (saying p body) → Q s (from_leader m k body s)
    from_leader_row p (bodies.GapCommit n) s i g = each.gap_commit s p n i g
    from_leader_row p (bodies.Found n r) s i g = each.found s p n r i g
    from_leader_row p (bodies.SyncPrepare l) s i g = each.sync_prepare s p l i g
    from_leader_row p (bodies.SyncCommit n) s i g = each.sync_commit s p n i g
    from_leader_row p _ s i g = each.nothing s i

    from_follower_row : (p : Peer) (body : Body) (s : ReplicaState) → I s → G (saying p body) → Q s (from_follower m k p.sender body s)
    from_follower_row p (bodies.SlotLookup n) s i g = each.slot_lookup s p n i g
    from_follower_row p (bodies.GapRep n) s i g = each.gap_reply s p n i g
    from_follower_row p (bodies.SyncRep n) s i g = each.sync_reply s p n i g
    from_follower_row p _ s i g = each.nothing s i

    by_role_row : (a b : Bool) (p : Peer) (body : Body) (s : ReplicaState) → I s → G (saying p body)
        → Q s (by_role m k a b p.sender body s)
    by_role_row true b p body s i g = from_leader_row p body s i g
    by_role_row false true p body s i g = from_follower_row p body s i g
    by_role_row false false p body s i g = each.nothing s i

    in_view_row : (p : Peer) (body : Body) (s : ReplicaState) → I s → G (saying p body) → Q s (dispatch m k p.sender p.view body s)
    in_view_row p body s i g = by_role_row (is_from_leader s p.view p.sender) (is_to_leader s p.view) p body s i g

    body_row : (p : Peer) (body : Body) (s : ReplicaState) → I s → G (saying p body) → Q s (on_body m k p body s)
    body_row p bodies.ViewChangeReq s i g = each.request s p i g
    body_row p (bodies.ViewChange u x l) s i g = each.view_change s p u x l i g
    body_row p (bodies.StartView x l) s i g = each.start_view s p x l i g
    body_row p body s i g = in_view_row p body s i g

    message_row : (s : ReplicaState) (p : Peer) → I s → (is_other s p.sender ≡ true → G p) → Q s (on_message m k p s)
    unfolding on_message
    message_row s p i g = when_row (is_other s p.sender) (on_body m k p p.body) s i (λ e. body_row p p.body s i (g e))

    -- ---- ticks

    watch_row : (a b : Bool) (s : ReplicaState) → I s → Q s (rows.watch_if m k a b s)
    watch_row true b s i = each.nothing s i
    watch_row false true s i = each.unheard s i
    watch_row false false s i = each.suspect s i

    tick_row : (s : ReplicaState) (tick : Tick) → I s → Q s (ticked m k tick s)
    tick_row s ticks.Suspect i = each.suspect s i
    tick_row s ticks.Watch i = watch_row (is_normal s.status && leads s) s.heard s i
    tick_row s ticks.Resend i = each.resend s i
    tick_row s ticks.Sync i = each.sync s i
    tick_row s _ i = each.nothing s i

    -- ---- all that arrives

    pub arrive_row : (s : ReplicaState) (a : Arrival) → I s → ((p : Stamped) → a ≡ Packet p → P p)
        → ((p : Peer) → a ≡ PeerMessage p → is_other s p.sender ≡ true → G p)
        → Q s (arrive m k s a)
    unfolding arrive
    arrive_row s (Packet p) i f g = each.stamped s p i (f p refl)
    arrive_row s (PeerMessage p) i f g = when_row (loads_in m p.body) (on_message m k p) s i (λ _. message_row s p i (g p refl))
    arrive_row s (Ticked tick) i f g = tick_row s tick i
