-- What each move keeps each row keeps, but for the rows that let the sync point rise.
use Rattle.std.proofs.Common.{◌≡◌, ℕ, ◌+◌, ◌-◌, Bool, true, false, Option, Some, None, refl, List, [], ◌∷◌, ◌++◌, length}
use Rattle.std.specs.Prelude.{not, nat_le, nat_lt, ◌==◌, ◌&&◌}
use Rattle.std.specs.List.{AllByRecursion}
use Rattle.std.proofs.lemmas.Bool.{and_parts}
use Rattle.nop_types.specs.declared.limits.TheConstants.{NUMBER_END}
use Rattle.nop_types.specs.Logs.{Log, Keeping, length_of}
use Rattle.nop_types.specs.Meaning.{Meaning}
use Rattle.nop_types.specs.Views.{is_view, join_of}
use Rattle.nop_types.specs.declared.view.View.{View}
use Rattle.nop_types.specs.declared.replica_state.Phase.{Phase}
use Rattle.nop_types.specs.declared.replica_state.Phase.TheVariants.{Normal, Change}
use Rattle.nop_types.specs.declared.request.Request.{Request}
use Rattle.nop_types.specs.declared.datagram.Stamped.{Stamped}
use Rattle.nop_types.specs.declared.peer.Peer.{Peer}
use Rattle.nop_types.specs.declared.peer.Change as peer
use Rattle.nop_types.specs.declared.peer.Body.TheVariants as bodies
use Rattle.slot_votes.specs.Agreement.{Agreement}
use Rattle.oum_receiver.specs.Front.{Front, Dropped}
use Rattle.oum_receiver.specs.Receiving.{front_of}
use Rattle.replica_log.specs.Answer.{Answer, Below, Found, GapAgain, Begin, answer_of}
use Rattle.replica_log.specs.Answer as answers
use Rattle.view_change.specs.Gathering.{Gathering}
use Rattle.replica_state.specs.declared.sending.Sending.{Sending}
use Rattle.replica_state.specs.declared.state.ReplicaState.{ReplicaState}
use Rattle.replica_state.specs.State.{leads, waits, has_room, may_append, may_adopt}
use Rattle.replica_state.specs.Sends.{Effect, still, then_do, when, to_replica, to_leader, to_all}
use Rattle.replica_state.specs.Moves.{queue, begin_session, session_view, hear, fill, open_gap, write_gap, add_gap, count_gap_vote, drain}
use Rattle.replica_state.specs.Moves.{change_sent, enter, adopt, open_view, open_if_enough, keep_change, resend_start, overlay, send_synced}
use Rattle.replica_state.specs.Repeating.{gap_again, lookup_again, change_again, resend_by, resend}
use Rattle.replica_rows.specs.Rows as rows
use Rattle.replica_rows.proofs.EachRow.{saying, change_in, EachRow}

-- an invariant of the state, and what holds of all that is sent
module _ (I : ReplicaState → Type 0) (X : Sending → Type 0) where
  pub record Kept (e : Effect) : Type 0 where
    pub state : I e.0
    pub sends : AllByRecursion X e.1

  pub all_behind : (a b : List Sending) → AllByRecursion X a → AllByRecursion X b → AllByRecursion X (a ++ b)
  all_behind [] b f g = g
  all_behind (x ∷ a) b f g = (f.0, all_behind a b f.1 g)

  pub still_kept : (s : ReplicaState) → I s → Kept (still s)
  still_kept s i = record { state = i; sends = tt }

  pub then_kept : (e : Effect) (f : ReplicaState → Effect) → Kept e → (I e.0 → Kept (f e.0)) → Kept (then_do e f)
  then_kept e f h g =
      let n = g h.state in
      record { state = n.state; sends = all_behind e.1 (f e.0).1 h.sends n.sends }

  pub when_kept : (b : Bool) (f : ReplicaState → Effect) (s : ReplicaState) → I s → (b ≡ true → Kept (f s)) → Kept (when b f s)
  when_kept true f s i h = h refl
  when_kept false f s i h = still_kept s i

module _ {S : Type 0} (m : Meaning S) (k : Keeping) (I : ReplicaState → Type 0) (P : Stamped → Type 0) (G : Peer → Type 0)
    (X : Sending → Type 0) (Q : ReplicaState → Effect → Type 0) where
  -- each move keeps them; and what is wanted of a row, of those that let the sync point rise too
  pub record EachMove : Type 0 where
    pub ends : (s : ReplicaState) (e : Effect) → I s → Kept I X e → Q s e
    pub sync_commit : (s : ReplicaState) (p : Peer) (n : ℕ) → I s → G (saying p (bodies.SyncCommit n)) → Q s (rows.sync_commit m k n s)
    pub sync_reply : (s : ReplicaState) (p : Peer) (n : ℕ) → I s → G (saying p (bodies.SyncRep n)) → Q s (rows.sync_reply m k p.sender n s)
    pub sync : (s : ReplicaState) → I s → Q s (rows.sync m k s)
    pub drain : (s : ReplicaState) → I s → Kept I X (drain m k s)
    pub queue : (s : ReplicaState) (p : Stamped) → I s → P p → I (queue s p).0
    pub session : (s : ReplicaState) (p : Stamped) → I s → P p → Kept I X (enter (begin_session s p) (session_view s p))
    pub join : (s : ReplicaState) (p : Peer) → I s → G p → Kept I X (enter s (join_of s.view p.view))
    pub next : (s : ReplicaState) → I s → nat_lt s.view.leader rows.last_leader ≡ true → Kept I X (enter s (rows.next_leader s.view))
    pub opens : (s : ReplicaState) (g : Gathering peer.Change) → I s → s.changes ≡ Some g → nat_lt g.f (length g.changes) ≡ true
        → Kept I X (open_view m k g s)
    pub gather : (s : ReplicaState) (p : Peer) (u : View) (x : ℕ) (l : Log) (g : Gathering peer.Change) → I s
        → G (saying p (bodies.ViewChange u x l)) → s.changes ≡ Some g → I (keep_change s g (change_in p u x l)).0
    pub start_again : (s : ReplicaState) (p : Peer) → I s → G p → AllByRecursion X (resend_start k s p.sender).1
    pub adopt : (s : ReplicaState) (p : Peer) (x : ℕ) (l : Log) → I s → G (saying p (bodies.StartView x l)) → Kept I X (adopt m k s p.view x l)
    pub write_gap : (s : ReplicaState) (p : Peer) (n : ℕ) → I s → G (saying p (bodies.GapCommit n)) → Kept I X (write_gap k (hear s) n)
    pub add_gap : (s : ReplicaState) → I s → may_append k s ≡ true → Kept I X (add_gap k (hear s))
    pub fill : (s : ReplicaState) (p : Peer) (n : ℕ) (r : Request) → I s → G (saying p (bodies.Found n r)) → may_append k s ≡ true
        → Kept I X (fill m k (hear s) r)
    pub overlay : (s : ReplicaState) (p : Peer) (l : Log) → I s → G (saying p (bodies.SyncPrepare l))
        → nat_le (s.next + (length_of k l - length_of k s.log)) NUMBER_END ≡ true → Kept I X (overlay m k (hear s) l)
    pub synced : (s : ReplicaState) (p : Peer) → I s → G p → AllByRecursion X (send_synced k s p.sender).1
    pub found_again : (s : ReplicaState) (p : Peer) (n : ℕ) (r : Request) → I s → G (saying p (bodies.SlotLookup n))
        → answer_of k s.log (waits s.gap) n ≡ Found r → AllByRecursion X (to_replica s p.sender (bodies.Found n r))
    pub gap_told : (s : ReplicaState) (p : Peer) (n : ℕ) → I s → G (saying p (bodies.SlotLookup n))
        → AllByRecursion X (to_replica s p.sender (bodies.GapCommit n))
    pub open_gap : (s : ReplicaState) (n : ℕ) → I s → answer_of k s.log (waits s.gap) n ≡ Begin → nat_lt s.next NUMBER_END ≡ true
        → Kept I X (open_gap k s)
    pub vote : (s : ReplicaState) (g : Agreement) (q : ℕ) → I s → s.gap ≡ Some g → I (count_gap_vote s g q).0
    pub unheard : (s : ReplicaState) → I s → I (record s { heard = false })
    pub request_again : (s : ReplicaState) → I s → AllByRecursion X (to_all s bodies.ViewChangeReq)
    pub change_again : (s : ReplicaState) → I s → AllByRecursion X (change_sent s)
    pub gap_again : (s : ReplicaState) (g : Agreement) → I s → s.gap ≡ Some g → AllByRecursion X (to_all s (bodies.GapCommit g.slot))
    pub lookup_again : (s : ReplicaState) → I s → has_room k s ≡ true
        → AllByRecursion X (to_leader s (bodies.SlotLookup (length_of k s.log + 1)))

  module _ (each : EachMove) where
    and_drain : (e : Effect) → Kept I X e → Kept I X (then_do e (drain m k))
    and_drain e h = then_kept I X e (drain m k) h (λ i. each.drain e.0 i)

    -- ---- views

    open_if_kept : (o : Option (Gathering peer.Change)) (s : ReplicaState) → s.changes ≡ o → I s → Kept I X (open_if_enough m k o s)
    open_if_kept None s is i = still_kept I X s i
    open_if_kept (Some g) s is i =
        when_kept I X (nat_lt g.f (length g.changes)) (open_view m k g) s i (λ many. each.opens s g i is many)

    enter_view_kept : (v : View) (s : ReplicaState) → Kept I X (enter s v) → Kept I X (rows.enter_view m k v s)
    unfolding rows.enter_view
    enter_view_kept v s h =
        then_kept I X (enter s v) (λ t. open_if_enough m k t.changes t) h (λ i. open_if_kept (enter s v).0.changes (enter s v).0 refl i)

    enter_and_drain_kept : (v : View) (s : ReplicaState) → Kept I X (enter s v) → Kept I X (rows.enter_and_drain m k v s)
    enter_and_drain_kept v s h = and_drain (rows.enter_view m k v s) (enter_view_kept v s h)

    stamped_if_kept : (b : Bool) (p : Stamped) (s : ReplicaState) → I s → P p → Kept I X (rows.stamped_if m k b p s)
    stamped_if_kept true p s i f = enter_and_drain_kept (session_view s p) (begin_session s p) (each.session s p i f)
    stamped_if_kept false p s i f = and_drain (queue s p) (record { state = each.queue s p i f; sends = tt })

    stamped_kept : (p : Stamped) (s : ReplicaState) → I s → P p → Kept I X (rows.stamped m k p s)
    unfolding rows.stamped
    stamped_kept p s i f = stamped_if_kept (nat_lt s.view.session p.session) p s i f

    request_kept : (p : Peer) (s : ReplicaState) → I s → G p → Kept I X (rows.view_change_request m k p.view s)
    request_kept p s i g =
        when_kept I X (not (is_view (join_of s.view p.view) s.view)) (rows.enter_and_drain m k (join_of s.view p.view)) s i
        (λ _. enter_and_drain_kept (join_of s.view p.view) s (each.join s p i g))

    gather_kept : (o : Option (Gathering peer.Change)) (p : Peer) (u : View) (x : ℕ) (l : Log) (s : ReplicaState) → s.changes ≡ o → I s
        → G (saying p (bodies.ViewChange u x l)) → Kept I X (rows.gather m k o (change_in p u x l) s)
    gather_kept None p u x l s is i g = still_kept I X s i
    gather_kept (Some o) p u x l s is i g =
        let e : Effect = keep_change s o (change_in p u x l) in
        then_kept I X e (λ t. open_if_enough m k t.changes t) (record { state = each.gather s p u x l o i g is; sends = tt })
        (λ h. open_if_kept e.0.changes e.0 refl h)

    gather_by_kept : (status : Phase) (p : Peer) (u : View) (x : ℕ) (l : Log) (s : ReplicaState) → I s → G (saying p (bodies.ViewChange u x l))
        → Kept I X (rows.gather_by m k status (change_in p u x l) s)
    gather_by_kept Change p u x l s i g = gather_kept s.changes p u x l s refl i g
    gather_by_kept Normal p u x l s i g = record { state = i; sends = each.start_again s (saying p (bodies.ViewChange u x l)) i g }

    view_change_kept : (p : Peer) (u : View) (x : ℕ) (l : Log) (s : ReplicaState) → I s → G (saying p (bodies.ViewChange u x l))
        → Kept I X (rows.view_change m k p.view (change_in p u x l) s)
    unfolding rows.view_change
    view_change_kept p u x l s i g =
        let t : ReplicaState = (rows.view_change_request m k p.view s).0 in
        then_kept I X (rows.view_change_request m k p.view s) (rows.take_change m k p.view (change_in p u x l))
        (request_kept (saying p (bodies.ViewChange u x l)) s i g) (λ h.
        when_kept I X (is_view p.view t.view && leads t) (rows.gather_by m k t.status (change_in p u x l)) t h (λ _.
        gather_by_kept t.status p u x l t h g))

    start_view_kept : (p : Peer) (x : ℕ) (l : Log) (s : ReplicaState) → I s → G (saying p (bodies.StartView x l))
        → Kept I X (rows.start_view m k p.sender p.view x l s)
    unfolding rows.start_view
    start_view_kept p x l s i g =
        when_kept I X (may_adopt k s p.sender p.view l) (λ t. adopt m k t p.view x l) s i (λ _. each.adopt s p x l i g)

    -- ---- messages of the leader

    gap_commit_if_kept : (a b : Bool) (p : Peer) (n : ℕ) (s : ReplicaState) → I s → G (saying p (bodies.GapCommit n))
        → (b ≡ true → may_append k s ≡ true) → Kept I X (rows.gap_commit_if m k a b n s)
    gap_commit_if_kept true b p n s i g may = and_drain (write_gap k (hear s) n) (each.write_gap s p n i g)
    gap_commit_if_kept false true p n s i g may = and_drain (add_gap k (hear s)) (each.add_gap s i (may refl))
    gap_commit_if_kept false false p n s i g may = still_kept I X s i

    gap_commit_kept : (p : Peer) (n : ℕ) (s : ReplicaState) → I s → G (saying p (bodies.GapCommit n)) → Kept I X (rows.gap_commit m k n s)
    unfolding rows.gap_commit
    gap_commit_kept p n s i g =
        gap_commit_if_kept (nat_le n (length_of k s.log)) ((n == length_of k s.log + 1) && may_append k s) p n s i g
        (λ e. (and_parts (n == length_of k s.log + 1) (may_append k s) e).1)

    found_kept : (p : Peer) (n : ℕ) (r : Request) (s : ReplicaState) → I s → G (saying p (bodies.Found n r)) → Kept I X (rows.found m k n r s)
    unfolding rows.found
    found_kept p n r s i g =
        when_kept I X ((n == length_of k s.log + 1) && may_append k s) (λ t. then_do (fill m k (hear t) r) (drain m k)) s i
        (λ e. and_drain (fill m k (hear s) r) (each.fill s p n r i g (and_parts (n == length_of k s.log + 1) (may_append k s) e).1))

    sync_prepare_kept : (p : Peer) (l : Log) (s : ReplicaState) → I s → G (saying p (bodies.SyncPrepare l)) → Kept I X (rows.sync_prepare m k l s)
    unfolding rows.sync_prepare
    sync_prepare_kept p l s i g =
        when_kept I X (nat_le (s.next + (length_of k l - length_of k s.log)) NUMBER_END)
        (λ t. then_do (overlay m k (hear t) l) (drain m k)) s i
        (λ e. and_drain (overlay m k (hear s) l) (each.overlay s p l i g e))

    -- ---- messages of a follower

    answer_kept : (a : Answer) (p : Peer) (n : ℕ) (s : ReplicaState) → I s → G (saying p (bodies.SlotLookup n))
        → answer_of k s.log (waits s.gap) n ≡ a → Kept I X (rows.slot_lookup_by m k a p.sender n s)
    answer_kept Below p n s i g is = record { state = i; sends = each.synced s (saying p (bodies.SlotLookup n)) i g }
    answer_kept (Found r) p n s i g is = record { state = i; sends = each.found_again s p n r i g is }
    answer_kept GapAgain p n s i g is = record { state = i; sends = each.gap_told s p n i g }
    answer_kept Begin p n s i g is =
        when_kept I X (nat_lt s.next NUMBER_END) (λ t. then_do (open_gap k t) (drain m k)) s i
        (λ more. and_drain (open_gap k s) (each.open_gap s n i is more))
    answer_kept answers.Nothing p n s i g is = still_kept I X s i

    slot_lookup_kept : (p : Peer) (n : ℕ) (s : ReplicaState) → I s → G (saying p (bodies.SlotLookup n))
        → Kept I X (rows.slot_lookup m k p.sender n s)
    unfolding rows.slot_lookup
    slot_lookup_kept p n s i g = answer_kept (answer_of k s.log (waits s.gap) n) p n s i g refl

    gap_reply_at_kept : (o : Option Agreement) (q n : ℕ) (s : ReplicaState) → s.gap ≡ o → I s → Kept I X (rows.gap_reply_at m k o q n s)
    gap_reply_at_kept None q n s is i = still_kept I X s i
    gap_reply_at_kept (Some g) q n s is i =
        when_kept I X (g.slot == n) (λ t. then_do (count_gap_vote t g q) (drain m k)) s i
        (λ _. and_drain (count_gap_vote s g q) (record { state = each.vote s g q i is; sends = tt }))

    gap_reply_kept : (q n : ℕ) (s : ReplicaState) → I s → Kept I X (rows.gap_reply m k q n s)
    unfolding rows.gap_reply
    gap_reply_kept q n s i = gap_reply_at_kept s.gap q n s refl i

    -- ---- ticks

    suspect_kept : (s : ReplicaState) → I s → Kept I X (rows.suspect m k s)
    suspect_kept s i =
        when_kept I X (nat_lt s.view.leader rows.last_leader) (rows.enter_and_drain m k (rows.next_leader s.view)) s i
        (λ e. enter_and_drain_kept (rows.next_leader s.view) s (each.next s i e))

    gap_again_kept : (o : Option Agreement) (s : ReplicaState) → s.gap ≡ o → I s → Kept I X (gap_again o s)
    gap_again_kept None s is i = still_kept I X s i
    gap_again_kept (Some g) s is i = record { state = i; sends = each.gap_again s g i is }

    lookup_again_kept : (front : Front) (s : ReplicaState) → I s → Kept I X (lookup_again k front s)
    lookup_again_kept Dropped s i =
        when_kept I X (has_room k s) (λ t. (t, to_leader t (bodies.SlotLookup (length_of k t.log + 1)))) s i
        (λ room. record { state = i; sends = each.lookup_again s i room })
    lookup_again_kept _ s i = still_kept I X s i

    change_again_kept : (b : Bool) (s : ReplicaState) → I s → Kept I X (change_again b s)
    change_again_kept true s i = still_kept I X s i
    change_again_kept false s i = record { state = i; sends = each.change_again s i }

    resend_by_kept : (status : Phase) (b : Bool) (s : ReplicaState) → I s → Kept I X (resend_by k status b s)
    resend_by_kept Change b s i =
        then_kept I X (s, to_all s bodies.ViewChangeReq) (change_again b) (record { state = i; sends = each.request_again s i })
        (λ h. change_again_kept b s h)
    resend_by_kept Normal true s i = gap_again_kept s.gap s refl i
    resend_by_kept Normal false s i = lookup_again_kept (front_of s.receiver) s i

    resend_kept : (s : ReplicaState) → I s → Kept I X (resend k s)
    unfolding resend
    resend_kept s i = resend_by_kept s.status (leads s) s i

    -- ---- all rows

    pub each_row : EachRow m k I P G Q
    each_row = record {
      nothing = λ s i. each.ends s (still s) i (still_kept I X s i);
      stamped = λ s p i f. each.ends s (rows.stamped m k p s) i (stamped_kept p s i f);
      request = λ s p i g. each.ends s (rows.view_change_request m k p.view s) i (request_kept (saying p bodies.ViewChangeReq) s i g);
      view_change = λ s p u x l i g. each.ends s (rows.view_change m k p.view (change_in p u x l) s) i (view_change_kept p u x l s i g);
      start_view = λ s p x l i g. each.ends s (rows.start_view m k p.sender p.view x l s) i (start_view_kept p x l s i g);
      gap_commit = λ s p n i g. each.ends s (rows.gap_commit m k n s) i (gap_commit_kept p n s i g);
      found = λ s p n r i g. each.ends s (rows.found m k n r s) i (found_kept p n r s i g);
      sync_prepare = λ s p l i g. each.ends s (rows.sync_prepare m k l s) i (sync_prepare_kept p l s i g);
      sync_commit = each.sync_commit;
      slot_lookup = λ s p n i g. each.ends s (rows.slot_lookup m k p.sender n s) i (slot_lookup_kept p n s i g);
      gap_reply = λ s p n i g. each.ends s (rows.gap_reply m k p.sender n s) i (gap_reply_kept p.sender n s i);
      sync_reply = each.sync_reply;
      suspect = λ s i. each.ends s (rows.suspect m k s) i (suspect_kept s i);
      unheard = λ s i. each.ends s (still (record s { heard = false })) i (still_kept I X (record s { heard = false }) (each.unheard s i));
      resend = λ s i. each.ends s (resend k s) i (resend_kept s i);
      sync = each.sync;
    }
