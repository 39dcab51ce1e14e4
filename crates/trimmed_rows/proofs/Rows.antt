-- Each row over trimmed logs.
use Rattle.std.proofs.Common.{◌≡◌, ℕ, ◌+◌, ◌-◌, ◌<◌, Bool, true, false, cond, List, length, Option, Some, None}
use Rattle.std.proofs.Common.{refl, sym, ap, subst, ◌∙◌, arith}
use Rattle.std.specs.Prelude.{nat_lt, nat_le, ◌==◌, ◌&&◌, ◌||◌, not}
use Rattle.std.specs.Option.{option_map}
use Rattle.std.proofs.lemmas.Bool.Decides.{nat_tests}
use Rattle.std.proofs.lemmas.Option.{same_Some}
use Rattle.nop_types.specs.declared.limits.TheConstants.{NUMBER_END}
use Rattle.nop_types.specs.declared.view.View.{View}
use Rattle.nop_types.specs.declared.datagram.Stamped.{Stamped}
use Rattle.nop_types.specs.declared.input.Tick.{Tick}
use Rattle.nop_types.specs.declared.input.Tick.TheVariants as ticks
use Rattle.nop_types.specs.declared.peer.Body.{Body}
use Rattle.nop_types.specs.declared.peer.Body.TheVariants as bodies
use Rattle.nop_types.specs.declared.peer.Change.{Change}
use Rattle.nop_types.specs.declared.peer.Peer.{Peer}
use Rattle.nop_types.specs.declared.replica_state.Phase.{Phase}
use Rattle.nop_types.specs.declared.replica_state.Phase.TheVariants as phases
use Rattle.nop_types.specs.declared.request.Request.{Request}
use Rattle.nop_types.specs.declared.request.Entry.{Entry}
use Rattle.nop_types.specs.CheckpointedLogs.{loads, loads_by}
use Rattle.nop_types.specs.Checkpoints.{KeepsTo}
use Rattle.nop_types.specs.Logs.{Log, Whole, Trimmed, IsWithin, length_of, entry_at}
use Rattle.nop_types.specs.Meaning.{Meaning}
use Rattle.nop_types.specs.Views.{join_of, is_view, leader_of}
use Rattle.lemmas.proofs.Views.{is_view-true}
use Rattle.slot_votes.specs.Agreement.{Agreement}
use Rattle.oum_receiver.specs.Front.{Front, Nothing, Message, Dropped}
use Rattle.oum_receiver.specs.Receiving.{front_of}
use Rattle.replica_log.specs.Answer as answers
use Rattle.replica_log.specs.Answer.{Answer, answer_by, answer_above, answer_of}
use Rattle.trimming.specs.Merging.{trim_change}
use Rattle.trimming.specs.Trimming.{trim}
use Rattle.trimming.proofs.Executions.{checkpoint_loads}
use Rattle.trimming.proofs.Logs.{length_trims, entry_trims}
use Rattle.view_change.specs.Gathering.{Gathering, change_added, change_sender}
use Rattle.replica_state.specs.declared.sending.Sending.{Sending}
use Rattle.replica_state.specs.declared.state.ReplicaState.{ReplicaState}
use Rattle.replica_state.specs.Moves as moves
use Rattle.replica_state.specs.Moves.{enter, begin_session, session_view, hear, queue, change_sent, count_gap_vote}
use Rattle.replica_state.specs.Repeating as repeating
use Rattle.replica_state.specs.Sends.{still, then_do, to_all, to_leader}
use Rattle.replica_state.specs.State.{max_faults, leads, waits, is_normal, has_room, may_append, may_adopt, is_at_most, is_other, is_from_leader, is_to_leader}
use Rattle.replica_rows.specs.Messages as messages
use Rattle.replica_rows.specs.Messages.{Arrival, Packet, PeerMessage, Ticked, loads_in}
use Rattle.replica_rows.specs.Rows as rows
use Rattle.trimmed_rows.specs.Premises.{PointsWithin, Opens, MessageIsWithin, ArrivesWithin}
use Rattle.trimmed_rows.specs.Trimmed.{trimmed_gathering, trimmed_body, trimmed_peer, trimmed_arrival}
use Rattle.trimmed_rows.proofs.Alone.{entered_opens}
use Rattle.trimmed_rows.proofs.Composing.{Stands, st, ef, Goes, still_goes, then_goes, when_goes, all_trims}
use Rattle.trimmed_rows.proofs.Gathered.{counted_trims}
use Rattle.trimmed_rows.proofs.Moves.{room_trims, fill_goes, open_gap_goes, write_gap_goes, add_gap_goes, drained, enter_goes, adopt_goes, open_goes, resend_start_goes, send_synced_goes, overlay_goes, sync_commit_goes, sync_reply_goes, sync_goes}

first_of : (a b : Bool) → (a && b) ≡ true → a ≡ true
first_of true b e = refl
first_of false b e = absurd cc

module _ {S : Type 0} (m : Meaning S) where
  may_append_trims : (s : ReplicaState) → Stands s → may_append Trimmed (st m s) ≡ may_append Whole s
  may_append_trims s h = ap (λ (b : Bool). b && nat_lt s.next NUMBER_END) (room_trims m s h)

  -- what a slot holds is read above the sync point only
  answer_if_trims : (b : Bool) (s : ReplicaState) (n : ℕ) → nat_le n s.log.sync_point ≡ b → Stands s
      → cond b answers.Below (answer_above Trimmed (trim m s.log) (waits s.gap) n)
      ≡ cond b answers.Below (answer_above Whole s.log (waits s.gap) n)
  answer_if_trims true s n e h = refl
  answer_if_trims false s n e h =
      let above : s.log.sync_point < n = grind (arith, nat_tests, e) in
      ap (λ (o : Option Entry). answer_by o (answers.may_begin Trimmed (trim m s.log) (waits s.gap) n)) (entry_trims m s.log n above)
      ∙ ap (λ (k : ℕ). answer_by (entry_at Whole s.log n) ((n == k + 1) && (not (waits s.gap) && has_room Trimmed (st m s))))
      (length_trims m s.log h.within)
      ∙ ap (λ (b : Bool). answer_by (entry_at Whole s.log n) ((n == length s.log.entries + 1) && (not (waits s.gap) && b)))
      (room_trims m s h)

  answer_trims : (s : ReplicaState) (n : ℕ) → Stands s
      → answer_of Trimmed (trim m s.log) (waits s.gap) n ≡ answer_of Whole s.log (waits s.gap) n
  answer_trims s n h = answer_if_trims (nat_le n s.log.sync_point) s n refl h

  -- ---- what is told again

  gap_again_goes : (o : Option Agreement) (s : ReplicaState) → Stands s → Goes m (repeating.gap_again o (st m s)) (repeating.gap_again o s)
  gap_again_goes None s h = still_goes m s h
  gap_again_goes (Some g) s h = record {
    same = ap (λ (xs : List Sending). (st m s, xs)) (all_trims m (max_faults s == 0) s (bodies.GapCommit g.slot));
    stands = h;
  }

  lookup_again_goes : (front : Front) (s : ReplicaState) → Stands s
      → Goes m (repeating.lookup_again Trimmed front (st m s)) (repeating.lookup_again Whole front s)
  lookup_again_goes Nothing s h = still_goes m s h
  lookup_again_goes (Message r) s h = still_goes m s h
  lookup_again_goes Dropped s h =
      when_goes m _ (has_room Whole s) (λ t. (t, to_leader t (bodies.SlotLookup (length_of Trimmed t.log + 1))))
      (λ t. (t, to_leader t (bodies.SlotLookup (length_of Whole t.log + 1)))) s (room_trims m s h) h (λ e. record {
        same = ap (λ (n : ℕ). (st m s, to_leader (st m s) (bodies.SlotLookup (n + 1)))) (length_trims m s.log h.within);
        stands = h;
      })

  change_again_goes : (b : Bool) (s : ReplicaState) → Stands s → Goes m (repeating.change_again b (st m s)) (repeating.change_again b s)
  change_again_goes true s h = still_goes m s h
  change_again_goes false s h = record { same = refl; stands = h }

  resend_by_goes : (p : Phase) (b : Bool) (s : ReplicaState) → Stands s
      → Goes m (repeating.resend_by Trimmed p b (st m s)) (repeating.resend_by Whole p b s)
  resend_by_goes phases.Change b s h =
      then_goes m (st m s, to_all (st m s) bodies.ViewChangeReq) (s, to_all s bodies.ViewChangeReq) (repeating.change_again b)
      (repeating.change_again b)
      (record { same = ap (λ (xs : List Sending). (st m s, xs)) (all_trims m (max_faults s == 0) s bodies.ViewChangeReq); stands = h })
      (λ g. change_again_goes b s g)
  resend_by_goes phases.Normal true s h = gap_again_goes s.gap s h
  resend_by_goes phases.Normal false s h = lookup_again_goes (front_of s.receiver) s h

  resend_goes : (s : ReplicaState) → Stands s → Goes m (repeating.resend Trimmed (st m s)) (repeating.resend Whole s)
  unfolding repeating.resend
  resend_goes s h = resend_by_goes s.status (leads s) s h

module _ {S : Type 0} (m : Meaning S) (IsSound : S → Type 0) (keeps : KeepsTo m IsSound) where
  -- ---- a greater view

  enter_view_goes : (w : View) (s : ReplicaState) → Stands s → Goes m (rows.enter_view m Trimmed w (st m s)) (rows.enter_view m Whole w s)
  unfolding rows.enter_view
  enter_view_goes w s h =
      then_goes m (enter (st m s) w) (enter s w) (λ t. moves.open_if_enough m Trimmed t.changes t) (λ t. moves.open_if_enough m Whole t.changes t)
      (enter_goes m s w h)
      (λ g. open_goes m IsSound keeps (enter s w).0.changes (enter s w).0 (λ x e. entered_opens s w x h.within e) g)

  enter_and_drain_goes : (w : View) (s : ReplicaState) → Stands s
      → Goes m (rows.enter_and_drain m Trimmed w (st m s)) (rows.enter_and_drain m Whole w s)
  enter_and_drain_goes w s h = drained m IsSound keeps (rows.enter_view m Trimmed w (st m s)) (rows.enter_view m Whole w s) (enter_view_goes w s h)

  stamped_if_goes : (b : Bool) (p : Stamped) (s : ReplicaState) → Stands s
      → Goes m (rows.stamped_if m Trimmed b p (st m s)) (rows.stamped_if m Whole b p s)
  stamped_if_goes true p s h = enter_and_drain_goes (session_view s p) (begin_session s p) (record { within = h.within; points = h.points })
  stamped_if_goes false p s h =
      drained m IsSound keeps (queue (st m s) p) (queue s p) (record { same = refl; stands = record { within = h.within; points = h.points } })

  stamped_goes : (p : Stamped) (s : ReplicaState) → Stands s → Goes m (rows.stamped m Trimmed p (st m s)) (rows.stamped m Whole p s)
  unfolding rows.stamped
  stamped_goes p s h = stamped_if_goes (nat_lt s.view.session p.session) p s h

  request_goes : (w : View) (s : ReplicaState) → Stands s
      → Goes m (rows.view_change_request m Trimmed w (st m s)) (rows.view_change_request m Whole w s)
  request_goes w s h =
      when_goes m _ (not (is_view (join_of s.view w) s.view)) (rows.enter_and_drain m Trimmed (join_of s.view w))
      (rows.enter_and_drain m Whole (join_of s.view w)) s refl h (λ e. enter_and_drain_goes (join_of s.view w) s h)

  -- ---- changes

  gather_goes : (o : Option (Gathering Change)) (c : Change) (s : ReplicaState) → Stands s
      → ((g : Gathering Change) → o ≡ Some g → Opens (change_added change_sender g c))
      → Goes m (rows.gather m Trimmed (option_map (trimmed_gathering m) o) (trim_change m c) (st m s)) (rows.gather m Whole o c s)
  gather_goes None c s h opens = still_goes m s h
  gather_goes (Some g) c s h opens =
      let t : ReplicaState = record s { changes = Some (change_added change_sender g c) } in
      then_goes m (moves.keep_change (st m s) (trimmed_gathering m g) (trim_change m c)) (moves.keep_change s g c)
      (λ u. moves.open_if_enough m Trimmed u.changes u) (λ u. moves.open_if_enough m Whole u.changes u)
      (record {
        same = ap (λ (x : Gathering Change). still (record (st m s) { changes = Some x })) (counted_trims m g c);
        stands = record { within = h.within; points = h.points };
      })
      (λ f. open_goes m IsSound keeps (Some (change_added change_sender g c)) t (λ x e. one x e) f)
    where
      one : (x : Gathering Change) → Some (change_added change_sender g c) ≡ Some x → Opens x
      one x e = subst Opens (same_Some (change_added change_sender g c) x e) (opens g refl)

  gather_by_goes : (p : Phase) (c : Change) (s : ReplicaState) → Stands s
      → ((g : Gathering Change) → s.changes ≡ Some g → Opens (change_added change_sender g c))
      → Goes m (rows.gather_by m Trimmed p (trim_change m c) (st m s)) (rows.gather_by m Whole p c s)
  gather_by_goes phases.Change c s h opens = gather_goes s.changes c s h opens
  gather_by_goes phases.Normal c s h opens = resend_start_goes m s c.sender h

  view_change_goes : (w : View) (c : Change) (s : ReplicaState) → Stands s
      → ((g : Gathering Change) → (rows.view_change_request m Whole w s).0.view ≡ w
      → (rows.view_change_request m Whole w s).0.changes ≡ Some g → Opens (change_added change_sender g c))
      → Goes m (rows.view_change m Trimmed w (trim_change m c) (st m s)) (rows.view_change m Whole w c s)
  unfolding rows.view_change
  view_change_goes w c s h opens =
      let t : ReplicaState = (rows.view_change_request m Whole w s).0 in
      then_goes m (rows.view_change_request m Trimmed w (st m s)) (rows.view_change_request m Whole w s)
      (rows.take_change m Trimmed w (trim_change m c)) (rows.take_change m Whole w c) (request_goes w s h) (λ g.
      when_goes m _ (is_view w t.view && leads t) (rows.gather_by m Trimmed t.status (trim_change m c)) (rows.gather_by m Whole t.status c) t refl g
      (λ e. gather_by_goes t.status c t g (λ x same. opens x (sym (is_view-true w t.view (first_of (is_view w t.view) (leads t) e))) same)))

  start_view_goes : (q : ℕ) (w : View) (x : ℕ) (l : Log) (s : ReplicaState) → IsWithin l → Stands s
      → Goes m (rows.start_view m Trimmed q w x (trim m l) (st m s)) (rows.start_view m Whole q w x l s)
  unfolding rows.start_view
  start_view_goes q w x l s g h =
      when_goes m _ (may_adopt Whole s q w l) (λ t. moves.adopt m Trimmed t w x (trim m l)) (λ t. moves.adopt m Whole t w x l) s
      (ap (λ (n : ℕ). (q == leader_of w s.config.replicas)
      && (is_at_most s.view w && ((not (is_view w s.view) || not (is_normal s.status)) && nat_le s.sync.sync_point n))) (length_trims m l g))
      h (λ e. adopt_goes m IsSound keeps s w x l g h)

  -- ---- messages of the leader

  gap_commit_if_goes : (b c : Bool) (n : ℕ) (s : ReplicaState) → Stands s
      → Goes m (rows.gap_commit_if m Trimmed b c n (st m s)) (rows.gap_commit_if m Whole b c n s)
  gap_commit_if_goes true c n s h =
      drained m IsSound keeps (moves.write_gap Trimmed (hear (st m s)) n) (moves.write_gap Whole (hear s) n)
      (write_gap_goes m (hear s) n (record { within = h.within; points = h.points }))
  gap_commit_if_goes false true n s h =
      drained m IsSound keeps (moves.add_gap Trimmed (hear (st m s))) (moves.add_gap Whole (hear s))
      (add_gap_goes m (hear s) (record { within = h.within; points = h.points }))
  gap_commit_if_goes false false n s h = still_goes m s h

  gap_commit_goes : (n : ℕ) (s : ReplicaState) → Stands s → Goes m (rows.gap_commit m Trimmed n (st m s)) (rows.gap_commit m Whole n s)
  unfolding rows.gap_commit
  gap_commit_goes n s h =
      let r = gap_commit_if_goes (nat_le n (length s.log.entries)) ((n == length s.log.entries + 1) && may_append Whole s) n s h in
      record {
        same =
            ap (λ (k : ℕ). rows.gap_commit_if m Trimmed (nat_le n k) ((n == k + 1) && may_append Trimmed (st m s)) n (st m s))
            (length_trims m s.log h.within)
            ∙ ap (λ (b : Bool). rows.gap_commit_if m Trimmed (nat_le n (length s.log.entries)) ((n == length s.log.entries + 1) && b) n (st m s))
            (may_append_trims m s h)
            ∙ r.same;
        stands = r.stands;
      }

  found_goes : (n : ℕ) (r : Request) (s : ReplicaState) → Stands s → Goes m (rows.found m Trimmed n r (st m s)) (rows.found m Whole n r s)
  unfolding rows.found
  found_goes n r s h =
      when_goes m _ ((n == length s.log.entries + 1) && may_append Whole s)
      (λ t. then_do (moves.fill m Trimmed (hear t) r) (moves.drain m Trimmed)) (λ t. then_do (moves.fill m Whole (hear t) r) (moves.drain m Whole)) s
      (ap (λ (k : ℕ). (n == k + 1) && may_append Trimmed (st m s)) (length_trims m s.log h.within)
      ∙ ap (λ (b : Bool). (n == length s.log.entries + 1) && b) (may_append_trims m s h))
      h (λ e. drained m IsSound keeps (moves.fill m Trimmed (hear (st m s)) r) (moves.fill m Whole (hear s) r)
      (fill_goes m IsSound keeps (hear s) r (record { within = h.within; points = h.points })))

  sync_prepare_goes : (l : Log) (s : ReplicaState) → IsWithin l → Stands s
      → Goes m (rows.sync_prepare m Trimmed (trim m l) (st m s)) (rows.sync_prepare m Whole l s)
  unfolding rows.sync_prepare
  sync_prepare_goes l s g h =
      when_goes m _ (nat_le (s.next + (length l.entries - length s.log.entries)) NUMBER_END)
      (λ t. then_do (moves.overlay m Trimmed (hear t) (trim m l)) (moves.drain m Trimmed))
      (λ t. then_do (moves.overlay m Whole (hear t) l) (moves.drain m Whole)) s
      (ap (λ (k : ℕ). nat_le (s.next + (k - length_of Trimmed (trim m s.log))) NUMBER_END) (length_trims m l g)
      ∙ ap (λ (k : ℕ). nat_le (s.next + (length l.entries - k)) NUMBER_END) (length_trims m s.log h.within))
      h (λ e. drained m IsSound keeps (moves.overlay m Trimmed (hear (st m s)) (trim m l)) (moves.overlay m Whole (hear s) l)
      (overlay_goes m IsSound keeps (hear s) l g (record { within = h.within; points = h.points })))

  -- ---- messages of a follower

  begin_gap_goes : (s : ReplicaState) → Stands s → Goes m (rows.begin_gap m Trimmed (st m s)) (rows.begin_gap m Whole s)
  begin_gap_goes s h =
      when_goes m _ (nat_lt s.next NUMBER_END) (λ t. then_do (moves.open_gap Trimmed t) (moves.drain m Trimmed))
      (λ t. then_do (moves.open_gap Whole t) (moves.drain m Whole)) s refl h (λ e.
      drained m IsSound keeps (moves.open_gap Trimmed (st m s)) (moves.open_gap Whole s) (open_gap_goes m s h))

  answer_goes : (a : Answer) (q n : ℕ) (s : ReplicaState) → Stands s
      → Goes m (rows.slot_lookup_by m Trimmed a q n (st m s)) (rows.slot_lookup_by m Whole a q n s)
  answer_goes answers.Below q n s h = send_synced_goes m s q h
  answer_goes (answers.Found r) q n s h = record { same = refl; stands = h }
  answer_goes answers.GapAgain q n s h = record { same = refl; stands = h }
  answer_goes answers.Begin q n s h = begin_gap_goes s h
  answer_goes answers.Nothing q n s h = still_goes m s h

  slot_lookup_goes : (q n : ℕ) (s : ReplicaState) → Stands s → Goes m (rows.slot_lookup m Trimmed q n (st m s)) (rows.slot_lookup m Whole q n s)
  unfolding rows.slot_lookup
  slot_lookup_goes q n s h =
      let r = answer_goes (answer_of Whole s.log (waits s.gap) n) q n s h in
      record {
        same = ap (λ (a : Answer). rows.slot_lookup_by m Trimmed a q n (st m s)) (answer_trims m s n h) ∙ r.same;
        stands = r.stands;
      }

  gap_reply_at_goes : (o : Option Agreement) (q n : ℕ) (s : ReplicaState) → Stands s
      → Goes m (rows.gap_reply_at m Trimmed o q n (st m s)) (rows.gap_reply_at m Whole o q n s)
  gap_reply_at_goes None q n s h = still_goes m s h
  gap_reply_at_goes (Some g) q n s h =
      when_goes m _ (g.slot == n) (λ t. then_do (count_gap_vote t g q) (moves.drain m Trimmed)) (λ t. then_do (count_gap_vote t g q) (moves.drain m Whole))
      s refl h (λ e. drained m IsSound keeps (count_gap_vote (st m s) g q) (count_gap_vote s g q)
      (record { same = refl; stands = record { within = h.within; points = h.points } }))

  gap_reply_goes : (q n : ℕ) (s : ReplicaState) → Stands s → Goes m (rows.gap_reply m Trimmed q n (st m s)) (rows.gap_reply m Whole q n s)
  unfolding rows.gap_reply
  gap_reply_goes q n s h = gap_reply_at_goes s.gap q n s h

  -- ---- ticks

  suspect_goes : (s : ReplicaState) → Stands s → Goes m (rows.suspect m Trimmed (st m s)) (rows.suspect m Whole s)
  suspect_goes s h =
      when_goes m _ (nat_lt s.view.leader rows.last_leader) (rows.enter_and_drain m Trimmed (rows.next_leader s.view))
      (rows.enter_and_drain m Whole (rows.next_leader s.view)) s refl h (λ e. enter_and_drain_goes (rows.next_leader s.view) s h)

  watch_goes : (b c : Bool) (s : ReplicaState) → Stands s → Goes m (rows.watch_if m Trimmed b c (st m s)) (rows.watch_if m Whole b c s)
  watch_goes true c s h = still_goes m s h
  watch_goes false true s h = record { same = refl; stands = record { within = h.within; points = h.points } }
  watch_goes false false s h = suspect_goes s h

  ticked_goes : (tick : Tick) (s : ReplicaState) → PointsWithin s → Stands s
      → Goes m (messages.ticked m Trimmed tick (st m s)) (messages.ticked m Whole tick s)
  ticked_goes ticks.Suspect s p h = suspect_goes s h
  ticked_goes ticks.Watch s p h = watch_goes (is_normal s.status && leads s) s.heard s h
  ticked_goes ticks.Resend s p h = resend_goes m s h
  ticked_goes ticks.Sync s p h = sync_goes m IsSound keeps s p
  ticked_goes _ s p h = still_goes m s h

  -- ---- messages

  from_leader_goes : (p : Peer) (body : Body) (s : ReplicaState) → PointsWithin s → Stands s → MessageIsWithin m s p body
      → Goes m (messages.from_leader m Trimmed (trimmed_body m body) (st m s)) (messages.from_leader m Whole body s)
  from_leader_goes p (bodies.GapCommit n) s w h fits = gap_commit_goes n s h
  from_leader_goes p (bodies.Found n r) s w h fits = found_goes n r s h
  from_leader_goes p (bodies.SyncPrepare l) s w h fits = sync_prepare_goes l s fits.1 h
  from_leader_goes p (bodies.SyncCommit n) s w h fits = sync_commit_goes m IsSound keeps n s w
  from_leader_goes p _ s w h fits = still_goes m s h

  from_follower_goes : (q : ℕ) (body : Body) (s : ReplicaState) → PointsWithin s → Stands s
      → Goes m (messages.from_follower m Trimmed q (trimmed_body m body) (st m s)) (messages.from_follower m Whole q body s)
  from_follower_goes q (bodies.SlotLookup n) s w h = slot_lookup_goes q n s h
  from_follower_goes q (bodies.GapRep n) s w h = gap_reply_goes q n s h
  from_follower_goes q (bodies.SyncRep n) s w h = sync_reply_goes m IsSound keeps q n s w
  from_follower_goes q _ s w h = still_goes m s h

  by_role_goes : (b c : Bool) (p : Peer) (body : Body) (s : ReplicaState) → PointsWithin s → Stands s → MessageIsWithin m s p body
      → Goes m (messages.by_role m Trimmed b c p.sender (trimmed_body m body) (st m s)) (messages.by_role m Whole b c p.sender body s)
  by_role_goes true c p body s w h fits = from_leader_goes p body s w h fits
  by_role_goes false true p body s w h fits = from_follower_goes p.sender body s w h
  by_role_goes false false p body s w h fits = still_goes m s h

  dispatch_goes : (p : Peer) (body : Body) (s : ReplicaState) → PointsWithin s → Stands s → MessageIsWithin m s p body
      → Goes m (messages.dispatch m Trimmed p.sender p.view (trimmed_body m body) (st m s)) (messages.dispatch m Whole p.sender p.view body s)
  dispatch_goes p body s w h fits = by_role_goes (is_from_leader s p.view p.sender) (is_to_leader s p.view) p body s w h fits

  body_goes : (p : Peer) (body : Body) (s : ReplicaState) → PointsWithin s → Stands s → is_other s p.sender ≡ true → MessageIsWithin m s p body
      → Goes m (messages.on_body m Trimmed (trimmed_peer m p) (trimmed_body m body) (st m s)) (messages.on_body m Whole p body s)
  body_goes p bodies.ViewChangeReq s w h other fits = request_goes p.view s h
  body_goes p (bodies.ViewChange u x l) s w h other fits =
      view_change_goes p.view (record { sender = p.sender; last_normal = u; next = x; log = l }) s h (λ g view same. fits.1 g other view same)
  body_goes p (bodies.StartView x l) s w h other fits = start_view_goes p.sender p.view x l s fits.1 h
  body_goes p body s w h other fits = dispatch_goes p body s w h fits

  message_goes : (p : Peer) (s : ReplicaState) → PointsWithin s → Stands s → MessageIsWithin m s p p.body
      → Goes m (messages.on_message m Trimmed (trimmed_peer m p) (st m s)) (messages.on_message m Whole p s)
  unfolding messages.on_message
  message_goes p s w h fits =
      when_goes m _ (is_other s p.sender) (messages.on_body m Trimmed (trimmed_peer m p) (trimmed_body m p.body))
      (messages.on_body m Whole p p.body) s refl h (λ e. body_goes p p.body s w h e fits)

  -- a whole log has no checkpoint, and that of a trimmed one loads
  both_load : (l : Log) → l.checkpoint ≡ None → loads m (trim m l) ≡ loads m l
  both_load l none = checkpoint_loads m IsSound keeps l ∙ sym (ap (loads_by m) none)

  loads_trim : (s : ReplicaState) (p : Peer) (body : Body) → MessageIsWithin m s p body → loads_in m (trimmed_body m body) ≡ loads_in m body
  unfolding loads_in
  loads_trim s p (bodies.ViewChange u x l) fits = both_load l fits.0
  loads_trim s p (bodies.StartView x l) fits = both_load l fits.0
  loads_trim s p (bodies.SyncPrepare l) fits = both_load l fits.0
  loads_trim s p _ fits = refl

  stands : (s : ReplicaState) → PointsWithin s → Stands s
  stands s w = record { within = omega (arith, w.points, w.sync_point); points = w.points }

  arrive_goes : (s : ReplicaState) (a : Arrival) → PointsWithin s → ArrivesWithin m s a
      → Goes m (messages.arrive m Trimmed (st m s) (trimmed_arrival m a)) (messages.arrive m Whole s a)
  unfolding messages.arrive
  arrive_goes s (Packet p) w fits = stamped_goes p s (stands s w)
  arrive_goes s (PeerMessage p) w fits =
      when_goes m (loads_in m (trimmed_body m p.body)) (loads_in m p.body) (messages.on_message m Trimmed (trimmed_peer m p))
      (messages.on_message m Whole p) s (loads_trim s p p.body fits) (stands s w) (λ _. message_goes p s w (stands s w) fits)
  arrive_goes s (Ticked tick) w fits = ticked_goes tick s w (stands s w)

  pub rows_trim : (s : ReplicaState) (a : Arrival) → PointsWithin s → ArrivesWithin m s a
      → messages.arrive m Trimmed (st m s) (trimmed_arrival m a) ≡ ef m (messages.arrive m Whole s a)
  rows_trim s a w fits = (arrive_goes s a w fits).same
