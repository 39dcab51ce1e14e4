-- Each move over trimmed logs.
use Rattle.std.proofs.Common.{◌≡◌, ℕ, zero, suc, ◌+◌, ◌-◌, ◌≤◌, ◌<◌, Bool, true, false, cond, List, [], ◌∷◌, ◌++◌, length, map, max}
use Rattle.std.proofs.Common.{Option, Some, None, refl, sym, ap, ◌∙◌, arith}
use Rattle.std.specs.Prelude.{nat_lt, nat_le, ◌==◌, ◌&&◌, not}
use Rattle.std.specs.Option.{option_map}
use Rattle.std.proofs.lemmas.List.{length-map}
use Rattle.std.proofs.lemmas.Bool.Decides.{nat_tests}
use Rattle.nop_types.specs.declared.limits.TheConstants.{MAX_SLOTS}
use Rattle.nop_types.specs.declared.view.View.{View}
use Rattle.nop_types.specs.declared.replica_state.Vote.{Vote}
use Rattle.nop_types.specs.declared.replica_state.Vote.TheVariants.{Settled, Waiting}
use Rattle.nop_types.specs.declared.replica_state.Phase.TheVariants as phases
use Rattle.nop_types.specs.declared.request.Request.{Request}
use Rattle.nop_types.specs.declared.request.Entry.{Entry}
use Rattle.nop_types.specs.declared.request.Entry.TheVariants.{NoOp, Req}
use Rattle.nop_types.specs.declared.peer.Body.TheVariants as bodies
use Rattle.nop_types.specs.declared.peer.Change.{Change}
use Rattle.nop_types.specs.CheckpointedLogs.{slot_result}
use Rattle.nop_types.specs.Checkpoints.{KeepsTo}
use Rattle.nop_types.specs.Logs as logs
use Rattle.nop_types.specs.Logs.{Log, Whole, Trimmed, whole, IsWithin, length_of, above, unsynced, first}
use Rattle.nop_types.specs.Meaning.{Meaning}
use Rattle.nop_types.specs.PlainChanges.{plain}
use Rattle.slot_votes.specs.Votes.{with_vote}
use Rattle.log_merge.specs.Merging.{kept_changes, merged}
use Rattle.log_merge.specs.Starting.{start_of}
use Rattle.oum_receiver.specs.Front.{Front, Nothing, Message, Dropped}
use Rattle.oum_receiver.specs.Receiving.{advanced, front_taken, front_of}
use Rattle.slot_votes.specs.Synchronisation as synchronisation
use Rattle.slot_votes.specs.Synchronisation.{Synchronisation, Round, cleared, raised, with_round, committed, vote_for, vote_in}
use Rattle.trimming.specs.Merging.{trim_change}
use Rattle.trimming.specs.Trimming.{trim}
use Rattle.trimming.proofs.Executions.{result_trims}
use Rattle.trimming.proofs.Logs as trims
use Rattle.trimming.proofs.Logs.{length_trims, above_trims, unsynced_trims, between_trims, append_trims, noop_trims, first_trims}
use Rattle.trimming.proofs.Logs.{raise_trims, adopt_trims, overlay_trims, adopted_point, overlaid_point, further_within, adopted_within, overlaid_within}
use Rattle.trimming.proofs.Logs.{appended_within, noop_within}
use Rattle.view_change.specs.Gathering.{Gathering}
use Rattle.replica_state.specs.declared.sending.Sending.{Sending}
use Rattle.replica_state.specs.declared.sending.Sending.TheVariants.{Trims}
use Rattle.replica_state.specs.declared.state.ReplicaState.{ReplicaState}
use Rattle.replica_state.specs.Moves as moves
use Rattle.replica_state.specs.Moves.{entered, enter, enter_as, change_sent, left, listening_from, hear, start_len}
use Rattle.replica_state.specs.Replies as replies
use Rattle.replica_state.specs.Sends.{Effect, still, then_do, when, to_all, to_replica, to_leader}
use Rattle.replica_state.specs.State as state
use Rattle.replica_state.specs.State.{PointsMeet, max_faults, leads, waits, is_normal, may_trim, has_room, drains}
use Rattle.replica_state.specs.Repeating as repeating
use Rattle.replica_rows.specs.Rows as rows
use Rattle.replica_rows.specs.Rows.{trim_and_drain}
use Rattle.trimmed_rows.specs.Premises.{PointsWithin, Opens}
use Rattle.trimmed_rows.specs.Trimmed.{trimmed_sending, trimmed_gathering}
use Rattle.trimmed_rows.proofs.Composing.{Stands, st, ts, ef, Goes, map-both, still_goes, then_goes, then_same, when_goes, all_trims}
use Rattle.trimmed_rows.proofs.Gathered.{next_trims, start_trims}

module _ {S : Type 0} (m : Meaning S) where
  -- ---- words on the state

  pub room_trims : (s : ReplicaState) → Stands s → has_room Trimmed (st m s) ≡ has_room Whole s
  room_trims s h = trims.room_trims m s.log h.within

  drains_trims : (s : ReplicaState) → Stands s → drains Trimmed (st m s) ≡ drains Whole s
  drains_trims s h = ap (λ (b : Bool). is_normal s.status && (not (waits s.gap) && b)) (room_trims s h)

  -- ---- the next slot

  appended_trims : (s : ReplicaState) (e : Entry) → Stands s → moves.appended (st m s) e ≡ st m (moves.appended s e)
  appended_trims s e h =
      ap (λ (l : Log). record (st m s) { log = l; next = s.next + 1; receiver = advanced s.receiver (s.next + 1) })
      (append_trims m s.log e h.within)

  appended_stands : (s : ReplicaState) (e : Entry) → Stands s → Stands (moves.appended s e)
  appended_stands s e h = record { within = appended_within s.log e h.within; points = h.points }

  -- ---- gaps

  ask_if_trims : (b : Bool) (s : ReplicaState) → Stands s → moves.ask_if Trimmed b (st m s) ≡ ef m (moves.ask_if Whole b s)
  ask_if_trims true s h = refl
  ask_if_trims false s h =
      ap (λ (n : ℕ). (record (st m s) { asked = n + 1 }, to_leader (st m s) (bodies.SlotLookup (n + 1)))) (length_trims m s.log h.within)

  ask_if_stands : (b : Bool) (s : ReplicaState) → Stands s → Stands (moves.ask_if Whole b s).0
  ask_if_stands true s h = h
  ask_if_stands false s h = record { within = h.within; points = h.points }

  pub ask_goes : (s : ReplicaState) → Stands s → Goes m (moves.ask Trimmed (st m s)) (moves.ask Whole s)
  ask_goes s h = record {
    same = ap (λ (n : ℕ). moves.ask_if Trimmed (s.asked == n + 1) (st m s)) (length_trims m s.log h.within)
        ∙ ask_if_trims (s.asked == length s.log.entries + 1) s h;
    stands = ask_if_stands (s.asked == length s.log.entries + 1) s h;
  }

  pub open_gap_goes : (s : ReplicaState) → Stands s → Goes m (moves.open_gap Trimmed (st m s)) (moves.open_gap Whole s)
  unfolding moves.open_gap
  open_gap_goes s h =
      let n : ℕ = length s.log.entries in
      record {
        same =
            ap (λ (u : ReplicaState). (
              record u { gap = state.waiting_in (length_of Trimmed (st m s).log + 1) (max_faults s) },
              to_all (st m s) (bodies.GapCommit (length_of Trimmed (st m s).log + 1)),
            )) (appended_trims s NoOp h)
            ∙ ap (λ (k : ℕ). (
              record (st m (moves.appended s NoOp)) { gap = state.waiting_in (k + 1) (max_faults s) },
              to_all (st m s) (bodies.GapCommit (k + 1)),
            )) (length_trims m s.log h.within)
            ∙ ap (λ (xs : List Sending). (st m (moves.gap_opened Whole s), xs)) (all_trims m (max_faults s == 0) s (bodies.GapCommit (n + 1)));
        stands =
            record { within = appended_within s.log NoOp h.within; points = h.points };
      }

  noop_if_trims : (s : ReplicaState) (n : ℕ) (b : Bool) → Stands s → nat_le n s.sync.sync_point ≡ b
      → cond b (trim m s.log) (logs.with_noop Trimmed (trim m s.log) n) ≡ trim m (cond b s.log (logs.with_noop Whole s.log n))
  noop_if_trims s n true h e = refl
  noop_if_trims s n false h e =
      noop_trims m s.log n (let less : s.sync.sync_point < n = grind (arith, nat_tests, e) in omega (arith, less, h.points))

  noop_stands : (s : ReplicaState) (n : ℕ) (b : Bool) → Stands s
      → Stands (record s { log = cond b s.log (logs.with_noop Whole s.log n) })
  noop_stands s n true h = record { within = h.within; points = h.points }
  noop_stands s n false h = record { within = noop_within s.log n h.within; points = h.points }

  pub write_gap_goes : (s : ReplicaState) (n : ℕ) → Stands s → Goes m (moves.write_gap Trimmed (st m s) n) (moves.write_gap Whole s n)
  write_gap_goes s n h = record {
    same = ap (λ (l : Log). (record (st m s) { log = l }, to_leader (st m s) (bodies.GapRep n)))
        (noop_if_trims s n (nat_le n s.sync.sync_point) h refl);
    stands = noop_stands s n (nat_le n s.sync.sync_point) h;
  }

  pub add_gap_goes : (s : ReplicaState) → Stands s → Goes m (moves.add_gap Trimmed (st m s)) (moves.add_gap Whole s)
  add_gap_goes s h = record {
    same =
        ap (λ (u : ReplicaState). (u, to_leader (st m s) (bodies.GapRep (length_of Trimmed (st m s).log + 1)))) (appended_trims s NoOp h)
        ∙ ap (λ (n : ℕ). (st m (moves.appended s NoOp), to_leader (st m s) (bodies.GapRep (n + 1)))) (length_trims m s.log h.within);
    stands = appended_stands s NoOp h;
  }

  -- ---- a greater view is entered

  enter_as_trims : (b : Bool) (s : ReplicaState) → enter_as b (st m s) ≡ ef m (enter_as b s)
  enter_as_trims true s = ap (λ (xs : List Sending). (st m (enter_as true s).0, xs)) (all_trims m (max_faults s == 0) s bodies.ViewChangeReq)
  enter_as_trims false s =
      ap (λ (xs : List Sending). (st m s, xs ++ change_sent (st m s))) (all_trims m (max_faults s == 0) s bodies.ViewChangeReq)
      ∙ ap (λ (xs : List Sending). (st m s, xs)) (sym (map-both (trimmed_sending m) (to_all s bodies.ViewChangeReq) (change_sent s)))

  enter_as_stands : (b : Bool) (s : ReplicaState) → Stands s → Stands (enter_as b s).0
  enter_as_stands true s h = record { within = h.within; points = h.points }
  enter_as_stands false s h = h

  pub enter_goes : (s : ReplicaState) (w : View) → Stands s → Goes m (enter (st m s) w) (enter s w)
  unfolding enter
  enter_goes s w h = record {
    same = enter_as_trims (leads (entered s w)) (entered s w);
    stands = enter_as_stands (leads (entered s w)) (entered s w) (record { within = h.within; points = h.points });
  }

  -- ---- logs that come

  adopted_stands : (s : ReplicaState) (w : View) (x : ℕ) (l : Log) → IsWithin l → Stands s → Stands (moves.adopted Whole s w x l)
  adopted_stands s w x l g h = record {
    within = adopted_within l s.log (further_within l s.log g h.within);
    points = adopted_point Whole l s.log ∙ ap (λ (n : ℕ). max n l.sync_point) h.points;
  }

  overlaid_stands : (s : ReplicaState) (l : Log) → IsWithin l → Stands s → Stands (moves.overlaid Whole s l)
  overlaid_stands s l g h = record {
    within = overlaid_within l s.log (further_within l s.log g h.within);
    points = overlaid_point Whole l s.log ∙ ap (λ (n : ℕ). max n l.sync_point) h.points;
  }

  adopted_trims : (s : ReplicaState) (w : View) (x : ℕ) (l : Log) → IsWithin l → Stands s
      → moves.adopted Trimmed (st m s) w x (trim m l) ≡ st m (moves.adopted Whole s w x l)
  adopted_trims s w x l g h =
      let k : Log = logs.adopted Whole l s.log in
      ap (λ (y : Log). record (left (st m s)) {
        view = w;
        status = phases.Normal;
        last_normal = w;
        log = y;
        next = x;
        base = length_of Trimmed y;
        receiver = listening_from s w x;
        sync = raised (cleared s.sync) l.sync_point;
      }) (adopt_trims m l s.log (λ _. h.within))
      ∙ ap (λ (n : ℕ). record (st m (moves.adopted Whole s w x l)) { base = n })
      (length_trims m k (adopted_within l s.log (further_within l s.log g h.within)))

  overlaid_trims : (s : ReplicaState) (l : Log) → IsWithin l → Stands s
      → moves.overlaid Trimmed (st m s) (trim m l) ≡ st m (moves.overlaid Whole s l)
  overlaid_trims s l g h =
      ap (λ (x : Log). let n : ℕ = s.next + (length_of Trimmed (trim m l) - length_of Trimmed (trim m s.log)) in
      record (st m s) {
        log = x;
        next = n;
        receiver = advanced s.receiver n;
        sync = raised (synchronisation.taken s.sync (length_of Trimmed (trim m l))) l.sync_point;
      }) (overlay_trims m l s.log (further_within l s.log g h.within))
      ∙ ap (λ (k : ℕ). let n : ℕ = s.next + (k - length_of Trimmed (trim m s.log)) in
      record (st m (moves.overlaid Whole s l)) {
        next = n;
        receiver = advanced s.receiver n;
        sync = raised (synchronisation.taken s.sync k) l.sync_point;
      }) (length_trims m l g)
      ∙ ap (λ (k : ℕ). let n : ℕ = s.next + (length l.entries - k) in
      record (st m (moves.overlaid Whole s l)) { next = n; receiver = advanced s.receiver n }) (length_trims m s.log h.within)

  -- ---- what is told again

  pub resend_start_goes : (s : ReplicaState) (q : ℕ) → Stands s → Goes m (moves.resend_start Trimmed (st m s) q) (moves.resend_start Whole s q)
  resend_start_goes s q h =
      let b : ℕ = start_len s in
      record {
        same =
            ap (λ (n : ℕ). (st m s, to_replica (st m s) q (bodies.StartView (s.next - (n - b)) (first Trimmed (trim m s.log) b))))
            (length_trims m s.log h.within)
            ∙ ap (λ (l : Log). (st m s, to_replica (st m s) q (bodies.StartView (s.next - (length s.log.entries - b)) l)))
            (first_trims m s.log b (omega (arith, h.points)));
        stands =
            h;
      }

  pub send_synced_goes : (s : ReplicaState) (q : ℕ) → Stands s → Goes m (moves.send_synced Trimmed (st m s) q) (moves.send_synced Whole s q)
  send_synced_goes s q h = record {
    same = ap (λ (l : Log). (st m s, to_replica (st m s) q (bodies.SyncPrepare l))) (first_trims m s.log s.sync.sync_point (omega (arith, h.points)));
    stands = h;
  }

  pub repeat_goes : (s : ReplicaState) → Stands s → Goes m (moves.repeat_commit (st m s)) (moves.repeat_commit s)
  repeat_goes s h = record {
    same = ap (λ (xs : List Sending). (st m s, xs)) (all_trims m (max_faults s == 0) s (bodies.SyncCommit s.sync.sync_point));
    stands = h;
  }

module _ {S : Type 0} (m : Meaning S) (IsSound : S → Type 0) (keeps : KeepsTo m IsSound) where
  -- ---- replies

  leader_trims : (s : ReplicaState) (n : ℕ) (r : Request) (o : Option (List ℕ))
      → replies.leader_reply (st m s) n r o ≡ ts m (replies.leader_reply s n r o)
  leader_trims s n r None = refl
  leader_trims s n r (Some bytes) = refl

  pub request_reply_trims : (s : ReplicaState) (n : ℕ) (r : Request) → s.log.sync_point < n
      → replies.reply_to m Trimmed (st m s) n r ≡ ts m (replies.reply_to m Whole s n r)
  unfolding replies.reply_to
  request_reply_trims s n r h = on (leads s)
    where
      on : (b : Bool) → replies.reply_if m Trimmed b (st m s) n r ≡ ts m (replies.reply_if m Whole b s n r)
      on true =
          ap (replies.leader_reply (st m s) n r) (result_trims m IsSound keeps s.log n h)
          ∙ leader_trims s n r (slot_result m Whole s.log n)
      on false = refl

  reply_trims : (s : ReplicaState) (n : ℕ) (e : Entry) → s.log.sync_point < n
      → replies.reply_for m Trimmed (st m s) n e ≡ ts m (replies.reply_for m Whole s n e)
  reply_trims s n NoOp h = refl
  reply_trims s n (Req r) h = request_reply_trims s n r h

  replies_trim : (s : ReplicaState) (n : ℕ) (es : List Entry) → s.log.sync_point < n
      → replies.replies_to m Trimmed (st m s) n es ≡ ts m (replies.replies_to m Whole s n es)
  replies_trim s n [] h = refl
  replies_trim s n (e ∷ es) h =
      ap (λ (xs : List Sending). xs ++ replies.replies_to m Trimmed (st m s) (n + 1) es) (reply_trims s n e h)
      ∙ ap (λ (xs : List Sending). ts m (replies.reply_for m Whole s n e) ++ xs) (replies_trim s (n + 1) es (omega (arith, h)))
      ∙ sym (map-both (trimmed_sending m) (replies.reply_for m Whole s n e) (replies.replies_to m Whole s (n + 1) es))

  replies_above_trim : (s : ReplicaState) (n : ℕ) → s.log.sync_point ≤ n
      → replies.replies_above m Trimmed (st m s) n ≡ ts m (replies.replies_above m Whole s n)
  replies_above_trim s n h =
      ap (replies.replies_to m Trimmed (st m s) (n + 1)) (above_trims m s.log n h)
      ∙ replies_trim s (n + 1) (above Whole s.log n) (omega (arith, h))

  -- ---- the next slot

  take_front_goes : (s : ReplicaState) (r : Request) → Stands s
      → Goes m (moves.take_front m Trimmed (st m s) r) (moves.take_front m Whole s r)
  take_front_goes s r h =
      let t : ReplicaState = moves.logged s r in
      record {
        same =
            ap (λ (l : Log). let u : ReplicaState = record (st m s) { log = l; next = s.next + 1; receiver = front_taken s.receiver } in
            (u, replies.reply_to m Trimmed u (length_of Trimmed (st m s).log + 1) r)) (append_trims m s.log (Req r) h.within)
            ∙ ap (λ (n : ℕ). (st m t, replies.reply_to m Trimmed (st m t) (n + 1) r)) (length_trims m s.log h.within)
            ∙ ap (λ (xs : List Sending). (st m t, xs)) (request_reply_trims t (length s.log.entries + 1) r (omega (arith, h.within)));
        stands =
            record { within = appended_within s.log (Req r) h.within; points = h.points };
      }

  pub fill_goes : (s : ReplicaState) (r : Request) → Stands s → Goes m (moves.fill m Trimmed (st m s) r) (moves.fill m Whole s r)
  fill_goes s r h =
      let t : ReplicaState = moves.appended s (Req r) in
      record {
        same =
            ap (λ (u : ReplicaState). (u, replies.reply_to m Trimmed u (length_of Trimmed (st m s).log + 1) r)) (appended_trims m s (Req r) h)
            ∙ ap (λ (n : ℕ). (st m t, replies.reply_to m Trimmed (st m t) (n + 1) r)) (length_trims m s.log h.within)
            ∙ ap (λ (xs : List Sending). (st m t, xs)) (request_reply_trims t (length s.log.entries + 1) r (omega (arith, h.within)));
        stands =
            appended_stands m s (Req r) h;
      }

  -- ---- what is in front is taken

  drain_by_goes : (n : ℕ) (s : ReplicaState) → Stands s → Goes m (moves.drain_by m Trimmed n (st m s)) (moves.drain_by m Whole n s)
  drain_by_goes zero s h = still_goes m s h
  drain_by_goes (suc n) s h =
      let r = at (λ t g. drain_by_goes n t g) (drains Whole s) (front_of s.receiver) in
      record {
        same =
            ap (λ (b : Bool). moves.drain_at m Trimmed (moves.drain_by m Trimmed n) (st m s) b (front_of s.receiver)) (drains_trims m s h)
            ∙ r.same;
        stands = r.stands;
      }
    where
      drop : ((t : ReplicaState) → Stands t → Goes m (moves.drain_by m Trimmed n (st m t)) (moves.drain_by m Whole n t)) → (b : Bool)
          → Goes m (moves.drain_drop Trimmed (moves.drain_by m Trimmed n) b (st m s)) (moves.drain_drop Whole (moves.drain_by m Whole n) b s)
      drop more true =
          then_goes m (moves.open_gap Trimmed (st m s)) (moves.open_gap Whole s) (moves.drain_by m Trimmed n) (moves.drain_by m Whole n)
          (open_gap_goes m s h) (λ g. more (moves.open_gap Whole s).0 g)
      drop more false = ask_goes m s h

      at : ((t : ReplicaState) → Stands t → Goes m (moves.drain_by m Trimmed n (st m t)) (moves.drain_by m Whole n t)) → (b : Bool) (front : Front)
          → Goes m (moves.drain_at m Trimmed (moves.drain_by m Trimmed n) (st m s) b front) (moves.drain_at m Whole (moves.drain_by m Whole n) s b front)
      at more true (Message r) =
          then_goes m (moves.take_front m Trimmed (st m s) r) (moves.take_front m Whole s r) (moves.drain_by m Trimmed n)
          (moves.drain_by m Whole n) (take_front_goes s r h) (λ g. more (moves.take_front m Whole s r).0 g)
      at more true Dropped = drop more (leads s)
      at more true Nothing = still_goes m s h
      at more false front = still_goes m s h

  pub drain_goes : (s : ReplicaState) → Stands s → Goes m (moves.drain m Trimmed (st m s)) (moves.drain m Whole s)
  unfolding moves.drain
  drain_goes s h =
      let r = drain_by_goes (MAX_SLOTS - unsynced Whole s.log) s h in
      record {
        same = ap (λ (n : ℕ). moves.drain_by m Trimmed (MAX_SLOTS - n) (st m s)) (unsynced_trims m s.log h.within) ∙ r.same;
        stands = r.stands;
      }

  pub drained : (d e : Effect) → Goes m d e → Goes m (then_do d (moves.drain m Trimmed)) (then_do e (moves.drain m Whole))
  drained d e one = then_goes m d e (moves.drain m Trimmed) (moves.drain m Whole) one (λ g. drain_goes e.0 g)

  -- ---- a view starts

  pub adopt_goes : (s : ReplicaState) (w : View) (x : ℕ) (l : Log) → IsWithin l → Stands s
      → Goes m (moves.adopt m Trimmed (st m s) w x (trim m l)) (moves.adopt m Whole s w x l)
  unfolding moves.adopt
  adopt_goes s w x l g h =
      let t : ReplicaState = moves.adopted Whole s w x l in
      let stands = adopted_stands m s w x l g h in
      drained (
        moves.adopted Trimmed (st m s) w x (trim m l),
        replies.replies_above m Trimmed (moves.adopted Trimmed (st m s) w x (trim m l)) (moves.adopted Trimmed (st m s) w x (trim m l)).sync.sync_point,
      )
      (t, replies.replies_above m Whole t t.sync.sync_point)
      (record {
        same =
            ap (λ (u : ReplicaState). (u, replies.replies_above m Trimmed u u.sync.sync_point)) (adopted_trims m s w x l g h)
            ∙ ap (λ (xs : List Sending). (st m t, xs)) (replies_above_trim t t.sync.sync_point (omega (arith, stands.points)));
        stands = stands;
      })

  open_with_goes : (s : ReplicaState) (x : ℕ) (l : Log) → IsWithin l → Stands s
      → Goes m (moves.open_with m Trimmed (st m s) x (trim m l)) (moves.open_with m Whole s x l)
  open_with_goes s x l g h =
      then_goes m (st m s, to_all (st m s) (bodies.StartView x (trim m l))) (s, to_all s (bodies.StartView x l))
      (λ t. moves.adopt m Trimmed t t.view x (trim m l)) (λ t. moves.adopt m Whole t t.view x l)
      (record { same = ap (λ (xs : List Sending). (st m s, xs)) (all_trims m (max_faults s == 0) s (bodies.StartView x l)); stands = h })
      (λ f. adopt_goes s s.view x l g f)

  pub open_goes : (o : Option (Gathering Change)) (s : ReplicaState) → ((g : Gathering Change) → o ≡ Some g → Opens g) → Stands s
      → Goes m (moves.open_if_enough m Trimmed (option_map (trimmed_gathering m) o) (st m s)) (moves.open_if_enough m Whole o s)
  open_goes None s opens h = still_goes m s h
  open_goes (Some g) s opens h =
      when_goes m _ (nat_lt g.f (length g.changes)) (moves.open_view m Trimmed (trimmed_gathering m g)) (moves.open_view m Whole g) s
      (ap (nat_lt g.f) (length-map g.changes (trim_change m))) h (λ e.
      let enough : g.f < length g.changes = grind (arith, nat_tests, e) in
      let good = opens g refl enough in
      let x : ℕ = (start_of g.view (map plain g.changes)).next in
      let l : Log = merged Whole (kept_changes g.changes) in
      let r = open_with_goes s x l good.within h in
      record {
        same =
            ap (λ (n : ℕ). moves.open_with m Trimmed (st m s) n (merged Trimmed (kept_changes (map (trim_change m) g.changes))))
            (next_trims m g.view g.changes)
            ∙ ap (moves.open_with m Trimmed (st m s) x) (start_trims m g.changes good.agree)
            ∙ r.same;
        stands = r.stands;
      })

  -- ---- sync points

  pub overlay_goes : (s : ReplicaState) (l : Log) → IsWithin l → Stands s
      → Goes m (moves.overlay m Trimmed (st m s) (trim m l)) (moves.overlay m Whole s l)
  unfolding moves.overlay
  overlay_goes s l g h =
      let t : ReplicaState = moves.overlaid Whole s l in
      let n : ℕ = max (length s.log.entries) t.sync.sync_point in
      let stands = overlaid_stands m s l g h in
      record {
        same =
            ap (λ (u : ReplicaState). (
              u,
              replies.replies_above m Trimmed u (max (length_of Trimmed (trim m s.log)) u.sync.sync_point)
                  ++ to_leader (st m s) (bodies.SyncRep (length_of Trimmed (trim m l))),
            )) (overlaid_trims m s l g h)
            ∙ ap (λ (k : ℕ). (
              st m t,
              replies.replies_above m Trimmed (st m t) (max k t.sync.sync_point)
                  ++ to_leader (st m s) (bodies.SyncRep (length_of Trimmed (trim m l))),
            )) (length_trims m s.log h.within)
            ∙ ap (λ (k : ℕ). (st m t, replies.replies_above m Trimmed (st m t) n ++ to_leader (st m s) (bodies.SyncRep k))) (length_trims m l g)
            ∙ ap (λ (xs : List Sending). (st m t, xs ++ to_leader (st m s) (bodies.SyncRep (length l.entries))))
            (replies_above_trim t n (omega (arith, stands.points)))
            ∙ ap (λ (xs : List Sending). (st m t, xs))
            (sym (map-both (trimmed_sending m) (replies.replies_above m Whole t n) (to_leader s (bodies.SyncRep (length l.entries)))));
        stands =
            stands;
      }

  -- ---- the sync point rises

  log_trimmed_trims : (s : ReplicaState) → s.log.sync_point ≤ s.sync.sync_point → 0 < s.sync.sync_point
      → moves.log_trimmed m Trimmed (st m s) ≡ st m (moves.log_trimmed m Whole s)
  log_trimmed_trims s low some = ap (λ (l : Log). record (st m s) { log = l }) (raise_trims m IsSound keeps s.log s.sync.sync_point low some)

  log_trimmed_stands : (s : ReplicaState) → s.sync.sync_point ≤ length s.log.entries → Stands (moves.log_trimmed m Whole s)
  log_trimmed_stands s most = record { within = most; points = refl }

  trim_goes : (s : ReplicaState) → s.log.sync_point < s.sync.sync_point → s.sync.sync_point ≤ length s.log.entries
      → Goes m (moves.trim m Trimmed (st m s)) (moves.trim m Whole s)
  trim_goes s less most = record {
    same =
        ap (λ (u : ReplicaState). (u, Trims (s.log.sync_point + 1) (moves.trimmed_entries Trimmed (st m s)) ∷ []))
        (log_trimmed_trims s (omega (arith, less)) (omega (arith, less)))
        ∙ ap (λ (es : List Entry). (st m (moves.log_trimmed m Whole s), Trims (s.log.sync_point + 1) (whole 0 es) ∷ []))
        (between_trims m s.log s.sync.sync_point);
    stands = log_trimmed_stands s most;
  }

  -- of votes the log knows only once its sync point rises
  pub trim_and_drain_goes : (s : ReplicaState) → s.log.sync_point ≤ s.sync.sync_point → s.sync.sync_point ≤ length s.log.entries
      → Goes m (trim_and_drain m Trimmed (st m s)) (trim_and_drain m Whole s)
  trim_and_drain_goes s low most = on (may_trim s) refl
    where
      on : (b : Bool) → may_trim s ≡ b
          → Goes m (when b (λ t. then_do (moves.trim m Trimmed t) (moves.drain m Trimmed)) (st m s))
          (when b (λ t. then_do (moves.trim m Whole t) (moves.drain m Whole)) s)
      on true is =
          let less : s.log.sync_point < s.sync.sync_point = grind (arith, nat_tests, is) in
          drained (moves.trim m Trimmed (st m s)) (moves.trim m Whole s) (trim_goes s less most)
      on false is =
          let high : s.sync.sync_point ≤ s.log.sync_point = grind (arith, nat_tests, is) in
          still_goes m s (record { within = omega (arith, low, high, most); points = omega (arith, low, high) })

  -- ---- votes

  pub sync_commit_goes : (n : ℕ) (s : ReplicaState) → PointsWithin s → Goes m (rows.sync_commit m Trimmed n (st m s)) (rows.sync_commit m Whole n s)
  unfolding rows.sync_commit moves.sync_commit
  sync_commit_goes n s h = on (nat_le n s.sync.prepared) refl
    where
      on : (b : Bool) → nat_le n s.sync.prepared ≡ b
          → Goes m (then_do (when b (λ t. moves.obey (hear t) n) (st m s)) (trim_and_drain m Trimmed))
          (then_do (when b (λ t. moves.obey (hear t) n) s) (trim_and_drain m Whole))
      on true is =
          let few : n ≤ s.sync.prepared = grind (arith, nat_tests, is) in
          let u : ReplicaState = record (hear s) { sync = committed s.sync n } in
          let point : u.sync.sync_point ≡ max s.sync.sync_point n = ap (λ (b : Bool). (cond b (record s.sync { sync_point = max s.sync.sync_point n }) s.sync).sync_point) is in
          let r = trim_and_drain_goes u (omega (arith, h.points, point)) (omega (arith, point, few, h.prepared, h.sync_point)) in
          record {
            same = then_same m (still (st m u)) (still u) (trim_and_drain m Trimmed) (trim_and_drain m Whole) refl r.same;
            stands = r.stands;
          }
      on false is =
          let r = trim_and_drain_goes s (omega (arith, h.points)) h.sync_point in
          record {
            same = then_same m (still (st m s)) (still s) (trim_and_drain m Trimmed) (trim_and_drain m Whole) refl r.same;
            stands = r.stands;
          }

  commit_trims : (s : ReplicaState) (n : ℕ) (w : Vote) → moves.commit_if (st m s) n w ≡ ts m (moves.commit_if s n w)
  commit_trims s n Settled = all_trims m (max_faults s == 0) s (bodies.SyncCommit n)
  commit_trims s n Waiting = refl

  -- where a vote leaves the sync point
  voted : (f : ℕ) (y : Synchronisation) (o : Option Round) (q n top : ℕ) → y.sync_point ≤ top
      → ((x : Round) → o ≡ Some x → x.len ≤ top)
      → (y.sync_point ≤ (synchronisation.counted_in y o q n).sync_point) × ((synchronisation.counted_in y o q n).sync_point ≤ top)
  voted f y None q n top low rounds = (omega arith, low)
  voted f y (Some x) q n top low rounds = on (x.len == n) (synchronisation.round_vote y.f x q n)
    where
      on : (b : Bool) (w : Vote)
          → (y.sync_point ≤ (synchronisation.closed y (cond b (record x { votes = with_vote x.votes q }) x) w).sync_point)
          × ((synchronisation.closed y (cond b (record x { votes = with_vote x.votes q }) x) w).sync_point ≤ top)
      on true Settled = (omega arith, omega (arith, low, rounds x refl))
      on false Settled = (omega arith, omega (arith, low, rounds x refl))
      on b Waiting = (omega arith, low)

  pub sync_reply_goes : (q n : ℕ) (s : ReplicaState) → PointsWithin s → Goes m (rows.sync_reply m Trimmed q n (st m s)) (rows.sync_reply m Whole q n s)
  unfolding rows.sync_reply
  sync_reply_goes q n s h =
      let u : ReplicaState = record s { sync = synchronisation.sync_vote_counted s.sync q n } in
      let d : Effect = (st m u, moves.commit_if (st m s) n (vote_for s.sync q n)) in
      let e : Effect = (u, moves.commit_if s n (vote_for s.sync q n)) in
      let points = voted s.sync.f s.sync s.sync.syncing q n (length s.log.entries) h.sync_point (λ x e. (h.round x e).1) in
      let r = trim_and_drain_goes u (omega (arith, h.points, points.0)) points.1 in
      record {
        same =
            then_same m d e (trim_and_drain m Trimmed) (trim_and_drain m Whole)
            (ap (λ (xs : List Sending). (st m u, xs)) (commit_trims s n (vote_for s.sync q n))) r.same;
        stands = r.stands;
      }

  -- ---- the tick Sync

  open_sync_goes : (s : ReplicaState) → PointsWithin s → s.sync.sync_point < length s.log.entries
      → Goes m (then_do (moves.open_sync Trimmed (st m s)) (trim_and_drain m Trimmed))
      (then_do (moves.open_sync Whole s) (trim_and_drain m Whole))
  open_sync_goes s h less =
      let top : ℕ = length s.log.entries in
      let u : ReplicaState = record s { sync = with_round s.sync top } in
      let points = rounded (s.sync.f == 0) (nat_lt s.sync.sync_point top) in
      let r = trim_and_drain_goes u (omega (arith, h.points, points.0)) points.1 in
      record {
        same =
            then_same m (moves.open_sync Trimmed (st m s)) (moves.open_sync Whole s) (trim_and_drain m Trimmed)
            (trim_and_drain m Whole)
            (ap (λ (n : ℕ). (record (st m s) { sync = with_round s.sync n }, to_all (st m s) (bodies.SyncPrepare (trim m s.log))))
            (length_trims m s.log (omega (arith, h.points, h.sync_point)))
            ∙ ap (λ (xs : List Sending). (st m u, xs)) (all_trims m (max_faults s == 0) s (bodies.SyncPrepare s.log))) r.same;
        stands = r.stands;
      }
    where
      rounded : (alone b : Bool)
          → (s.sync.sync_point ≤ (cond b (synchronisation.begun alone s.sync (length s.log.entries)) s.sync).sync_point)
          × ((cond b (synchronisation.begun alone s.sync (length s.log.entries)) s.sync).sync_point ≤ length s.log.entries)
      rounded alone false = (omega arith, h.sync_point)
      rounded true true = (omega (arith, less), omega arith)
      rounded false true = (omega arith, h.sync_point)

  pub sync_goes : (s : ReplicaState) → PointsWithin s → Goes m (rows.sync m Trimmed (st m s)) (rows.sync m Whole s)
  unfolding rows.sync repeating.sync
  sync_goes s h = on (is_normal s.status && (leads s && not (waits s.gap)))
    where
      stands : Stands s
      stands = record { within = omega (arith, h.points, h.sync_point); points = h.points }

      by : (b : Bool) → nat_lt s.sync.sync_point (length s.log.entries) ≡ b
          → Goes m (then_do (repeating.sync_if Trimmed b (st m s)) (trim_and_drain m Trimmed))
          (then_do (repeating.sync_if Whole b s) (trim_and_drain m Whole))
      by true is = open_sync_goes s h (let less : s.sync.sync_point < length s.log.entries = grind (arith, nat_tests, is) in less)
      by false is =
          then_goes m (moves.repeat_commit (st m s)) (moves.repeat_commit s) (trim_and_drain m Trimmed)
          (trim_and_drain m Whole) (repeat_goes m s stands)
          (λ g. trim_and_drain_goes s (omega (arith, h.points)) h.sync_point)

      on : (b : Bool)
          → Goes m (then_do (when b (λ t. repeating.sync_if Trimmed (nat_lt t.sync.sync_point (length_of Trimmed t.log)) t) (st m s))
          (trim_and_drain m Trimmed))
          (then_do (when b (λ t. repeating.sync_if Whole (nat_lt t.sync.sync_point (length_of Whole t.log)) t) s) (trim_and_drain m Whole))
      on true =
          let r = by (nat_lt s.sync.sync_point (length s.log.entries)) refl in
          record {
            same =
                ap (λ (n : ℕ). then_do (repeating.sync_if Trimmed (nat_lt s.sync.sync_point n) (st m s)) (trim_and_drain m Trimmed))
                (length_trims m s.log stands.within)
                ∙ r.same;
            stands = r.stands;
          }
      on false =
          then_goes m (still (st m s)) (still s) (trim_and_drain m Trimmed) (trim_and_drain m Whole)
          (still_goes m s stands) (λ g. trim_and_drain_goes s (omega (arith, h.points)) h.sync_point)
