-- Rows stay in their ranges, and send only what is in its ranges.
use Rattle.std.proofs.Common.{◌≡◌, ◌≢◌, ◌<◌, ◌≤◌, ◌+◌, ◌-◌, ℕ, zero, suc, Bool, true, false, Option, Some, None, refl, ap, subst}
use Rattle.std.proofs.Common.{◌∙◌, arith, List, [], ◌∷◌, ◌++◌, length, map, drop}
use Rattle.std.specs.Prelude.{◌^◌, max, cond, ◌&&◌, ◌==◌, not, nat_lt, nat_le, IfSome, IsTrue, slice_get}
use Rattle.std.specs.List.{AllByRecursion}
use Rattle.std.proofs.lemmas.Bool.{and_parts, lt-ltb}
use Rattle.std.proofs.lemmas.Bool.Decides.{nat_tests}
use Rattle.std.proofs.lemmas.List.{length-drop}
use Rattle.nop_types.specs.declared.limits.TheConstants.{MAX_RESULT_BYTES, MAX_SLOTS, MAX_LENGTH, NUMBER_END}
use Rattle.nop_types.specs.declared.view.View.{View}
use Rattle.nop_types.specs.declared.replica_state.Phase.{Phase}
use Rattle.nop_types.specs.declared.replica_state.Phase.TheVariants.{Normal, Change}
use Rattle.nop_types.specs.declared.replica_state.Vote.{Vote}
use Rattle.nop_types.specs.declared.replica_state.Vote.TheVariants.{Settled, Waiting}
use Rattle.nop_types.specs.declared.request.Request.{Request}
use Rattle.nop_types.specs.declared.request.Entry.{Entry}
use Rattle.nop_types.specs.declared.request.Entry.TheVariants.{NoOp, Req}
use Rattle.nop_types.specs.declared.datagram.Stamped.{Stamped}
use Rattle.nop_types.specs.declared.peer.Change as peer
use Rattle.nop_types.specs.declared.peer.Body.TheVariants as bodies
use Rattle.nop_types.specs.Bounds.{Bounds}
use Rattle.nop_types.specs.CheckpointedLogs.{slot_result}
use Rattle.nop_types.specs.Configuration.{Configuration, is_configuration}
use Rattle.nop_types.specs.Logs.{Log, Keeping, Whole, Trimmed, length_of, unsynced, place_of, above, entry_at, first}
use Rattle.nop_types.specs.Lists.{slot_of}
use Rattle.nop_types.specs.Meaning.{Meaning}
use Rattle.nop_types.specs.PlainChanges.{plain}
use Rattle.nop_types.specs.Ranges.{ViewFits, RequestFits, EntryFits, LogIsIn, NextFits, SlotFits, StampedFits, PeerIsIn}
use Rattle.nop_types.specs.Ranges.{ChangeIsIn}
use Rattle.nop_types.specs.Views.{join_of}
use Rattle.lemmas.proofs.Limits.{is_configuration-few_replicas}
use Rattle.slot_votes.specs.Agreement.{Agreement, gap_vote_counted}
use Rattle.slot_votes.specs.Votes.{vote_of}
use Rattle.log_merge.specs.Merging.{kept_changes, merged}
use Rattle.log_merge.specs.Starting as starting
use Rattle.oum_receiver.specs.Front.{Front, Nothing, Message, Dropped}
use Rattle.oum_receiver.specs.Receiving.{Receiving, IsSound, opened, verdict_of, offered, front_of}
use Rattle.oum_receiver.specs.Receiving.{advanced}
use Rattle.oum_receiver.proofs.Sound.{opened_sound, offered_sound, taken_sound, advanced_sound}
use Rattle.replica_log.proofs.InRanges.{first_fits}
use Rattle.replica_log.specs.Answer.{Answer, Below, Found, Begin, answer_by, may_begin, answer_above, answer_of}
use Rattle.slot_votes.specs.Synchronisation as synchronisation
use Rattle.slot_votes.specs.Synchronisation.{Synchronisation}
use Rattle.view_change.specs.Gathering.{Gathering, change_sender}
use Rattle.view_change.specs.Gathering as gathering
use Rattle.replica_state.specs.declared.sending.Sending.{Sending}
use Rattle.replica_state.specs.declared.state.ReplicaState.{ReplicaState}
use Rattle.replica_state.specs.State.{opening, max_faults, leader, leads, is_normal, drains, waits, waiting, has_room, may_append}
use Rattle.replica_state.specs.State.{may_trim}
use Rattle.replica_state.specs.Sends.{Effect, then_do, when, to_leader, to_all, SendingIsIn}
use Rattle.replica_state.specs.Replies.{leader_reply, reply_if, reply_to, reply_for, replies_to, replies_above}
use Rattle.replica_state.specs.Moves.{queue, begin_session, session_view, logged, take_front, appended, fill, ask_if, gap_opened, open_gap, write_gap}
use Rattle.replica_state.specs.Moves.{add_gap, count_gap_vote, drain_drop, drain_at, drain_by, drain, listening, entered, own_change}
use Rattle.replica_state.specs.Moves.{change_sent, enter_as, enter, adopted, adopt, open_with, open_view, keep_change}
use Rattle.replica_state.specs.Moves.{start_len, count_sync_vote}
use Rattle.replica_state.specs.Moves.{resend_start, overlaid, overlay, hear, obey, sync_commit, commit_if, trim}
use Rattle.replica_state.specs.Repeating.{sync_if, sync}
use Rattle.replica_rows.specs.Rows as rows
use Rattle.replica_rows.specs.Messages.{Arrival, arrive}
use Rattle.replica_state.specs.Within.{IsIn}
use Rattle.replica_rows.specs.Within.{ArrivalIsIn}
use Rattle.replica_rows.proofs.Running.{
  append_within,
  open_gap_within,
  logged_within,
  noop_within,
  adopted_within,
  begun_within,
  gathers_within,
  overlaid_within,
  waiting_fits,
}
use Rattle.replica_rows.proofs.EachRow.{change_in, arrive_row}
use Rattle.replica_rows.proofs.EachMove.{Kept, EachMove, each_row}
use Rattle.replica_rows.proofs.Opening.{opened_next_fits, opened_log_fits, counted_fits}
use Rattle.replica_rows.proofs.Ready.{opens_within}
use Rattle.network_laws.specs.Ranges.{StaysInRanges}
use Rattle.replica_rows.proofs.Fields.{
  with_receiver,
  with_gap,
  with_asked,
  with_heard,
  SyncFits,
  with_sync,
  risen_within,
  sync_of,
  with_round_fits,
  committed_fits,
  counted_in_fits,
  with_round_grows,
  committed_grows,
  counted_grows,
}
use Rattle.network_laws.proofs.FieldRanges.{below, IsGood, good, after, all_behind, still_stays, then_stays, number_small, to_replica_fits, to_all_fits, own_change_fits, judged_next, cond_sound, message_fits, not_nothing, hears, entered_within}

-- ---- the opening

pub opens_in_ranges : (k : Keeping) (config : Configuration) (number : ℕ) → IsTrue (is_configuration config) → number < config.replicas
    → IsIn k (opening config number) × IsSound (opening config number).receiver
opens_in_ranges k config number is there =
    (opens_within k config number there (is_configuration-few_replicas config is), opened_sound 1 1 (omega arith))

-- ---- the slots above one

above_length : (k : Keeping) (l : Log) (n : ℕ) → n + length (above k l n) ≤ max n (length_of k l)
above_length Whole l n = let len = length-drop n l.entries in omega (arith, len)
above_length Trimmed l n = let len = length-drop (n - l.sync_point) l.entries in omega (arith, len)

module _ {S : Type 0} (m : Meaning S) (k : Keeping) (bounds : Bounds m k) where
  -- ---- replies

  leader_reply_fits : (s : ReplicaState) (slot : ℕ) (r : Request) (o : Option (List ℕ)) → IsIn k s → SlotFits slot → RequestFits r
      → ((result : List ℕ) → o ≡ Some result → length result ≤ MAX_RESULT_BYTES)
      → AllByRecursion (SendingIsIn k) (leader_reply s slot r o)
  leader_reply_fits s slot r None w place fits few = tt
  leader_reply_fits s slot r (Some result) w place fits few = (
    record {
      replica = number_small s w;
      view = w.view;
      slot = place;
      client = fits.client;
      id_low = fits.id_low;
      id = fits.id;
      tag = omega arith;
      result_length = few result refl;
      without = λ e. absurd (omega (arith, e));
    },
    tt,
  )

  reply_if_fits : (b : Bool) (s : ReplicaState) (slot : ℕ) (r : Request) → IsIn k s → SlotFits slot → RequestFits r
      → AllByRecursion (SendingIsIn k) (reply_if m k b s slot r)
  reply_if_fits true s slot r w place fits =
      leader_reply_fits s slot r (slot_result m k s.log slot) w place fits
      (λ result e. bounds.short s.log slot result w.log e)
  reply_if_fits false s slot r w place fits = (
    record {
      replica = number_small s w;
      view = w.view;
      slot = place;
      client = fits.client;
      id_low = fits.id_low;
      id = fits.id;
      tag = omega arith;
      result_length = omega arith;
      without = λ e. refl;
    },
    tt,
  )

  reply_fits : (s : ReplicaState) (slot : ℕ) (r : Request) → IsIn k s → SlotFits slot → RequestFits r
      → AllByRecursion (SendingIsIn k) (reply_to m k s slot r)
  unfolding reply_to
  reply_fits s slot r w place fits = reply_if_fits (leads s) s slot r w place fits

  entry_reply_fits : (s : ReplicaState) (slot : ℕ) (e : Entry) → IsIn k s → SlotFits slot → EntryFits e
      → AllByRecursion (SendingIsIn k) (reply_for m k s slot e)
  entry_reply_fits s slot NoOp w place fits = tt
  entry_reply_fits s slot (Req r) w place fits = reply_fits s slot r w place fits

  replies_fit : (s : ReplicaState) (slot : ℕ) (l : List Entry) → IsIn k s → 1 ≤ slot → slot + length l ≤ MAX_LENGTH + 1
      → AllByRecursion EntryFits l → AllByRecursion (SendingIsIn k) (replies_to m k s slot l)
  replies_fit s slot [] w low high fits = tt
  replies_fit s slot (e ∷ l) w low high fits =
      all_behind k (reply_for m k s slot e) (replies_to m k s (slot + 1) l)
      (entry_reply_fits s slot e w (record { low = low; high = omega (arith, high) }) fits.0)
      (replies_fit s (slot + 1) l w (omega arith) (omega (arith, high)) fits.1)

  dropped_fit : (i : ℕ) (l : List Entry) → AllByRecursion EntryFits l → AllByRecursion EntryFits (drop i l)
  dropped_fit zero l fits = fits
  dropped_fit (suc i) [] fits = tt
  dropped_fit (suc i) (e ∷ l) fits = dropped_fit i l fits.1

  above_fit : (s : ReplicaState) (n : ℕ) → IsIn k s → n ≤ MAX_LENGTH → AllByRecursion (SendingIsIn k) (replies_above m k s n)
  above_fit s n w le =
      let few = above_length k s.log n in
      let limit = w.log.limit in
      replies_fit s (n + 1) (above k s.log n) w (omega arith) (omega (arith, few, limit, le))
      (dropped_fit (place_of k s.log n) s.log.entries w.log.entries)

  -- what is synchronised is in the log
  synced_most : (s : ReplicaState) → IsIn k s → s.sync.sync_point ≤ MAX_LENGTH
  synced_most s w = let low = w.sync_point in let limit = w.log.limit in omega (arith, low, limit)

  -- ---- the next slot

  queue_stays : (s : ReplicaState) (p : Stamped) → IsGood k s → StampedFits p → StaysInRanges k (queue s p)
  queue_stays s p g fits =
      still_stays (record s { receiver = offered s.receiver p })
      (record {
        within =
            with_receiver k s (offered s.receiver p) g.within
            (λ normal. judged_next (verdict_of s.receiver p) s.receiver p ∙ g.within.receiver normal);
        sound = offered_sound s.receiver p g.sound fits;
      })

  append_good : (s : ReplicaState) (e : Entry) → IsGood k s → EntryFits e → may_append k s ≡ true → IsGood k (appended s e)
  append_good s e g fits may =
      let more = below _ _ (and_parts (has_room k s) (nat_lt s.next NUMBER_END) may).1 in
      record { within = append_within k s e g.within fits may; sound = advanced_sound s.receiver (s.next + 1) g.sound (omega (arith, more)) }

  -- a slot after the last one
  next_slot : (s : ReplicaState) → has_room k s ≡ true → SlotFits (length_of k s.log + 1)
  next_slot s room =
      let tests = and_parts (nat_lt (unsynced k s.log) MAX_SLOTS) (nat_lt (length_of k s.log) MAX_LENGTH) room in
      let less = below _ _ tests.1 in
      record { low = omega arith; high = omega (arith, less) }

  room_of : (s : ReplicaState) → may_append k s ≡ true → has_room k s ≡ true
  room_of s may = (and_parts (has_room k s) (nat_lt s.next NUMBER_END) may).0

  fill_stays : (s : ReplicaState) (r : Request) → IsGood k s → RequestFits r → may_append k s ≡ true
      → StaysInRanges k (fill m k s r)
  fill_stays s r g fits may =
      let a = append_good s (Req r) g fits may in
      good (fill m k s r) a
      (reply_fits (appended s (Req r)) (length_of k s.log + 1) r a.within (next_slot s (room_of s may)) fits)

  gap_good : (s : ReplicaState) → IsGood k s → may_append k s ≡ true → IsGood k (gap_opened k s)
  gap_good s g may = record { within = open_gap_within k s g.within may; sound = (append_good s NoOp g tt may).sound }

  open_gap_stays : (s : ReplicaState) → IsGood k s → may_append k s ≡ true → StaysInRanges k (open_gap k s)
  unfolding open_gap
  open_gap_stays s g may =
      good (gap_opened k s, to_all s (bodies.GapCommit (length_of k s.log + 1))) (gap_good s g may)
      (to_all_fits s (bodies.GapCommit (length_of k s.log + 1)) g.within (next_slot s (room_of s may)))

  add_gap_stays : (s : ReplicaState) → IsGood k s → may_append k s ≡ true → StaysInRanges k (add_gap k s)
  add_gap_stays s g may =
      good (add_gap k s) (append_good s NoOp g tt may)
      (to_replica_fits s (leader s) (bodies.GapRep (length_of k s.log + 1)) g.within (next_slot s (room_of s may)))

  write_gap_stays : (s : ReplicaState) (n : ℕ) → IsGood k s → SlotFits n → StaysInRanges k (write_gap k s n)
  write_gap_stays s n g fits =
      good (write_gap k s n) (record { within = noop_within k s n g.within; sound = g.sound })
      (to_replica_fits s (leader s) (bodies.GapRep n) g.within fits)

  gap_vote_stays : (s : ReplicaState) (g : Agreement) (q : ℕ) → IsGood k s → SlotFits g.slot → StaysInRanges k (count_gap_vote s g q)
  gap_vote_stays s g q h fits =
      still_stays (record s { gap = waiting (gap_vote_counted g q) })
      (record {
        within = with_gap k s (waiting (gap_vote_counted g q)) h.within
            (waiting_fits (gap_vote_counted g q) fits (vote_of (gap_vote_counted g q).f (gap_vote_counted g q).votes));
        sound = h.sound;
      })

  slot_fits : (s : ReplicaState) (g : Agreement) → IsGood k s → s.gap ≡ Some g → SlotFits g.slot
  slot_fits s g h is = subst (λ (o : Option Agreement). IfSome o (λ x. SlotFits x.slot)) is h.within.gap

  ask_if_stays : (b : Bool) (s : ReplicaState) → IsGood k s → has_room k s ≡ true → StaysInRanges k (ask_if k b s)
  ask_if_stays true s g room = still_stays s g
  ask_if_stays false s g room =
      good (ask_if k false s) (record { within = with_asked k s (length_of k s.log + 1) g.within; sound = g.sound })
      (to_replica_fits s (leader s) (bodies.SlotLookup (length_of k s.log + 1)) g.within (next_slot s room))

  -- ---- what is in front is taken

  record AlwaysStays (f : ReplicaState → Effect) : Type 0 where
    at : (s : ReplicaState) → IsGood k s → StaysInRanges k (f s)

  record Drains (s : ReplicaState) : Type 0 where
    normal : s.status ≡ Normal
    room : has_room k s ≡ true

  normal_of : (p : Phase) → is_normal p ≡ true → p ≡ Normal
  normal_of Normal e = refl
  normal_of Change e = absurd cc

  drains_of : (s : ReplicaState) → drains k s ≡ true → Drains s
  drains_of s may =
      let first = and_parts (is_normal s.status) (not (waits s.gap) && has_room k s) may in
      record { normal = normal_of s.status first.0; room = (and_parts (not (waits s.gap)) (has_room k s) first.1).1 }

  -- where something is in front, there is a number after the next one
  more_of : (s : ReplicaState) → IsGood k s → Drains s → front_of s.receiver ≢ Nothing → s.next < NUMBER_END
  more_of s g d some =
      let taken = taken_sound s.receiver g.sound some in
      let high = taken.next in
      let same = g.within.receiver d.normal in
      omega (arith, high, same)

  take_stays : (s : ReplicaState) (r : Request) → IsGood k s → drains k s ≡ true → front_of s.receiver ≡ Message r
      → StaysInRanges k (take_front m k s r)
  take_stays s r g may front =
      let d = drains_of s may in
      let some = not_nothing s.receiver r front in
      let fits = message_fits s.receiver r g.sound front in
      let w = logged_within k s r g.within fits may (more_of s g d some) in
      good (take_front m k s r) (record { within = w; sound = taken_sound s.receiver g.sound some })
      (reply_fits (logged s r) (length_of k s.log + 1) r w (next_slot s d.room) fits)

  room_test : (s : ReplicaState) → has_room k s ≡ true → s.next < NUMBER_END → may_append k s ≡ true
  room_test s room more = ap (λ (b : Bool). b && nat_lt s.next NUMBER_END) room ∙ lt-ltb _ _ more

  drop_apart : (x : Receiving) → front_of x ≡ Dropped → front_of x ≢ Nothing
  drop_apart x e none = absurd cc

  drain_drop_stays : (b : Bool) (again : ReplicaState → Effect) (s : ReplicaState) → AlwaysStays again → IsGood k s
      → drains k s ≡ true → front_of s.receiver ≡ Dropped → StaysInRanges k (drain_drop k again b s)
  drain_drop_stays true again s rest g may drop =
      let d = drains_of s may in
      let opens = open_gap_stays s g (room_test s d.room (more_of s g d (drop_apart s.receiver drop))) in
      then_stays (open_gap k s) again opens (rest.at (open_gap k s).0 (after (open_gap k s) opens))
  drain_drop_stays false again s rest g may drop = ask_if_stays (s.asked == length_of k s.log + 1) s g (drains_of s may).room

  drain_at_stays : (again : ReplicaState → Effect) (s : ReplicaState) (b : Bool) (front : Front) → AlwaysStays again → IsGood k s
      → drains k s ≡ b → front_of s.receiver ≡ front → StaysInRanges k (drain_at m k again s b front)
  drain_at_stays again s true (Message r) rest g may e =
      let takes = take_stays s r g may e in
      then_stays (take_front m k s r) again takes (rest.at (take_front m k s r).0 (after (take_front m k s r) takes))
  drain_at_stays again s true Dropped rest g may e = drain_drop_stays (leads s) again s rest g may e
  drain_at_stays again s true Nothing rest g may e = still_stays s g
  drain_at_stays again s false front rest g may e = still_stays s g

  drain_by_stays : (room : ℕ) → AlwaysStays (drain_by m k room)
  drain_by_stays zero = record { at = still_stays }
  drain_by_stays (suc room) = record {
    at = λ s g. drain_at_stays (drain_by m k room) s (drains k s) (front_of s.receiver) (drain_by_stays room) g refl refl;
  }

  drain_stays : (s : ReplicaState) → IsGood k s → StaysInRanges k (drain m k s)
  unfolding drain
  drain_stays s g = (drain_by_stays (MAX_SLOTS - unsynced k s.log)).at s g

  and_drain : (e : Effect) → StaysInRanges k e → StaysInRanges k (then_do e (drain m k))
  and_drain e h = then_stays e (drain m k) h (drain_stays e.0 (after e h))

  -- ---- the sync point moves

  -- the sync point may have passed that of the log
  record IsAhead (s : ReplicaState) : Type 0 where
    old : Synchronisation
    good : IsGood k (record s { sync = old })
    fits : SyncFits (length_of k s.log) s.sync
    grown : old.sync_point ≤ s.sync.sync_point

  record MovesPoint (e : Effect) : Type 0 where
    ahead : IsAhead e.0
    sends : AllByRecursion (SendingIsIn k) e.1

  trim_stays : (s : ReplicaState) → IsAhead s → may_trim s ≡ true → StaysInRanges k (trim m k s)
  trim_stays s a passed =
      let t : ReplicaState = record s { sync = a.old } in
      let log = bounds.raised s.log s.sync.sync_point a.good.within.log (below _ _ passed) a.fits.sync_point in
      good (trim m k s)
      (record { within = risen_within m k t s.sync a.good.within a.fits a.grown log; sound = a.good.sound })
      (tt, tt)

  -- where it did not, nothing moved
  rests : (s : ReplicaState) → IsAhead s → may_trim s ≡ false → IsGood k s
  rests s a behind =
      let t : ReplicaState = record s { sync = a.old } in
      let points = a.good.within.points in
      let grown = a.grown in
      let same : s.sync.sync_point ≡ a.old.sync_point = grind (arith, nat_tests, behind, points, grown) in
      record { within = with_sync k t s.sync a.good.within a.fits same; sound = a.good.sound }

  and_trim : (e : Effect) → MovesPoint e → StaysInRanges k (then_do e (rows.trim_and_drain m k))
  and_trim e h = at (may_trim e.0) refl
    where
      row : Bool → ReplicaState → Effect
      row b = when b (λ t. then_do (trim m k t) (drain m k))

      at : (b : Bool) → may_trim e.0 ≡ b → StaysInRanges k (then_do e (row b))
      at true is =
          let d = and_drain (trim m k e.0) (trim_stays e.0 h.ahead is) in
          good (then_do e (row true)) (after (row true e.0) d) (all_behind k e.1 (row true e.0).1 h.sends d.sends)
      at false is = good (then_do e (row false)) (rests e.0 h.ahead is) (all_behind k e.1 [] h.sends tt)

  with_sync_moves : (s : ReplicaState) (x : Synchronisation) (sends : List Sending) → IsGood k s → SyncFits (length_of k s.log) x
      → s.sync.sync_point ≤ x.sync_point → AllByRecursion (SendingIsIn k) sends → MovesPoint (record s { sync = x }, sends)
  with_sync_moves s x sends g fits grown all =
      record { ahead = record { old = s.sync; good = g; fits = fits; grown = grown }; sends = all }

  still_moves : (s : ReplicaState) (sends : List Sending) → IsGood k s → AllByRecursion (SendingIsIn k) sends → MovesPoint (s, sends)
  still_moves s sends g all = with_sync_moves s s.sync sends g (sync_of k s g.within) (omega arith) all

  when_moves : (b : Bool) (f : ReplicaState → Effect) (s : ReplicaState) → IsGood k s → MovesPoint (f s) → MovesPoint (when b f s)
  when_moves true f s g h = h
  when_moves false f s g h = still_moves s [] g tt

  -- ---- views

  listening_sound : (s : ReplicaState) (v : View) → IsSound s.receiver → IsSound (listening s v)
  listening_sound s v sound =
      cond_sound (nat_lt s.view.session v.session && not (s.receiver.session == v.session)) (opened v.session 1) s.receiver
      (opened_sound v.session 1 (omega arith)) sound

  enter_as_stays : (b : Bool) (s : ReplicaState) → IsGood k s → StaysInRanges k (enter_as b s)
  enter_as_stays true s g =
      let own = own_change_fits s g.within in
      good (enter_as true s)
      (record { within = gathers_within k s (gathering.entered s.view (max_faults s) (own_change s)) g.within (own, tt); sound = g.sound })
      (to_all_fits s bodies.ViewChangeReq g.within tt)
  enter_as_stays false s g =
      good (enter_as false s) g
      (all_behind k (to_all s bodies.ViewChangeReq) (change_sent s) (to_all_fits s bodies.ViewChangeReq g.within tt)
      (to_replica_fits s (leader s) (bodies.ViewChange s.last_normal s.next s.log) g.within (own_change_fits s g.within).rest))

  enter_stays : (s : ReplicaState) (v : View) → IsGood k s → ViewFits v → StaysInRanges k (enter s v)
  unfolding enter
  enter_stays s v g fits =
      enter_as_stays (leads (entered s v)) (entered s v)
      (record { within = entered_within s v g.within fits; sound = listening_sound s v g.sound })

  adopted_good : (s : ReplicaState) (v : View) (x : ℕ) (l : Log) → IsGood k s → ViewFits v → NextFits x → LogIsIn k l
      → IsGood k (adopted k s v x l)
  adopted_good s v x l g view next log_fits = record {
    within = adopted_within k s v x l g.within view next log_fits;
    sound =
        cond_sound (nat_lt s.receiver.session v.session) (opened v.session x) (advanced s.receiver x) (opened_sound v.session x next.high)
        (advanced_sound s.receiver x g.sound next.high);
  }

  adopt_stays : (s : ReplicaState) (v : View) (x : ℕ) (l : Log) → IsGood k s → ViewFits v → NextFits x → LogIsIn k l
      → StaysInRanges k (adopt m k s v x l)
  unfolding adopt
  adopt_stays s v x l g view next log_fits =
      let t : ReplicaState = adopted k s v x l in
      let a = adopted_good s v x l g view next log_fits in
      and_drain (t, replies_above m k t t.sync.sync_point)
      (good _ a (above_fit t t.sync.sync_point a.within (synced_most t a.within)))

  open_with_stays : (s : ReplicaState) (x : ℕ) (l : Log) → IsGood k s → NextFits x → LogIsIn k l
      → StaysInRanges k (open_with m k s x l)
  open_with_stays s x l g next log_fits =
      then_stays (s, to_all s (bodies.StartView x l)) (λ t. adopt m k t t.view x l)
      (good (s, to_all s (bodies.StartView x l)) g
      (to_all_fits s (bodies.StartView x l) g.within (record { number = next; log_fits = log_fits })))
      (adopt_stays s s.view x l g g.within.view next log_fits)

  open_view_stays : (s : ReplicaState) (g : Gathering peer.Change) → IsGood k s → AllByRecursion (ChangeIsIn k) g.changes
      → g.f < length g.changes → StaysInRanges k (open_view m k g s)
  open_view_stays s g h fits many =
      open_with_stays s (starting.start_of g.view (map plain g.changes)).next (merged k (kept_changes g.changes)) h
      (opened_next_fits k g.view g.changes fits (omega (arith, many)))
      (opened_log_fits k g.changes fits)

  -- the first entries of the own log
  first_log_fits : (s : ReplicaState) (n : ℕ) → IsIn k s → s.sync.sync_point ≤ n → LogIsIn k (first k s.log n)
  first_log_fits s n w low = let points = w.points in first_fits k s.log n w.log (omega (arith, points, low))

  keep_stays : (s : ReplicaState) (g : Gathering peer.Change) (c : peer.Change) → IsGood k s → AllByRecursion (ChangeIsIn k) g.changes
      → ChangeIsIn k c → StaysInRanges k (keep_change s g c)
  keep_stays s g c h all fits =
      still_stays (record s { changes = Some (gathering.change_added change_sender g c) })
      (record {
        within = gathers_within k s (gathering.change_added change_sender g c) h.within (counted_fits (ChangeIsIn k) g c all fits);
        sound = h.sound;
      })

  resend_start_stays : (s : ReplicaState) (q : ℕ) → IsGood k s → StaysInRanges k (resend_start k s q)
  resend_start_stays s q g =
      let w = g.within in
      let start = w.start in
      let base = w.base in
      let high = w.next.high in
      let next : ℕ = s.next - (length_of k s.log - start_len s) in
      good (resend_start k s q) g
      (to_replica_fits s q (bodies.StartView next (first k s.log (start_len s))) w
      (record {
        number = record { low = omega (arith, start, base); high = omega (arith, high) };
        log_fits = first_log_fits s (start_len s) w (omega arith);
      }))

  -- ---- rows of packets and view changes

  session_fits : (s : ReplicaState) (p : Stamped) → IsIn k s → StampedFits p
      → ViewFits (record { leader = s.view.leader; session = p.session })
  session_fits s p w fits = record { leader = w.view.leader; session = fits.session }

  begin_good : (s : ReplicaState) (p : Stamped) → IsGood k s → StampedFits p → IsGood k (begin_session s p)
  begin_good s p g fits = record {
    within = begun_within k s p g.within;
    sound = offered_sound (opened p.session 1) p (opened_sound p.session 1 (omega arith)) fits;
  }

  join_fits : (a b : View) → ViewFits a → ViewFits b → ViewFits (join_of a b)
  join_fits a b f g =
      let fl = f.leader in
      let gl = g.leader in
      let fs = f.session in
      let low = f.session.low in
      let fh = f.session.high in
      let gh = g.session.high in
      record { leader = grind (arith, fl, gl); session = record { low = grind (arith, low); high = grind (arith, fh, gh) } }

  -- ---- sync points

  overlay_stays : (s : ReplicaState) (l : Log) → IsGood k s → LogIsIn k l
      → s.next + (length_of k l - length_of k s.log) ≤ NUMBER_END
      → StaysInRanges k (overlay m k s l)
  unfolding overlay
  overlay_stays s l g log_fits high =
      let t : ReplicaState = overlaid k s l in
      let w = overlaid_within k s l g.within log_fits high in
      let own = g.within.log.limit in
      let point = synced_most t w in
      let least : ℕ = max (length_of k s.log) t.sync.sync_point in
      let most = log_fits.limit in
      good (t, replies_above m k t least ++ to_leader s (bodies.SyncRep (length_of k l)))
      (record { within = w; sound = advanced_sound s.receiver (s.next + (length_of k l - length_of k s.log)) g.sound high })
      (all_behind k (replies_above m k t least) (to_leader s (bodies.SyncRep (length_of k l)))
      (above_fit t least w (omega (arith, own, point)))
      (to_replica_fits s (leader s) (bodies.SyncRep (length_of k l)) g.within (omega (arith, most))))

  at_most : (a b : ℕ) → nat_le a b ≡ true → a ≤ b
  at_most a b e = grind (arith, nat_tests, e)

  commit_moves : (n : ℕ) (s : ReplicaState) → IsGood k s → MovesPoint (sync_commit n s)
  unfolding sync_commit
  commit_moves n s g =
      when_moves (nat_le n s.sync.prepared) (λ t. obey (hear t) n) s g
      (with_sync_moves (hear s) (synchronisation.committed s.sync n) [] (hears s g)
      (committed_fits (length_of k s.log) s.sync n (sync_of k s g.within)) (committed_grows s.sync n) tt)

  commit_row_stays : (n : ℕ) (s : ReplicaState) → IsGood k s → StaysInRanges k (rows.sync_commit m k n s)
  unfolding rows.sync_commit
  commit_row_stays n s g = and_trim (sync_commit n s) (commit_moves n s g)

  -- what the answer to a lookup says of the log
  record AnswerFits (s : ReplicaState) (r : Answer) : Type 0 where
    found : (q : Request) → r ≡ Found q → RequestFits q
    room : r ≡ Begin → has_room k s ≡ true

  slot_entry : (l : List Entry) (i : ℕ) (e : Entry) → AllByRecursion EntryFits l → slice_get l i ≡ Some e → EntryFits e
  slot_entry [] i e fits is = absurd cc
  slot_entry (x ∷ l) zero e fits is = let same : x ≡ e = cc in subst EntryFits same fits.0
  slot_entry (x ∷ l) (suc i) e fits is = slot_entry l i e fits.1 is

  slot_entry_at : (l : List Entry) (n : ℕ) (e : Entry) → AllByRecursion EntryFits l → slot_of l n ≡ Some e → EntryFits e
  slot_entry_at l zero e fits is = absurd cc
  slot_entry_at l (suc i) e fits is = slot_entry l i e fits is

  answer_by_fits : (s : ReplicaState) (o : Option Entry) (b : Bool) → ((e : Entry) → o ≡ Some e → EntryFits e)
      → (b ≡ true → has_room k s ≡ true) → AnswerFits s (answer_by o b)
  answer_by_fits s (Some (Req r)) b fits room =
      record { found = λ q e. (let same : r ≡ q = cc in subst RequestFits same (fits (Req r) refl)); room = λ e. absurd cc }
  answer_by_fits s (Some NoOp) b fits room = record { found = λ q e. absurd cc; room = λ e. absurd cc }
  answer_by_fits s None true fits room = record { found = λ q e. absurd cc; room = λ e. room refl }
  answer_by_fits s None false fits room = record { found = λ q e. absurd cc; room = λ e. absurd cc }

  unless_below : (s : ReplicaState) (b : Bool) (r : Answer) → AnswerFits s r → AnswerFits s (cond b Below r)
  unless_below s true r fits = record { found = λ q e. absurd cc; room = λ e. absurd cc }
  unless_below s false r fits = fits

  answer_fits : (s : ReplicaState) (n : ℕ) → IsIn k s → AnswerFits s (answer_of k s.log (waits s.gap) n)
  answer_fits s n w =
      let above = answer_by_fits s (entry_at k s.log n) (may_begin k s.log (waits s.gap) n)
      (λ e is. slot_entry_at s.log.entries (place_of k s.log n) e w.log.entries is)
      (λ e. (and_parts (not (waits s.gap)) (has_room k s) (and_parts (n == length_of k s.log + 1) _ e).1).1) in
      unless_below s (nat_le n s.log.sync_point) (answer_above k s.log (waits s.gap) n) above

  commit_if_fits : (s : ReplicaState) (n : ℕ) (v : Vote) → IsIn k s → n < 2 ^ 32 → AllByRecursion (SendingIsIn k) (commit_if s n v)
  commit_if_fits s n Settled w less = to_all_fits s (bodies.SyncCommit n) w less
  commit_if_fits s n Waiting w less = tt

  sync_reply_stays : (q n : ℕ) (s : ReplicaState) → IsGood k s → n < 2 ^ 32 → StaysInRanges k (rows.sync_reply m k q n s)
  unfolding rows.sync_reply
  sync_reply_stays q n s g less =
      and_trim (count_sync_vote s q n)
      (with_sync_moves s (synchronisation.sync_vote_counted s.sync q n) (commit_if s n (synchronisation.vote_for s.sync q n)) g
      (counted_in_fits (length_of k s.log) s.sync s.sync.syncing q n (sync_of k s g.within) g.within.syncing)
      (counted_grows s.sync s.sync.syncing q n)
      (commit_if_fits s n (synchronisation.vote_for s.sync q n) g.within less))

  sync_if_moves : (b : Bool) (s : ReplicaState) → IsGood k s → MovesPoint (sync_if k b s)
  sync_if_moves true s g =
      with_sync_moves s (synchronisation.with_round s.sync (length_of k s.log)) (to_all s (bodies.SyncPrepare s.log)) g
      (with_round_fits (length_of k s.log) s.sync (length_of k s.log) (sync_of k s g.within) (omega arith))
      (with_round_grows s.sync (length_of k s.log))
      (to_all_fits s (bodies.SyncPrepare s.log) g.within g.within.log)
  sync_if_moves false s g =
      still_moves s (to_all s (bodies.SyncCommit s.sync.sync_point)) g
      (to_all_fits s (bodies.SyncCommit s.sync.sync_point) g.within (let most = synced_most s g.within in omega (arith, most)))

  sync_moves : (s : ReplicaState) → IsGood k s → MovesPoint (sync k s)
  unfolding sync
  sync_moves s g =
      when_moves (is_normal s.status && (leads s && not (waits s.gap)))
      (λ t. sync_if k (nat_lt t.sync.sync_point (length_of k t.log)) t) s g
      (sync_if_moves (nat_lt s.sync.sync_point (length_of k s.log)) s g)

  sync_row_stays : (s : ReplicaState) → IsGood k s → StaysInRanges k (rows.sync m k s)
  unfolding rows.sync
  sync_row_stays s g = and_trim (sync k s) (sync_moves s g)

  -- ---- all that arrives

  kept : (e : Effect) → StaysInRanges k e → Kept (IsGood k) (SendingIsIn k) e
  kept e h = record { state = after e h; sends = h.sends }

  move_stays : EachMove m k (IsGood k) StampedFits (λ p. PeerIsIn k p) (SendingIsIn k) (λ s e. StaysInRanges k e)
  move_stays = record {
    ends = λ s e g h. good e h.state h.sends;
    sync_commit = λ s p n g fits. commit_row_stays n s g;
    sync_reply = λ s p n g fits. sync_reply_stays p.sender n s g fits.body;
    sync = sync_row_stays;
    drain = λ s g. kept (drain m k s) (drain_stays s g);
    queue = λ s p g fits. after (queue s p) (queue_stays s p g fits);
    session = λ s p g fits.
        let t : ReplicaState = begin_session s p in
        kept (enter t (session_view s p)) (enter_stays t (session_view s p) (begin_good s p g fits) (session_fits s p g.within fits));
    join = λ s p g fits.
        let v : View = join_of s.view p.view in
        kept (enter s v) (enter_stays s v g (join_fits s.view p.view g.within.view fits.view));
    next = λ s g e.
        let v : View = rows.next_leader s.view in
        let less = below s.view.leader rows.last_leader e in
        kept (enter s v) (enter_stays s v g (record { leader = omega (arith, less); session = g.within.view.session }));
    opens = λ s o g is many.
        let all = subst (λ (c : Option (Gathering peer.Change)). IfSome c (λ x. AllByRecursion (ChangeIsIn k) x.changes)) is g.within.changes in
        kept (open_view m k o s) (open_view_stays s o g all (below o.f (length o.changes) many));
    gather = λ s p u x l o g fits is.
        let all = subst (λ (c : Option (Gathering peer.Change)). IfSome c (λ x. AllByRecursion (ChangeIsIn k) x.changes)) is g.within.changes in
        let c : peer.Change = change_in p u x l in
        after (keep_change s o c) (keep_stays s o c g all (record { sender = fits.sender; rest = fits.body }));
    start_again = λ s p g fits. (resend_start_stays s p.sender g).sends;
    adopt = λ s p x l g fits. kept (adopt m k s p.view x l) (adopt_stays s p.view x l g fits.view fits.body.number fits.body.log_fits);
    write_gap = λ s p n g fits. kept (write_gap k (hear s) n) (write_gap_stays (hear s) n (hears s g) fits.body);
    add_gap = λ s g may. kept (add_gap k (hear s)) (add_gap_stays (hear s) (hears s g) may);
    fill = λ s p n r g fits may. kept (fill m k (hear s) r) (fill_stays (hear s) r (hears s g) fits.body.request may);
    overlay = λ s p l g fits e. kept (overlay m k (hear s) l) (overlay_stays (hear s) l (hears s g) fits.body (at_most _ _ e));
    synced = λ s p g fits.
        to_replica_fits s p.sender (bodies.SyncPrepare (first k s.log s.sync.sync_point)) g.within
        (first_log_fits s s.sync.sync_point g.within (omega arith));
    found_again = λ s p n r g fits is.
        let asked = answer_fits s n g.within in
        to_replica_fits s p.sender (bodies.Found n r) g.within (record { place = fits.body; request = asked.found r is });
    gap_told = λ s p n g fits. to_replica_fits s p.sender (bodies.GapCommit n) g.within fits.body;
    open_gap = λ s n g is more.
        let asked = answer_fits s n g.within in
        kept (open_gap k s) (open_gap_stays s g (room_test s (asked.room is) (below s.next NUMBER_END more)));
    vote = λ s o q g is. after (count_gap_vote s o q) (gap_vote_stays s o q g (slot_fits s o g is));
    unheard = λ s g. record { within = with_heard k s false g.within; sound = g.sound };
    request_again = λ s g. to_all_fits s bodies.ViewChangeReq g.within tt;
    change_again = λ s g.
        to_replica_fits s (leader s) (bodies.ViewChange s.last_normal s.next s.log) g.within (own_change_fits s g.within).rest;
    gap_again = λ s o g is. to_all_fits s (bodies.GapCommit o.slot) g.within (slot_fits s o g is);
    lookup_again = λ s g room. to_replica_fits s (leader s) (bodies.SlotLookup (length_of k s.log + 1)) g.within (next_slot s room);
  }

  pub arrive_stays : (s : ReplicaState) (a : Arrival) → IsIn k s → IsSound s.receiver → ArrivalIsIn k a
      → StaysInRanges k (arrive m k s a)
  arrive_stays s a w sound fits =
      arrive_row m k _ _ _ _ (each_row m k _ _ _ _ _ move_stays) s a (record { within = w; sound = sound })
      (λ p e. subst (ArrivalIsIn k) e fits) (λ p e is. subst (ArrivalIsIn k) e fits)
