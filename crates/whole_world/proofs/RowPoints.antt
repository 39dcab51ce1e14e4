-- Where the sync points that a replica has been told are at most some point, so are those that a row leaves and tells; but for a rise, which
-- lets the entries that it passes move out.
use Rattle.std.proofs.Common.{◌≡◌, ◌≤◌, ◌+◌, ◌-◌, ℕ, zero, suc, Bool, true, false, Option, Some, None, refl, sym, ap, subst, ◌∙◌, arith}
use Rattle.std.proofs.Common.{List, [], ◌∷◌, ◌++◌, length, length-append, take, inl, inr, le_refl}
use Rattle.std.specs.Prelude.{◌⊎◌, ⊤, cond, max, map, not, nat_lt, nat_le, ◌==◌, ◌&&◌}
use Rattle.std.specs.List.{AllByRecursion}
use Rattle.std.proofs.lemmas.Bool.{leb-true, ltb-false}
use Rattle.std.proofs.lemmas.List.{take-append-le}
use Rattle.std.proofs.lemmas.Option.{same_Some}
use Rattle.nop_types.specs.declared.limits.TheConstants.{MAX_SLOTS}
use Rattle.nop_types.specs.CheckpointedLogs.{slot_result}
use Rattle.nop_types.specs.Lists.{Has}
use Rattle.nop_types.specs.Logs as logs
use Rattle.nop_types.specs.Logs.{Log, Whole, unsynced, above, between, whole, with_noop}
use Rattle.nop_types.specs.Meaning.{Meaning}
use Rattle.nop_types.specs.PlainChanges.{plain}
use Rattle.nop_types.specs.Views.{is_view, join_of}
use Rattle.nop_types.specs.declared.peer.Body.{Body}
use Rattle.nop_types.specs.declared.peer.Body.TheVariants as bodies
use Rattle.nop_types.specs.declared.peer.Change.{Change}
use Rattle.nop_types.specs.declared.replica_state.Vote.{Vote}
use Rattle.nop_types.specs.declared.replica_state.Vote.TheVariants.{Settled, Waiting}
use Rattle.nop_types.specs.declared.request.Entry.{Entry}
use Rattle.nop_types.specs.declared.request.Entry.TheVariants.{NoOp, Req}
use Rattle.nop_types.specs.declared.request.Request.{Request}
use Rattle.nop_types.specs.declared.view.View.{View}
use Rattle.lemmas.proofs.Members.{Has-one, Has-push_cases, Has-from_filter}
use Rattle.slot_votes.specs.Votes.{with_vote}
use Rattle.log_merge.specs.Merging.{kept_changes, best, merged, merged_from}
use Rattle.log_merge.specs.Starting.{greatest, start_of}
use Rattle.log_merge.proofs.Best.{best_is_best}
use Rattle.oum_receiver.specs.Front.{Front, Nothing, Message, Dropped}
use Rattle.oum_receiver.specs.Receiving.{front_of}
use Rattle.replica_log.proofs.Adopted.{adopted_point, overlaid_point}
use Rattle.slot_votes.specs.Synchronisation.{Round, Synchronisation, begun, with_round, with_vote_for, round_vote, closed, counted_in}
use Rattle.slot_votes.specs.Synchronisation.{vote_for, committed}
use Rattle.view_change.specs.Gathering as gathering
use Rattle.view_change.specs.Gathering.{Gathering, change_added, has_sender, change_sender}
use Rattle.replica_state.specs.declared.sending.Sending.{Sending}
use Rattle.replica_state.specs.declared.sending.Sending.TheVariants.{ToClient, ToReplicas, Trims}
use Rattle.replica_state.specs.declared.state.ReplicaState.{ReplicaState}
use Rattle.replica_state.specs.State.{max_faults, leads, is_normal, waits, drains, may_trim}
use Rattle.replica_state.specs.Sends.{Effect, still, then_do, when, to_leader, to_all, to_all_if}
use Rattle.replica_state.specs.Replies.{leader_reply, reply_if, reply_to, reply_for, replies_to, replies_above}
use Rattle.replica_state.specs.Moves.{hear, queue, begin_session, session_view, logged, take_front, appended, ask_if, gap_opened}
use Rattle.replica_state.specs.Moves.{open_gap, gap_written, add_gap, count_gap_vote, drain_drop, drain_at, drain_by, drain}
use Rattle.replica_state.specs.Moves.{entered, own_change, change_sent, enter_as, enter, adopted, adopt, open_with, open_view}
use Rattle.replica_state.specs.Moves.{overlaid, overlay, obey, sync_commit, commit_if, log_trimmed, trim}
use Rattle.replica_state.specs.Moves.{count_sync_vote}
use Rattle.replica_state.specs.Repeating.{sync_if, sync}
use Rattle.replica_rows.specs.Rows as rows
use Rattle.replica_rows.specs.Messages.{Arrival, arrive}
use Rattle.replica_rows.specs.MessagePoints.{point_in_body, point_in_arrival}
use Rattle.replica_rows.proofs.EachRow.{change_in, arrive_row}
use Rattle.replica_rows.proofs.EachMove.{Kept, all_behind, then_kept, EachMove, each_row}
use Rattle.trimmed_rows.specs.Premises.{PointsWithin}

-- ---- a sync point that rises stays within the log

committed_high : (x : Synchronisation) (n len : ℕ) → x.sync_point ≤ len → x.prepared ≤ len → (committed x n).sync_point ≤ len
committed_high x n len low most = by (nat_le n x.prepared) refl
  where
    by : (b : Bool) → nat_le n x.prepared ≡ b → (cond b (record x { sync_point = max x.sync_point n }) x).sync_point ≤ len
    by true e = let few = leb-true n x.prepared e in omega (arith, few, low, most)
    by false e = low

voted_high : (r : Round) (q n len : ℕ) → r.len ≤ len → (with_vote_for r q n).len ≤ len
voted_high r q n len le = by (r.len == n)
  where
    by : (b : Bool) → (cond b (record r { votes = with_vote r.votes q }) r).len ≤ len
    by true = le
    by false = le

closed_high : (x : Synchronisation) (r : Round) (v : Vote) (len : ℕ) → x.sync_point ≤ len → r.len ≤ len → (closed x r v).sync_point ≤ len
closed_high x r Settled len low le = omega (arith, low, le)
closed_high x r Waiting len low le = low

counted_high : (x : Synchronisation) (o : Option Round) (q n len : ℕ) → x.sync_point ≤ len → ((r : Round) → o ≡ Some r → r.len ≤ len)
    → (counted_in x o q n).sync_point ≤ len
counted_high x None q n len low h = low
counted_high x (Some r) q n len low h =
    closed_high x (with_vote_for r q n) (round_vote x.f r q n) len low (voted_high r q n len (h r refl))

round_high : (x : Synchronisation) (len : ℕ) → x.sync_point ≤ len → (with_round x len).sync_point ≤ len
round_high x len low = by (nat_lt x.sync_point len) (x.f == 0)
  where
    by : (b alone : Bool) → (cond b (begun alone x len) x).sync_point ≤ len
    by true true = le_refl len
    by true false = low
    by false alone = low

module _ (a : ℕ) where
  -- ---- sync points that are at most a

  -- of each change that is gathered
  abbrev pub LowChanges : Option (Gathering Change) → Type 0
  LowChanges o = (g : Gathering Change) (c : Change) → o ≡ Some g → Has g.changes c → c.log.sync_point ≤ a

  -- the own one too, and that of the log
  pub record IsLow (s : ReplicaState) : Type 0 where
    pub point : s.sync.sync_point ≤ a
    pub log_point : s.log.sync_point ≤ a
    pub gathered : LowChanges s.changes

  -- that of the log of a message; and no entries move out
  abbrev pub SendsLow : Sending → Type 0
  SendsLow (ToClient r) = ⊤
  SendsLow (ToReplicas dest p) = point_in_body p.body ≤ a
  SendsLow (Trims first entries) = ⊥

  pub record StaysLow (e : Effect) : Type 0 where
    pub state : IsLow e.0
    pub sends : AllByRecursion SendsLow e.1

  abbrev KeptLow : Effect → Type 0
  KeptLow e = Kept IsLow SendsLow e

  zero_low : 0 ≤ a
  zero_low = omega arith

  none_low : LowChanges None
  none_low g c e i = absurd cc

  some_low : (g : Gathering Change) → ((c : Change) → Has g.changes c → c.log.sync_point ≤ a) → LowChanges (Some g)
  some_low g h x c e i = h c (subst (λ (y : Gathering Change). Has y.changes c) (sym (same_Some g x e)) i)

  both_low : (xs ys : List Sending) → AllByRecursion SendsLow xs → AllByRecursion SendsLow ys → AllByRecursion SendsLow (xs ++ ys)
  both_low xs ys f g = all_behind IsLow SendsLow xs ys f g

  -- ---- messages

  all_if_low : (b : Bool) (s : ReplicaState) (body : Body) → point_in_body body ≤ a → AllByRecursion SendsLow (to_all_if b s body)
  all_if_low true s body h = tt
  all_if_low false s body h = (h, tt)

  all_low : (s : ReplicaState) (body : Body) → point_in_body body ≤ a → AllByRecursion SendsLow (to_all s body)
  all_low s body h = all_if_low (max_faults s == 0) s body h

  changed_low : (s t : ReplicaState) → IsLow s → t.sync.sync_point ≡ s.sync.sync_point → t.log.sync_point ≡ s.log.sync_point
      → t.changes ≡ s.changes → IsLow t
  changed_low s t low p l c = record {
    point = let x = low.point in omega (arith, p, x);
    log_point = let x = low.log_point in omega (arith, l, x);
    gathered = subst LowChanges (sym c) low.gathered;
  }

  heard_low : (s : ReplicaState) → IsLow s → IsLow (hear s)
  heard_low s low = changed_low s (hear s) low refl refl refl

  -- ---- entries are appended, and no log is told

  record Grows (s : ReplicaState) (e : Effect) : Type 0 where
    point : e.0.sync.sync_point ≡ s.sync.sync_point
    log_point : e.0.log.sync_point ≡ s.log.sync_point
    changes : e.0.changes ≡ s.changes
    prefix : (n : ℕ) → n ≤ length s.log.entries → take n e.0.log.entries ≡ take n s.log.entries
    longer : length s.log.entries ≤ length e.0.log.entries
    sends : AllByRecursion SendsLow e.1

  -- whatever the state
  record AlwaysGrows (f : ReplicaState → Effect) : Type 0 where
    at : (s : ReplicaState) → Grows s (f s)

  grown_low : (s : ReplicaState) (e : Effect) → IsLow s → Grows s e → KeptLow e
  grown_low s e low g = record { state = changed_low s e.0 low g.point g.log_point g.changes; sends = g.sends }

  grows_none : (s t : ReplicaState) (sends : List Sending) → t.sync.sync_point ≡ s.sync.sync_point → t.log ≡ s.log → t.changes ≡ s.changes
      → AllByRecursion SendsLow sends → Grows s (t, sends)
  grows_none s t sends p l c low = record {
    point = p;
    log_point = ap (λ (x : Log). x.sync_point) l;
    changes = c;
    prefix = λ n h. ap (λ (x : Log). take n x.entries) l;
    longer = let e = ap (λ (x : Log). length x.entries) l in omega (arith, e);
    sends = low;
  }

  grows_more : (s t : ReplicaState) (x : Entry) (sends : List Sending) → t.sync.sync_point ≡ s.sync.sync_point
      → t.log ≡ logs.appended s.log x → t.changes ≡ s.changes → AllByRecursion SendsLow sends → Grows s (t, sends)
  grows_more s t x sends p l c low = record {
    point = p;
    log_point = ap (λ (k : Log). k.sync_point) l;
    changes = c;
    prefix = λ n h. ap (λ (k : Log). take n k.entries) l ∙ take-append-le n s.log.entries (x ∷ []) h;
    longer =
        let e = ap (λ (k : Log). length k.entries) l in let len = length-append s.log.entries (x ∷ []) in omega (arith, e, len);
    sends = low;
  }

  then_grows : (s : ReplicaState) (e : Effect) (f : ReplicaState → Effect) → Grows s e → Grows e.0 (f e.0) → Grows s (then_do e f)
  then_grows s e f h g = record {
    point = g.point ∙ h.point;
    log_point = g.log_point ∙ h.log_point;
    changes = g.changes ∙ h.changes;
    prefix = λ n low. g.prefix n (let w = h.longer in omega (arith, low, w)) ∙ h.prefix n low;
    longer = let x = h.longer in let y = g.longer in omega (arith, x, y);
    sends = both_low e.1 (f e.0).1 h.sends g.sends;
  }

  open_gap_grows : (s : ReplicaState) → Grows s (open_gap Whole s)
  unfolding open_gap
  open_gap_grows s =
      let sent : Body = bodies.GapCommit (length s.log.entries + 1) in
      grows_more s (gap_opened Whole s) NoOp (to_all s sent) refl refl refl (all_low s sent zero_low)

  ask_grows : (b : Bool) (s : ReplicaState) → Grows s (ask_if Whole b s)
  ask_grows true s = grows_none s s [] refl refl refl tt
  ask_grows false s = grows_none s (ask_if Whole false s).0 (ask_if Whole false s).1 refl refl refl (zero_low, tt)

  drop_grows : (b : Bool) (again : ReplicaState → Effect) (s : ReplicaState) → AlwaysGrows again → Grows s (drain_drop Whole again b s)
  drop_grows true again s rest = then_grows s (open_gap Whole s) again (open_gap_grows s) (rest.at (open_gap Whole s).0)
  drop_grows false again s rest = ask_grows (s.asked == length s.log.entries + 1) s

  -- ---- the sync point rises

  -- up to the end of the log; the entries from the old sync point on move out once, and those up to there stay as they are
  pub record Rises (s : ReplicaState) (e : Effect) : Type 0 where
    pub before : List Sending
    pub rest : List Sending
    pub sends : e.1 ≡ before ++ Trims (s.log.sync_point + 1) (whole 0 (between Whole s.log e.0.sync.sync_point)) ∷ rest
    pub first : AllByRecursion SendsLow before
    pub last : AllByRecursion SendsLow rest
    pub within : e.0.sync.sync_point ≤ length s.log.entries
    pub gathered : LowChanges e.0.changes
    pub kept : (n : ℕ) → n ≤ length s.log.entries → take n e.0.log.entries ≡ take n s.log.entries

  abbrev pub Leaves : ReplicaState → Effect → Type 0
  Leaves s e = StaysLow e ⊎ Rises s e

  -- a move of the sync point, within the log
  record Moves (s : ReplicaState) (e : Effect) : Type 0 where
    log : e.0.log ≡ s.log
    changes : e.0.changes ≡ s.changes
    high : e.0.sync.sync_point ≤ length s.log.entries
    sends : AllByRecursion SendsLow e.1

  module _ {S : Type 0} (m : Meaning S) where
    -- ---- replies

    leader_reply_low : (s : ReplicaState) (slot : ℕ) (r : Request) (o : Option (List ℕ)) → AllByRecursion SendsLow (leader_reply s slot r o)
    leader_reply_low s slot r None = tt
    leader_reply_low s slot r (Some result) = (tt, tt)

    reply_if_low : (b : Bool) (s : ReplicaState) (slot : ℕ) (r : Request) → AllByRecursion SendsLow (reply_if m Whole b s slot r)
    reply_if_low true s slot r = leader_reply_low s slot r (slot_result m Whole s.log slot)
    reply_if_low false s slot r = (tt, tt)

    reply_low : (s : ReplicaState) (slot : ℕ) (r : Request) → AllByRecursion SendsLow (reply_to m Whole s slot r)
    unfolding reply_to
    reply_low s slot r = reply_if_low (leads s) s slot r

    entry_low : (s : ReplicaState) (slot : ℕ) (e : Entry) → AllByRecursion SendsLow (reply_for m Whole s slot e)
    entry_low s slot NoOp = tt
    entry_low s slot (Req r) = reply_low s slot r

    replies_low : (s : ReplicaState) (slot : ℕ) (l : List Entry) → AllByRecursion SendsLow (replies_to m Whole s slot l)
    replies_low s slot [] = tt
    replies_low s slot (e ∷ l) =
        both_low (reply_for m Whole s slot e) (replies_to m Whole s (slot + 1) l) (entry_low s slot e) (replies_low s (slot + 1) l)

    above_low : (s : ReplicaState) (slot : ℕ) → AllByRecursion SendsLow (replies_above m Whole s slot)
    above_low s slot = replies_low s (slot + 1) (above Whole s.log slot)

    -- ---- drains

    drain_at_grows : (again : ReplicaState → Effect) (s : ReplicaState) (b : Bool) (prefix : Front) → AlwaysGrows again
        → Grows s (drain_at m Whole again s b prefix)
    drain_at_grows again s true (Message r) rest =
        then_grows s (take_front m Whole s r) again
        (grows_more s (logged s r) (Req r) (reply_to m Whole (logged s r) (length s.log.entries + 1) r) refl refl refl
        (reply_low (logged s r) (length s.log.entries + 1) r))
        (rest.at (logged s r))
    drain_at_grows again s true Dropped rest = drop_grows (leads s) again s rest
    drain_at_grows again s true Nothing rest = grows_none s s [] refl refl refl tt
    drain_at_grows again s false prefix rest = grows_none s s [] refl refl refl tt

    drain_by_grows : (room : ℕ) → AlwaysGrows (drain_by m Whole room)
    drain_by_grows zero = record { at = λ s. grows_none s s [] refl refl refl tt }
    drain_by_grows (suc room) =
        record { at = λ s. drain_at_grows (drain_by m Whole room) s (drains Whole s) (front_of s.receiver) (drain_by_grows room) }

    drain_grows : (s : ReplicaState) → Grows s (drain m Whole s)
    unfolding drain
    drain_grows s = (drain_by_grows (MAX_SLOTS - unsynced Whole s.log)).at s

    and_drain : (e : Effect) → KeptLow e → KeptLow (then_do e (drain m Whole))
    and_drain e h = then_kept IsLow SendsLow e (drain m Whole) h (λ low. grown_low e.0 (drain m Whole e.0) low (drain_grows e.0))

    -- ---- views

    own_low : (s : ReplicaState) → IsLow s → LowChanges (Some (gathering.entered s.view (max_faults s) (own_change s)))
    own_low s low = some_low (gathering.entered s.view (max_faults s) (own_change s)) (λ c i.
        let e : c.log.sync_point ≡ s.log.sync_point = ap (λ (x : Change). x.log.sync_point) (Has-one c (own_change s) i) in
        let t = low.log_point in
        omega (arith, e, t))

    enter_as_low : (b : Bool) (s : ReplicaState) → IsLow s → KeptLow (enter_as b s)
    enter_as_low true s low = record {
      state = record { point = low.point; log_point = low.log_point; gathered = own_low s low };
      sends = all_low s bodies.ViewChangeReq zero_low;
    }
    enter_as_low false s low = record {
      state = low;
      sends = both_low (to_all s bodies.ViewChangeReq) (change_sent s) (all_low s bodies.ViewChangeReq zero_low) (low.log_point, tt);
    }

    enter_low : (s : ReplicaState) (v : View) → IsLow s → KeptLow (enter s v)
    unfolding enter
    enter_low s v low =
        enter_as_low (leads (entered s v)) (entered s v) (record { point = low.point; log_point = low.log_point; gathered = none_low })

    adopted_low : (s : ReplicaState) (v : View) (x : ℕ) (l : Log) → l.sync_point ≤ a → IsLow s → IsLow (adopted Whole s v x l)
    adopted_low s v x l le low =
        let own = low.point in
        let log = low.log_point in
        let most : max s.log.sync_point l.sync_point ≤ a = omega (arith, le, log) in
        record {
          point = omega (arith, le, own);
          log_point = subst (λ (n : ℕ). n ≤ a) (sym (adopted_point l s.log)) most;
          gathered = none_low;
        }

    adopt_low : (s : ReplicaState) (v : View) (x : ℕ) (l : Log) → l.sync_point ≤ a → IsLow s → KeptLow (adopt m Whole s v x l)
    unfolding adopt
    adopt_low s v x l le low =
        let t : ReplicaState = adopted Whole s v x l in
        and_drain (t, replies_above m Whole t t.sync.sync_point)
        (record { state = adopted_low s v x l le low; sends = above_low t t.sync.sync_point })

    open_with_low : (s : ReplicaState) (x : ℕ) (l : Log) → l.sync_point ≤ a → IsLow s → KeptLow (open_with m Whole s x l)
    open_with_low s x l le low =
        then_kept IsLow SendsLow (s, to_all s (bodies.StartView x l)) (λ t. adopt m Whole t t.view x l)
        (record { state = low; sends = all_low s (bodies.StartView x l) le }) (λ h. adopt_low s s.view x l le h)

    -- what a view starts with has the sync point of a change that was gathered
    merged_low : (cs : List Change) → ((c : Change) → Has cs c → c.log.sync_point ≤ a) → (merged Whole (kept_changes cs)).sync_point ≤ a
    merged_low cs h = by (best (kept_changes cs)) refl
      where
        by : (o : Option Change) → best (kept_changes cs) ≡ o → (merged_from Whole (kept_changes cs) o).sync_point ≤ a
        by None e = zero_low
        by (Some g) e =
            let kept = (best_is_best (kept_changes cs) g e).member in
            h g (Has-from_filter (λ c. is_view c.last_normal (greatest (map plain cs))) g cs kept).0

    -- ---- changes

    counted_low : (g : Gathering Change) (c : Change) → LowChanges (Some g) → c.log.sync_point ≤ a
        → LowChanges (Some (change_added change_sender g c))
    counted_low g c h le = some_low (change_added change_sender g c) (by (has_sender change_sender g.changes c.sender))
      where
        by : (b : Bool) (x : Change) → Has (cond b g.changes (g.changes ++ c ∷ [])) x → x.log.sync_point ≤ a
        by true x i = h g x refl i
        by false x i = elim (Has-push_cases g.changes c x i) [
          | inl old ↦ h g x refl old
          | inr new ↦ (let e : c.log.sync_point ≡ x.log.sync_point = ap (λ (y : Change). y.log.sync_point) new in omega (arith, e, le))
        ]

    -- ---- slots and sync points

    written_low : (n : ℕ) (s : ReplicaState) → IsLow s → IsLow (gap_written Whole s n)
    written_low n s low = record { point = low.point; log_point = by (nat_le n s.sync.sync_point); gathered = low.gathered }
      where
        by : (b : Bool) → (cond b s.log (with_noop Whole s.log n)).sync_point ≤ a
        by true = low.log_point
        by false = low.log_point

    overlay_low : (s : ReplicaState) (l : Log) → l.sync_point ≤ a → IsLow s → KeptLow (overlay m Whole s l)
    unfolding overlay
    overlay_low s l le low =
        let t : ReplicaState = overlaid Whole s l in
        let from : ℕ = max (length s.log.entries) t.sync.sync_point in
        let own = low.point in
        let log = low.log_point in
        let most : max s.log.sync_point l.sync_point ≤ a = omega (arith, le, log) in
        record {
          state = record {
            point = omega (arith, le, own);
            log_point = subst (λ (n : ℕ). n ≤ a) (sym (overlaid_point l s.log)) most;
            gathered = low.gathered;
          };
          sends = both_low (replies_above m Whole t from) (to_leader s (bodies.SyncRep (length l.entries))) (above_low t from)
              (zero_low, tt);
        }

    -- ---- rows that let the sync point rise

    rises : (s : ReplicaState) (e : Effect) → IsLow s → Moves s e → Leaves s (then_do e (rows.trim_and_drain m Whole))
    rises s e low h = by (may_trim e.0) refl
      where
        point : e.0.log.sync_point ≡ s.log.sync_point
        point = ap (λ (x : Log). x.sync_point) h.log

        by : (b : Bool) → may_trim e.0 ≡ b → Leaves s (then_do e (when b (λ t. then_do (trim m Whole t) (drain m Whole))))
        by true is =
            let t : ReplicaState = e.0 in
            let d : Effect = drain m Whole (log_trimmed m Whole t) in
            let g = drain_grows (log_trimmed m Whole t) in
            let same : d.0.sync.sync_point ≡ t.sync.sync_point = g.point in
            let len : length t.log.entries ≡ length s.log.entries = ap (λ (x : Log). length x.entries) h.log in
            let high = h.high in
            inr (record {
              before = e.1;
              rest = d.1;
              sends =
                  ap (λ (l : Log). e.1 ++ Trims (l.sync_point + 1) (whole 0 (between Whole l t.sync.sync_point)) ∷ d.1) h.log
                  ∙ ap (λ (n : ℕ). e.1 ++ Trims (s.log.sync_point + 1) (whole 0 (between Whole s.log n)) ∷ d.1) (sym same);
              first = h.sends;
              last = g.sends;
              within = omega (arith, same, high);
              gathered = subst LowChanges (sym (g.changes ∙ h.changes)) low.gathered;
              kept = λ n le. g.prefix n (omega (arith, len, le)) ∙ ap (λ (x : Log). take n x.entries) h.log;
            })
        by false is =
            let most = ltb-false e.0.log.sync_point e.0.sync.sync_point is in
            let log = low.log_point in
            inl (record {
              state = record {
                point = omega (arith, most, point, log);
                log_point = omega (arith, point, log);
                gathered = subst LowChanges (sym h.changes) low.gathered;
              };
              sends = both_low e.1 [] h.sends tt;
            })

    commit_moves : (n : ℕ) (s : ReplicaState) → PointsWithin s → Moves s (sync_commit n s)
    unfolding sync_commit
    commit_moves n s w = by (nat_le n s.sync.prepared)
      where
        by : (b : Bool) → Moves s (when b (λ t. obey (hear t) n) s)
        by true = record {
          log = refl;
          changes = refl;
          high = committed_high s.sync n (length s.log.entries) w.sync_point w.prepared;
          sends = tt;
        }
        by false = record { log = refl; changes = refl; high = w.sync_point; sends = tt }

    commit_leaves : (n : ℕ) (s : ReplicaState) → PointsWithin s → IsLow s → Leaves s (rows.sync_commit m Whole n s)
    unfolding rows.sync_commit
    commit_leaves n s w low = rises s (sync_commit n s) low (commit_moves n s w)

    commit_if_low : (s : ReplicaState) (n : ℕ) (v : Vote) → AllByRecursion SendsLow (commit_if s n v)
    commit_if_low s n Settled = all_low s (bodies.SyncCommit n) zero_low
    commit_if_low s n Waiting = tt

    vote_leaves : (q n : ℕ) (s : ReplicaState) → PointsWithin s → IsLow s → Leaves s (rows.sync_reply m Whole q n s)
    unfolding rows.sync_reply
    vote_leaves q n s w low = rises s (count_sync_vote s q n) low (record {
      log = refl;
      changes = refl;
      high = counted_high s.sync s.sync.syncing q n (length s.log.entries) w.sync_point (λ r e. (w.round r e).1);
      sends = commit_if_low s n (vote_for s.sync q n);
    })

    sync_if_moves : (b : Bool) (s : ReplicaState) → PointsWithin s → IsLow s → Moves s (sync_if Whole b s)
    sync_if_moves true s w low = record {
      log = refl;
      changes = refl;
      high = round_high s.sync (length s.log.entries) w.sync_point;
      sends = all_low s (bodies.SyncPrepare s.log) low.log_point;
    }
    sync_if_moves false s w low = record {
      log = refl;
      changes = refl;
      high = w.sync_point;
      sends = all_low s (bodies.SyncCommit s.sync.sync_point) zero_low;
    }

    sync_moves : (s : ReplicaState) → PointsWithin s → IsLow s → Moves s (sync Whole s)
    unfolding sync
    sync_moves s w low = by (is_normal s.status && (leads s && not (waits s.gap)))
      where
        by : (b : Bool) → Moves s (when b (λ t. sync_if Whole (nat_lt t.sync.sync_point (length t.log.entries)) t) s)
        by true = sync_if_moves (nat_lt s.sync.sync_point (length s.log.entries)) s w low
        by false = record { log = refl; changes = refl; high = w.sync_point; sends = tt }

    sync_leaves : (s : ReplicaState) → PointsWithin s → IsLow s → Leaves s (rows.sync m Whole s)
    unfolding rows.sync
    sync_leaves s w low = rises s (sync Whole s) low (sync_moves s w low)

    -- ---- all that arrives

    open_low : (s : ReplicaState) (g : Gathering Change) → s.changes ≡ Some g → IsLow s → KeptLow (open_view m Whole g s)
    open_low s g is low =
        open_with_low s (start_of g.view (map plain g.changes)).next (merged Whole (kept_changes g.changes))
        (merged_low g.changes (λ c i. low.gathered g c is i)) low

    move_low : EachMove m Whole IsLow (λ p. ⊤) (λ p. point_in_body p.body ≤ a) SendsLow (λ s e. PointsWithin s → Leaves s e)
    move_low = record {
      ends = λ s e low h w. inl (record { state = h.state; sends = h.sends });
      sync_commit = λ s p n low g w. commit_leaves n s w low;
      sync_reply = λ s p n low g w. vote_leaves p.sender n s w low;
      sync = λ s low w. sync_leaves s w low;
      drain = λ s low. grown_low s (drain m Whole s) low (drain_grows s);
      queue = λ s p low f. changed_low s (queue s p).0 low refl refl refl;
      session = λ s p low f.
          let t : ReplicaState = begin_session s p in enter_low t (session_view s p) (changed_low s t low refl refl refl);
      join = λ s p low g. enter_low s (join_of s.view p.view) low;
      next = λ s low e. enter_low s (rows.next_leader s.view) low;
      opens = λ s g low is many. open_low s g is low;
      gather = λ s p u x l g low le is.
          let more = counted_low g (change_in p u x l) (subst LowChanges is low.gathered) le in
          record { point = low.point; log_point = low.log_point; gathered = more };
      start_again = λ s p low g. (low.log_point, tt);
      adopt = λ s p x l low le. adopt_low s p.view x l le low;
      write_gap = λ s p n low g. record { state = written_low n (hear s) (heard_low s low); sends = (zero_low, tt) };
      add_gap = λ s low may. record { state = changed_low s (add_gap Whole (hear s)).0 low refl refl refl; sends = (zero_low, tt) };
      fill = λ s p n r low g may. record {
        state = changed_low s (appended (hear s) (Req r)) low refl refl refl;
        sends = reply_low (appended (hear s) (Req r)) (length s.log.entries + 1) r;
      };
      overlay = λ s p l low le high. overlay_low (hear s) l le (heard_low s low);
      synced = λ s p low g. (low.log_point, tt);
      found_again = λ s p n r low g is. (zero_low, tt);
      gap_told = λ s p n low g. (zero_low, tt);
      open_gap = λ s n low is high. grown_low s (open_gap Whole s) low (open_gap_grows s);
      vote = λ s g q low is. changed_low s (count_gap_vote s g q).0 low refl refl refl;
      unheard = λ s low. changed_low s (record s { heard = false }) low refl refl refl;
      request_again = λ s low. all_low s bodies.ViewChangeReq zero_low;
      change_again = λ s low. (low.log_point, tt);
      gap_again = λ s g low is. all_low s (bodies.GapCommit g.slot) zero_low;
      lookup_again = λ s low room. (zero_low, tt);
    }

    pub row_leaves : (s : ReplicaState) (x : Arrival) → point_in_arrival x ≤ a → PointsWithin s → IsLow s → Leaves s (arrive m Whole s x)
    row_leaves s x le w low =
        arrive_row m Whole _ _ _ _ (each_row m Whole _ _ _ _ _ move_low) s x low (λ p e. tt)
        (λ p e is. subst (λ (y : Arrival). point_in_arrival y ≤ a) e le) w

    -- where nothing is taken
    pub rest_leaves : (s : ReplicaState) → IsLow s → Leaves s (still s)
    rest_leaves s low = inl (record { state = low; sends = tt })
