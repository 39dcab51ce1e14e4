-- Where logs are kept whole, what is synchronised stays, whatever arrives, unless a log is sent with a greater sync point.
use Rattle.std.proofs.Common.{◌≡◌, ◌≤◌, ℕ, zero, suc, ◌+◌, ◌-◌, Bool, true, false, cond, Option, Some, refl, sym, ap, subst, ◌∙◌}
use Rattle.std.proofs.Common.{arith, List, [], ◌∷◌, ◌++◌, length, take, drop, filter, length-append}
use Rattle.std.specs.Prelude.{⊤, not, map, max, nat_le, nat_lt, ◌==◌, ◌&&◌, slice_set}
use Rattle.std.specs.List.{AllByRecursion}
use Rattle.std.proofs.lemmas.Bool.Decides.{nat_tests}
use Rattle.std.proofs.lemmas.Bool.{le-ltb}
use Rattle.std.proofs.lemmas.List.{take-append-le, length-take-le}
use Rattle.nop_types.specs.declared.limits.TheConstants.{MAX_SLOTS}
use Rattle.nop_types.specs.Meaning.{Meaning}
use Rattle.nop_types.specs.Logs as logs
use Rattle.nop_types.specs.Logs.{Log, Whole, unsynced, with_noop}
use Rattle.nop_types.specs.PlainChanges as plains
use Rattle.nop_types.specs.PlainChanges.{plain}
use Rattle.nop_types.specs.Slots.{set_slot, laid}
use Rattle.nop_types.specs.Views.{is_view, join_of}
use Rattle.nop_types.specs.declared.view.View.{View}
use Rattle.nop_types.specs.declared.request.Entry.{Entry}
use Rattle.nop_types.specs.declared.request.Entry.TheVariants.{NoOp, Req}
use Rattle.nop_types.specs.declared.peer.Change as peer
use Rattle.nop_types.specs.declared.peer.Body.TheVariants as bodies
use Rattle.lemmas.proofs.Slots.{length-set_slot}
use Rattle.log_merge.specs.Merging.{kept_changes, merged}
use Rattle.log_merge.specs.Starting.{greatest, greatest_point, start_of}
use Rattle.log_merge.proofs.WholeLogs.{kept_is_plain, merged_point}
use Rattle.oum_receiver.specs.Front.{Front, Nothing, Message, Dropped}
use Rattle.oum_receiver.specs.Receiving.{front_of}
use Rattle.replica_log.proofs.Adopted.{adopted_near, adopted_point, overlaid_point, length-spliced}
use Rattle.view_change.specs.Gathering.{Gathering, change_sender, change_added, has_sender}
use Rattle.replica_state.specs.declared.sending.Sending.{Sending}
use Rattle.replica_state.specs.declared.state.ReplicaState.{ReplicaState}
use Rattle.replica_state.specs.State.{PointsMeet, leads, is_normal, drains, waits}
use Rattle.replica_state.specs.State.{may_trim}
use Rattle.replica_state.specs.Sends.{Effect, then_do, when, to_all}
use Rattle.replica_state.specs.Moves.{ask_if, gap_opened, open_gap, gap_written, write_gap, add_gap, drain_drop, drain_at, drain_by, drain}
use Rattle.replica_state.specs.Moves.{entered, enter_as, enter, adopted, adopt, open_view, overlay}
use Rattle.replica_state.specs.Moves.{queue, keep_change, count_gap_vote, count_sync_vote, logged, appended, begin_session}
use Rattle.replica_state.specs.Moves.{hear, obey, sync_commit, log_trimmed, trim, session_view, fill}
use Rattle.replica_state.specs.Repeating.{sync_if, sync}
use Rattle.replica_rows.specs.Rows as rows
use Rattle.replica_rows.specs.Messages.{Arrival, arrive}
use Rattle.replica_rows.specs.MessagePoints.{point_in_body, point_in_arrival, gathered_point}
use Rattle.replica_rows.proofs.EachRow.{change_in, arrive_row}
use Rattle.replica_rows.proofs.EachMove.{Kept, EachMove, each_row}

-- ---- fronts of lists

take_of_prefix : (i n : ℕ) (l : List Entry) → i ≤ n → take i (take n l) ≡ take i l
take_of_prefix zero n l h = refl
take_of_prefix (suc i) zero l h = absurd (omega (arith, h))
take_of_prefix (suc i) (suc n) [] h = refl
take_of_prefix (suc i) (suc n) (x ∷ l) h = ap (λ (t : List Entry). x ∷ t) (take_of_prefix i n l (omega (arith, h)))

-- what is kept in front of another log
spliced_prefix : (i n : ℕ) (own l : List Entry) → i ≤ n → n ≤ length own → take i (take n own ++ drop n l) ≡ take i own
spliced_prefix i n own l low high =
    let one = length-take-le n own high in
    take-append-le i (take n own) (drop n l) (omega (arith, one, low)) ∙ take_of_prefix i n own low

-- ---- steps that leave the sync point

-- the sync point, which is in the log and told with it, stays, and so do the entries up to it; no greater one is gathered
record Keeps (s t : ReplicaState) : Type 0 where
  point : t.sync.sync_point ≡ s.sync.sync_point
  points : PointsMeet t
  prefix : take s.sync.sync_point t.log.entries ≡ take s.sync.sync_point s.log.entries
  within : s.sync.sync_point ≤ length t.log.entries
  gathered : gathered_point t.changes ≤ s.sync.sync_point

-- the sync point is in the log and told with it, and no greater one is gathered
record Low (s : ReplicaState) : Type 0 where
  points : PointsMeet s
  within : s.sync.sync_point ≤ length s.log.entries
  gathered : gathered_point s.changes ≤ s.sync.sync_point

low_after : (s t : ReplicaState) → Keeps s t → Low t
low_after s t h =
    let p = h.point in
    let w = h.within in
    let g = h.gathered in
    record { points = h.points; within = omega (arith, p, w); gathered = omega (arith, p, g) }

-- a state with the same log and sync point
changed : (s t : ReplicaState) → t.sync.sync_point ≡ s.sync.sync_point → t.log ≡ s.log → gathered_point t.changes ≤ s.sync.sync_point
    → Low s → Keeps s t
changed s t p l g low = record {
  point = p;
  points = ap (λ (x : Log). x.sync_point) l ∙ low.points ∙ sym p;
  prefix = ap (λ (x : Log). take s.sync.sync_point x.entries) l;
  within = let e = ap (λ (x : Log). length x.entries) l in let w = low.within in omega (arith, e, w);
  gathered = g;
}

-- and the same changes
same : (s t : ReplicaState) → t.sync.sync_point ≡ s.sync.sync_point → t.log ≡ s.log → t.changes ≡ s.changes → Low s → Keeps s t
same s t p l c low =
    let e = ap (λ (o : Option (Gathering peer.Change)). gathered_point o) c in
    let g = low.gathered in
    changed s t p l (omega (arith, e, g)) low

both : (s t u : ReplicaState) → Keeps s t → Keeps t u → Keeps s u
both s t u h g = record {
  point = g.point ∙ h.point;
  points = g.points;
  prefix = subst (λ (n : ℕ). take n u.log.entries ≡ take n t.log.entries) h.point g.prefix ∙ h.prefix;
  within = let p = h.point in let w = g.within in omega (arith, p, w);
  gathered = let p = h.point in let c = g.gathered in omega (arith, p, c);
}

-- ---- drains

-- entries are appended
record Grows (s t : ReplicaState) : Type 0 where
  point : t.sync.sync_point ≡ s.sync.sync_point
  log_point : t.log.sync_point ≡ s.log.sync_point
  prefix : (n : ℕ) → n ≤ length s.log.entries → take n t.log.entries ≡ take n s.log.entries
  longer : length s.log.entries ≤ length t.log.entries
  changes : t.changes ≡ s.changes

-- whatever the state
record Always (f : ReplicaState → Effect) : Type 0 where
  at : (s : ReplicaState) → Grows s (f s).0

grown : (s t : ReplicaState) → Low s → Grows s t → Keeps s t
grown s t low g = record {
  point = g.point;
  points = g.log_point ∙ low.points ∙ sym g.point;
  prefix = g.prefix s.sync.sync_point low.within;
  within = let w = g.longer in let l = low.within in omega (arith, w, l);
  gathered = let e = ap (λ (o : Option (Gathering peer.Change)). gathered_point o) g.changes in let c = low.gathered in omega (arith, e, c);
}

grows_none : (s t : ReplicaState) → t.sync.sync_point ≡ s.sync.sync_point → t.log ≡ s.log → t.changes ≡ s.changes → Grows s t
grows_none s t p l c = record {
  point = p;
  log_point = ap (λ (x : Log). x.sync_point) l;
  prefix = λ n low. ap (λ (x : Log). take n x.entries) l;
  longer = let e = ap (λ (x : Log). length x.entries) l in omega (arith, e);
  changes = c;
}

grows_more : (s t : ReplicaState) (x : Entry) → t.sync.sync_point ≡ s.sync.sync_point → t.log ≡ logs.appended s.log x
    → t.changes ≡ s.changes → Grows s t
grows_more s t x p l c = record {
  point = p;
  log_point = ap (λ (k : Log). k.sync_point) l;
  prefix = λ n low. ap (λ (k : Log). take n k.entries) l ∙ take-append-le n s.log.entries (x ∷ []) low;
  longer =
      let e = ap (λ (k : Log). length k.entries) l in let len = length-append s.log.entries (x ∷ []) in omega (arith, e, len);
  changes = c;
}

grows_both : (s t u : ReplicaState) → Grows s t → Grows t u → Grows s u
grows_both s t u h g = record {
  point = g.point ∙ h.point;
  log_point = g.log_point ∙ h.log_point;
  prefix = λ n low. g.prefix n (let w = h.longer in omega (arith, low, w)) ∙ h.prefix n low;
  longer = let a = h.longer in let b = g.longer in omega (arith, a, b);
  changes = g.changes ∙ h.changes;
}

open_gap_grows : (s : ReplicaState) → Grows s (open_gap Whole s).0
unfolding open_gap
open_gap_grows s = grows_more s (gap_opened Whole s) NoOp refl refl refl

ask_grows : (b : Bool) (s : ReplicaState) → Grows s (ask_if Whole b s).0
ask_grows true s = grows_none s s refl refl refl
ask_grows false s = grows_none s (ask_if Whole false s).0 refl refl refl

drop_grows : (b : Bool) (again : ReplicaState → Effect) (s : ReplicaState) → Always again → Grows s (drain_drop Whole again b s).0
drop_grows true again s rest =
    grows_both s (open_gap Whole s).0 (again (open_gap Whole s).0).0 (open_gap_grows s) (rest.at (open_gap Whole s).0)
drop_grows false again s rest = ask_grows (s.asked == length s.log.entries + 1) s

drain_at_grows : {S : Type 0} (m : Meaning S) (again : ReplicaState → Effect) (s : ReplicaState) (b : Bool) (front : Front) → Always again
    → Grows s (drain_at m Whole again s b front).0
drain_at_grows m again s true (Message r) rest =
    grows_both s (logged s r) (again (logged s r)).0 (grows_more s (logged s r) (Req r) refl refl refl) (rest.at (logged s r))
drain_at_grows m again s true Dropped rest = drop_grows (leads s) again s rest
drain_at_grows m again s true Nothing rest = grows_none s s refl refl refl
drain_at_grows m again s false front rest = grows_none s s refl refl refl

drain_by_grows : {S : Type 0} (m : Meaning S) (room : ℕ) → Always (drain_by m Whole room)
drain_by_grows m zero = record { at = λ s. grows_none s s refl refl refl }
drain_by_grows m (suc room) =
    record { at = λ s. drain_at_grows m (drain_by m Whole room) s (drains Whole s) (front_of s.receiver) (drain_by_grows m room) }

drain_grows : {S : Type 0} (m : Meaning S) (s : ReplicaState) → Grows s (drain m Whole s).0
unfolding drain
drain_grows m s = (drain_by_grows m (MAX_SLOTS - unsynced Whole s.log)).at s

drain_keeps : {S : Type 0} (m : Meaning S) (s : ReplicaState) → Low s → Keeps s (drain m Whole s).0
drain_keeps m s low = grown s (drain m Whole s).0 low (drain_grows m s)

more : (s t : ReplicaState) (x : Entry) → t.sync.sync_point ≡ s.sync.sync_point → t.log ≡ logs.appended s.log x → t.changes ≡ s.changes
    → Low s → Keeps s t
more s t x p l c low = grown s t low (grows_more s t x p l c)

open_gap_keeps : (s : ReplicaState) → Low s → Keeps s (open_gap Whole s).0
open_gap_keeps s low = grown s (open_gap Whole s).0 low (open_gap_grows s)

-- ---- views

enter_as_keeps : (b : Bool) (s t : ReplicaState) → Keeps s t → Keeps s (enter_as b t).0
enter_as_keeps true s t h = record {
  point = h.point;
  points = h.points;
  prefix = h.prefix;
  within = h.within;
  gathered = let p = h.point in omega (arith, p);
}
enter_as_keeps false s t h = h

enter_keeps : (s : ReplicaState) (v : View) → Low s → Keeps s (enter s v).0
unfolding enter
enter_keeps s v low = enter_as_keeps (leads (entered s v)) s (entered s v) (changed s (entered s v) refl refl (omega arith) low)

-- the entries up to the sync point are in front
record HasPrefix (own : Log) (l : List Entry) : Type 0 where
  prefix : take own.sync_point l ≡ take own.sync_point own.entries
  within : own.sync_point ≤ length l

-- a log is taken above the own sync point, where that is no less than the one that is told
adopted_has_prefix : (l own : Log) → l.sync_point ≤ own.sync_point → own.sync_point ≤ length own.entries
    → HasPrefix own (logs.adopted Whole l own).entries
adopted_has_prefix l own le within = subst (HasPrefix own) (sym (adopted_near l own le)) (record {
  prefix = spliced_prefix own.sync_point own.sync_point own.entries l.entries (omega arith) within;
  within = let len = length-spliced own.sync_point own.entries l.entries within in omega (arith, len);
})

adopted_keeps : (s : ReplicaState) (v : View) (x : ℕ) (l : Log) → l.sync_point ≤ s.sync.sync_point → Low s
    → Keeps s (adopted Whole s v x l)
adopted_keeps s v x l le low =
    let points = low.points in
    let own = low.within in
    let new = adopted_has_prefix l s.log (omega (arith, points, le)) (omega (arith, points, own)) in
    let within = new.within in
    record {
      point = omega (arith, le);
      points = adopted_point l s.log ∙ ap (λ (n : ℕ). max n l.sync_point) points;
      prefix = subst (λ (n : ℕ). take n (logs.adopted Whole l s.log).entries ≡ take n s.log.entries) points new.prefix;
      within = omega (arith, within, points);
      gathered = omega arith;
    }

adopt_keeps : {S : Type 0} (m : Meaning S) (s : ReplicaState) (v : View) (x : ℕ) (l : Log) → l.sync_point ≤ s.sync.sync_point → Low s
    → Keeps s (adopt m Whole s v x l).0
unfolding adopt
adopt_keeps m s v x l le low =
    let h = adopted_keeps s v x l le low in
    both s (adopted Whole s v x l) (drain m Whole (adopted Whole s v x l)).0 h
    (drain_keeps m (adopted Whole s v x l) (low_after s (adopted Whole s v x l) h))

kept_point : (test : plains.Change → Bool) (cs : List plains.Change) → greatest_point (filter test cs) ≤ greatest_point cs
kept_point test [] = omega arith
kept_point test (c ∷ cs) = put (test c) (kept_point test cs)
  where
    put : (b : Bool) → greatest_point (filter test cs) ≤ greatest_point cs
        → greatest_point (cond b (c ∷ filter test cs) (filter test cs)) ≤ greatest_point (c ∷ cs)
    put true rest = omega (arith, rest)
    put false rest = omega (arith, rest)

-- what a view starts with has no greater sync point than what is gathered
opened_point : (cs : List peer.Change) → (merged Whole (kept_changes cs)).sync_point ≤ greatest_point (map plain cs)
opened_point cs =
    let point = merged_point (kept_changes cs) in
    let same = ap (λ (ds : List plains.Change). greatest_point ds) (kept_is_plain cs) in
    let most = kept_point (λ c. is_view c.last_normal (greatest (map plain cs))) (map plain cs) in
    omega (arith, point, same, most)

more_point : (cs : List peer.Change) (c : peer.Change) (n : ℕ) → greatest_point (map plain cs) ≤ n → c.log.sync_point ≤ n
    → greatest_point (map plain (cs ++ c ∷ [])) ≤ n
more_point [] c n h le = omega (arith, le)
more_point (d ∷ cs) c n h le = let rest = more_point cs c n (omega (arith, h)) le in omega (arith, h, rest)

counted_point : (g : Gathering peer.Change) (c : peer.Change) (n : ℕ) → greatest_point (map plain g.changes) ≤ n → c.log.sync_point ≤ n
    → greatest_point (map plain (change_added change_sender g c).changes) ≤ n
counted_point g c n h le = at (has_sender change_sender g.changes c.sender)
  where
    at : (b : Bool) → greatest_point (map plain (cond b g.changes (g.changes ++ c ∷ []))) ≤ n
    at true = h
    at false = more_point g.changes c n h le

-- ---- rows of the leader's messages

take_set : (n k : ℕ) (e : Entry) (l : List Entry) → n ≤ k → take n (slice_set l k e) ≡ take n l
take_set zero k e l h = refl
take_set (suc n) k e [] h = refl
take_set (suc n) zero e (x ∷ l) h = absurd (omega (arith, h))
take_set (suc n) (suc k) e (x ∷ l) h = ap (λ (t : List Entry). x ∷ t) (take_set n k e l (omega (arith, h)))

take_set_slot : (n k : ℕ) (e : Entry) (l : List Entry) → nat_le k n ≡ false → take n (set_slot l k e) ≡ take n l
take_set_slot n zero e l h = refl
take_set_slot n (suc k) e l h = take_set n k e l (grind (arith, nat_tests, h))

written_keeps : (s : ReplicaState) (k : ℕ) → Low s → Keeps s (gap_written Whole s k)
written_keeps s k low = at (nat_le k s.sync.sync_point) refl
  where
    at : (b : Bool) → nat_le k s.sync.sync_point ≡ b → Keeps s (record s { log = cond b s.log (with_noop Whole s.log k) })
    at true e = same s s refl refl refl low
    at false e = record {
      point = refl;
      points = low.points;
      prefix = take_set_slot s.sync.sync_point k NoOp s.log.entries e;
      within = let len = length-set_slot s.log.entries k NoOp in let w = low.within in omega (arith, len, w);
      gathered = low.gathered;
    }

abbrev overlaid_by : Log → Log → Bool → List Entry
overlaid_by l own b =
    let g : Log = cond b l own in take g.sync_point g.entries ++ laid (drop g.sync_point l.entries) (drop g.sync_point own.entries)

-- so is one that is laid over the own one
overlaid_has_prefix : (l own : Log) → l.sync_point ≤ own.sync_point → own.sync_point ≤ length own.entries
    → HasPrefix own (logs.overlaid Whole l own).entries
overlaid_has_prefix l own le within =
    let n : ℕ = own.sync_point in
    let rest : List Entry = laid (drop n l.entries) (drop n own.entries) in
    let near : (logs.overlaid Whole l own).entries ≡ take n own.entries ++ rest = ap (overlaid_by l own) (le-ltb n l.sync_point le) in
    let one = length-take-le n own.entries within in
    let len = length-append (take n own.entries) rest in
    subst (HasPrefix own) (sym near) (record {
      prefix = take-append-le n (take n own.entries) rest (omega (arith, one)) ∙ take_of_prefix n n own.entries (omega arith);
      within = omega (arith, one, len);
    })

overlay_keeps : {S : Type 0} (m : Meaning S) (s : ReplicaState) (l : Log) → l.sync_point ≤ s.sync.sync_point → Low s
    → Keeps s (overlay m Whole s l).0
unfolding overlay
overlay_keeps m s l le low =
    let points = low.points in
    let own = low.within in
    let new = overlaid_has_prefix l s.log (omega (arith, points, le)) (omega (arith, points, own)) in
    let within = new.within in
    record {
      point = omega (arith, le);
      points = overlaid_point l s.log ∙ ap (λ (n : ℕ). max n l.sync_point) points;
      prefix = subst (λ (n : ℕ). take n (logs.overlaid Whole l s.log).entries ≡ take n s.log.entries) points new.prefix;
      within = omega (arith, within, points);
      gathered = low.gathered;
    }

-- ---- rows that move the sync point leave the log, and may drain

obeyed_log : (k : ℕ) (s : ReplicaState) → (sync_commit k s).0.log ≡ s.log
unfolding sync_commit
obeyed_log k s = at (nat_le k s.sync.prepared)
  where
    at : (b : Bool) → (when b (λ t. obey (hear t) k) s).0.log ≡ s.log
    at true = refl
    at false = refl

synced_log : (s : ReplicaState) → (sync Whole s).0.log ≡ s.log
unfolding sync
synced_log s = at (is_normal s.status && (leads s && not (waits s.gap)))
  where
    by : (b : Bool) → (sync_if Whole b s).0.log ≡ s.log
    by true = refl
    by false = refl

    at : (b : Bool) → (when b (λ t. sync_if Whole (nat_lt t.sync.sync_point (length t.log.entries)) t) s).0.log ≡ s.log
    at true = by (nat_lt s.sync.sync_point (length s.log.entries))
    at false = refl

-- the entries up to the sync point stay
abbrev Stays : ReplicaState → ReplicaState → Type 0
Stays s t = take s.sync.sync_point t.log.entries ≡ take s.sync.sync_point s.log.entries

risen_by : {S : Type 0} (m : Meaning S) (b : Bool) (s t : ReplicaState) → Low s → t.log ≡ s.log
    → Stays s (when b (λ p. then_do (trim m Whole p) (drain m Whole)) t).0
risen_by m true s t low l =
    let len = ap (λ (x : Log). length x.entries) l in
    let w = low.within in
    (drain_grows m (log_trimmed m Whole t)).prefix s.sync.sync_point (omega (arith, len, w))
    ∙ ap (λ (x : Log). take s.sync.sync_point x.entries) l
risen_by m false s t low l = ap (λ (x : Log). take s.sync.sync_point x.entries) l

commit_prefix : {S : Type 0} (m : Meaning S) (k : ℕ) (s : ReplicaState) → Low s → Stays s (rows.sync_commit m Whole k s).0
unfolding rows.sync_commit
commit_prefix m k s low =
    let t : ReplicaState = (sync_commit k s).0 in
    risen_by m (may_trim t) s t low (obeyed_log k s)

reply_prefix : {S : Type 0} (m : Meaning S) (q k : ℕ) (s : ReplicaState) → Low s → Stays s (rows.sync_reply m Whole q k s).0
unfolding rows.sync_reply
reply_prefix m q k s low =
    let t : ReplicaState = (count_sync_vote s q k).0 in
    risen_by m (may_trim t) s t low refl

sync_prefix : {S : Type 0} (m : Meaning S) (s : ReplicaState) → Low s → Stays s (rows.sync m Whole s).0
unfolding rows.sync
sync_prefix m s low =
    let t : ReplicaState = (sync Whole s).0 in
    risen_by m (may_trim t) s t low (synced_log s)

module _ {S : Type 0} (m : Meaning S) (o : ReplicaState) where
  -- of what is sent nothing is said
  sent : (sends : List Sending) → AllByRecursion (λ x. ⊤) sends
  sent [] = tt
  sent (x ∷ sends) = (tt, sent sends)

  goes : (s : ReplicaState) (e : Effect) → Keeps o s → (Low s → Keeps s e.0) → Kept (Keeps o) (λ x. ⊤) e
  goes s e h f = record { state = both o s e.0 h (f (low_after o s h)); sends = sent e.1 }

  unchanged : (s t : ReplicaState) → Keeps o s → t.sync.sync_point ≡ s.sync.sync_point → t.log ≡ s.log → t.changes ≡ s.changes → Keeps o t
  unchanged s t h p l c = both o s t h (same s t p l c (low_after o s h))

  stays : (s t : ReplicaState) → Keeps o s → Stays s t → Stays o t
  stays s t h e = subst (λ (n : ℕ). take n t.log.entries ≡ take n s.log.entries) h.point e ∙ h.prefix

  told_low : (s : ReplicaState) (n : ℕ) → Keeps o s → n ≤ o.sync.sync_point → n ≤ s.sync.sync_point
  told_low s n h le = let p = h.point in omega (arith, p, le)

  gathered_low : (s : ReplicaState) (g : Gathering peer.Change) → Keeps o s → s.changes ≡ Some g
      → greatest_point (map plain g.changes) ≤ s.sync.sync_point
  gathered_low s g h is =
      let low = (low_after o s h).gathered in
      subst (λ (c : Option (Gathering peer.Change)). gathered_point c ≤ s.sync.sync_point) is low

  open_keeps : (s : ReplicaState) (g : Gathering peer.Change) → greatest_point (map plain g.changes) ≤ s.sync.sync_point → Low s
      → Keeps s (open_view m Whole g s).0
  open_keeps s g le low =
      let most = opened_point g.changes in
      adopt_keeps m s s.view (start_of g.view (map plain g.changes)).next (merged Whole (kept_changes g.changes)) (omega (arith, most, le)) low

  move_keeps : EachMove m Whole (Keeps o) (λ p. ⊤) (λ p. point_in_body p.body ≤ o.sync.sync_point) (λ x. ⊤) (λ s e. Stays o e.0)
  move_keeps = record {
    ends = λ s e i h. h.state.prefix;
    sync_commit = λ s p n i g. stays s (rows.sync_commit m Whole n s).0 i (commit_prefix m n s (low_after o s i));
    sync_reply = λ s p n i g. stays s (rows.sync_reply m Whole p.sender n s).0 i (reply_prefix m p.sender n s (low_after o s i));
    sync = λ s i. stays s (rows.sync m Whole s).0 i (sync_prefix m s (low_after o s i));
    drain = λ s i. goes s (drain m Whole s) i (drain_keeps m s);
    queue = λ s p i f. unchanged s (queue s p).0 i refl refl refl;
    session = λ s p i f.
        let t : ReplicaState = begin_session s p in
        let h = unchanged s t i refl refl refl in
        goes t (enter t (session_view s p)) h (enter_keeps t (session_view s p));
    join = λ s p i g. goes s (enter s (join_of s.view p.view)) i (enter_keeps s (join_of s.view p.view));
    next = λ s i e. goes s (enter s (rows.next_leader s.view)) i (enter_keeps s (rows.next_leader s.view));
    opens = λ s g i is many. goes s (open_view m Whole g s) i (open_keeps s g (gathered_low s g i is));
    gather = λ s p u x l g i le is.
        let t : ReplicaState = (keep_change s g (change_in p u x l)).0 in
        let more = counted_point g (change_in p u x l) s.sync.sync_point (gathered_low s g i is) (told_low s l.sync_point i le) in
        both o s t i (changed s t refl refl more (low_after o s i));
    start_again = λ s p i g. (tt, tt);
    adopt = λ s p x l i le. goes s (adopt m Whole s p.view x l) i (adopt_keeps m s p.view x l (told_low s l.sync_point i le));
    write_gap = λ s p n i g.
        let h = unchanged s (hear s) i refl refl refl in goes (hear s) (write_gap Whole (hear s) n) h (written_keeps (hear s) n);
    add_gap = λ s i may. goes s (add_gap Whole (hear s)) i (more s (add_gap Whole (hear s)).0 NoOp refl refl refl);
    fill = λ s p n r i g may. goes s (fill m Whole (hear s) r) i (more s (appended (hear s) (Req r)) (Req r) refl refl refl);
    overlay = λ s p l i le high.
        let h = unchanged s (hear s) i refl refl refl in
        goes (hear s) (overlay m Whole (hear s) l) h (overlay_keeps m (hear s) l (told_low s l.sync_point i le));
    synced = λ s p i g. (tt, tt);
    found_again = λ s p n r i g is. (tt, tt);
    gap_told = λ s p n i g. (tt, tt);
    open_gap = λ s n i is high. goes s (open_gap Whole s) i (open_gap_keeps s);
    vote = λ s g q i is. unchanged s (count_gap_vote s g q).0 i refl refl refl;
    unheard = λ s i. unchanged s (record s { heard = false }) i refl refl refl;
    request_again = λ s i. sent (to_all s bodies.ViewChangeReq);
    change_again = λ s i. (tt, tt);
    gap_again = λ s g i is. sent (to_all s (bodies.GapCommit g.slot));
    lookup_again = λ s i room. (tt, tt);
  }

pub synchronised_stays : {S : Type 0} (m : Meaning S) (s : ReplicaState) (a : Arrival) → PointsMeet s
    → s.sync.sync_point ≤ length s.log.entries → gathered_point s.changes ≤ s.sync.sync_point → point_in_arrival a ≤ s.sync.sync_point
    → take s.sync.sync_point (arrive m Whole s a).0.log.entries ≡ take s.sync.sync_point s.log.entries
synchronised_stays m s a points within gathered log_point =
    let low : Low s = record { points = points; within = within; gathered = gathered } in
    arrive_row m Whole _ _ _ _ (each_row m Whole _ _ _ _ _ (move_keeps m s)) s a (same s s refl refl refl low) (λ p e. tt)
    (λ p e is. subst (λ (x : Arrival). point_in_arrival x ≤ s.sync.sync_point) e log_point)
