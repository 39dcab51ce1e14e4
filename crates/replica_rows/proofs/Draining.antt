-- What is in front is taken, one after the other.
use Rattle.std.proofs.Common.{◌≡◌, ℕ, zero, suc, ◌+◌, ◌-◌, ◌<◌, ◌≤◌, Bool, true, false, List, [], ◌∷◌, ◌++◌, length, Some, None, refl, sym, ap}
use Rattle.std.proofs.Common.{◌∙◌, arith, append_assoc}
use Rattle.std.specs.Prelude.{◌&&◌, not, nat_lt, slice_get}
use Rattle.std.proofs.lemmas.Bool.{ltb-true, le-ltb, and_parts}
use Rattle.std.proofs.lemmas.List.{append-nil}
use Rattle.nop_types.specs.declared.limits.TheConstants.{MAX_SLOTS, MAX_LENGTH}
use Rattle.nop_types.specs.declared.request.Request.{Request}
use Rattle.nop_types.specs.declared.request.Entry.{Entry}
use Rattle.nop_types.specs.declared.request.Entry.TheVariants.{NoOp, Req}
use Rattle.nop_types.specs.Lists.{slot_of}
use Rattle.nop_types.specs.Logs as logs
use Rattle.nop_types.specs.Logs.{Log, Keeping, Trimmed, length_of, unsynced, has_room, entry_at}
use Rattle.nop_types.specs.Meaning.{Meaning}
use Rattle.oum_receiver.specs.Front.{Front, Nothing, Message, Dropped, request_in}
use Rattle.oum_receiver.specs.Receiving.{front_of}
use Rattle.replica_state.specs.declared.sending.Sending.{Sending}
use Rattle.replica_state.specs.declared.state.ReplicaState.{ReplicaState}
use Rattle.replica_state.specs.State.{is_normal, waits, drains, leads}
use Rattle.replica_state.specs.Sends.{Effect, still, then_do}
use Rattle.replica_state.specs.Replies.{reply_at, reply_for_any}
use Rattle.replica_state.specs.Moves.{logged, take_front, appended, fill, open_gap, ask, drain_drop, drain_at, drain_by, drain}
use Rattle.replica_rows.specs.Draining.{GoesOn, Stops, TakesOne, DrainsByFront}
use Rattle.replica_rows.proofs.Fields.{length-appended}
use Rattle.replica_rows.specs.Taking.{TookFront, TookNone, TakesFront}

last_false : (a b c : Bool) → c ≡ false → (a && (b && c)) ≡ false
last_false true true c e = e
last_false true false c e = refl
last_false false b c e = refl

first_false : (a b : Bool) → a ≡ false → (a && b) ≡ false
first_false true b e = absurd cc
first_false false b e = refl

last_place : (l : List Entry) (e : Entry) → slice_get (l ++ e ∷ []) (length l) ≡ Some e
last_place [] e = refl
last_place (x ∷ l) e = last_place l e

pub last_slot : (l : List Entry) (e : Entry) → slot_of (l ++ e ∷ []) (length l + 1) ≡ Some e
last_slot l e = let next : length l + 1 ≡ suc (length l) = omega arith in ap (slot_of (l ++ e ∷ [])) next ∙ last_place l e

pub took : (s t : ReplicaState) (b : Bool) → b ≡ true → TakesFront s t b → TookFront s t
took s t true e h = h
took s t false e h = absurd cc

pub took_none : (s t : ReplicaState) (b : Bool) → b ≡ false → TakesFront s t b → TookNone s t
took_none s t true e h = absurd cc
took_none s t false e h = h

-- no request is in front, nor a drop
no_front : (f : Front) (b : Bool) → request_in f ≡ None → (f ≡ Dropped → b ≡ true) → b ≡ false → f ≡ Nothing
no_front Nothing b none drop e = refl
no_front (Message r) b none drop e = absurd cc
no_front Dropped b none drop e = let found = drop refl in absurd cc

-- where the sync point is in the log, one more entry is one more above it
one_more : (k : Keeping) (l : Log) (e : Entry) → l.sync_point ≤ length_of k l → unsynced k (logs.appended l e) ≡ unsynced k l + 1
one_more k l e low = omega (arith, low, length-appended k l e)

-- the entry that was appended is in the slot after the last one
last_entry : (l : Log) (e : Entry) → entry_at Trimmed (logs.appended l e) (length_of Trimmed l + 1) ≡ Some e
last_entry l e =
    let place : length_of Trimmed l + 1 - l.sync_point ≡ length l.entries + 1 = omega arith in
    ap (slot_of (l.entries ++ e ∷ [])) place ∙ last_slot l.entries e

in_log : (l : Log) → l.sync_point ≤ length_of Trimmed l
in_log l = omega arith

opened_more : (k : Keeping) (s : ReplicaState) → s.log.sync_point ≤ length_of k s.log
    → unsynced k (open_gap k s).0.log ≡ unsynced k s.log + 1
unfolding open_gap
opened_more k s low = one_more k s.log NoOp low

module _ {S : Type 0} (m : Meaning S) where
  -- the reply after a request was logged
  replies_last : (s : ReplicaState) (r : Request)
      → reply_at m Trimmed (logged s r) (length_of Trimmed (logged s r).log) ≡ (take_front m Trimmed s r).1
  replies_last s r =
      ap (reply_at m Trimmed (logged s r)) (length-appended Trimmed s.log (Req r))
      ∙ ap (reply_for_any m Trimmed (logged s r) (length_of Trimmed s.log + 1)) (last_entry s.log (Req r))

  pub replies_filled : (s : ReplicaState) (r : Request)
      → reply_at m Trimmed (appended s (Req r)) (length_of Trimmed s.log + 1) ≡ (fill m Trimmed s r).1
  replies_filled s r = ap (reply_for_any m Trimmed (appended s (Req r)) (length_of Trimmed s.log + 1)) (last_entry s.log (Req r))

  pub took_goes_on : (s u t : ReplicaState) (n : ℕ) (old new : List Sending) → drains Trimmed s ≡ true → TookFront s u → t ≡ u
      → n ≡ length_of Trimmed u.log → new ≡ old ++ reply_at m Trimmed u n → GoesOn m Trimmed s old t new
  took_goes_on s u t n old new may took same last sent =
      let state : t ≡ logged s took.request = same ∙ took.state in
      record {
        drains = may;
        filled = ap (λ (p : ReplicaState). unsynced Trimmed p.log) state ∙ one_more Trimmed s.log (Req took.request) (in_log s.log);
        more = (take_front m Trimmed s took.request).1;
        turn =
            λ again. ap (drain_at m Trimmed again s true) took.front
            ∙ ap (λ (p : ReplicaState). then_do (p, (take_front m Trimmed s took.request).1) again) (sym state);
        sends =
            sent ∙ ap (λ (i : ℕ). old ++ reply_at m Trimmed u i) last
            ∙ ap (λ (p : ReplicaState). old ++ reply_at m Trimmed p (length_of Trimmed p.log)) took.state
            ∙ ap (λ (xs : List Sending). old ++ xs) (replies_last s took.request);
      }

  opens : (s t : ReplicaState) (old new : List Sending) → drains Trimmed s ≡ true → front_of s.receiver ≡ Dropped → leads s ≡ true
      → t ≡ (open_gap Trimmed s).0 → new ≡ old ++ (open_gap Trimmed s).1 → GoesOn m Trimmed s old t new
  opens s t old new may drop leading state sent = record {
    drains = may;
    filled = ap (λ (p : ReplicaState). unsynced Trimmed p.log) state ∙ opened_more Trimmed s (in_log s.log);
    more = (open_gap Trimmed s).1;
    turn = λ again.
        ap (drain_at m Trimmed again s true) drop
        ∙ ap (λ b. drain_drop Trimmed again b s) leading
        ∙ ap (λ (p : ReplicaState). then_do (p, (open_gap Trimmed s).1) again) (sym state);
    sends = sent;
  }

  -- no request was there, and the leader opened a gap
  pub opens_goes_on : (s u t : ReplicaState) (old new : List Sending) → drains Trimmed s ≡ true → TookNone s u
      → front_of u.receiver ≡ Dropped → leads u ≡ true → t ≡ (open_gap Trimmed u).0 → new ≡ old ++ (open_gap Trimmed u).1
      → GoesOn m Trimmed s old t new
  opens_goes_on s u t old new may none drop leading state sent =
      opens s t old new may
      (ap (λ (p : ReplicaState). front_of p.receiver) (sym none.state) ∙ drop)
      (ap leads (sym none.state) ∙ leading)
      (state ∙ ap (λ (p : ReplicaState). (open_gap Trimmed p).0) none.state)
      (sent ∙ ap (λ (p : ReplicaState). old ++ (open_gap Trimmed p).1) none.state)

  -- ---- a turn that stops

  -- nothing may be taken
  pub stops_before : (s : ReplicaState) (old : List Sending) → drains Trimmed s ≡ false → Stops m Trimmed s old s old
  stops_before s old may = record {
    more = [];
    turn = λ again. ap (λ b. drain_at m Trimmed again s b (front_of s.receiver)) may;
    sends = sym (append-nil old);
  }

  -- nothing is in front
  pub stops_at_none : (s u : ReplicaState) (b : Bool) (old : List Sending) → drains Trimmed s ≡ true → TookNone s u
      → (front_of u.receiver ≡ Dropped → b ≡ true) → b ≡ false → Stops m Trimmed s old u old
  stops_at_none s u b old may none drop e =
      let front : front_of s.receiver ≡ Nothing =
      no_front (front_of s.receiver) b none.front (λ d. drop (ap (λ (p : ReplicaState). front_of p.receiver) none.state ∙ d)) e in
      record {
        more = [];
        turn =
            λ again. ap (λ b. drain_at m Trimmed again s b (front_of s.receiver)) may
            ∙ ap (drain_at m Trimmed again s true) front
            ∙ ap still (sym none.state);
        sends = sym (append-nil old);
      }

  -- a follower asks
  pub stops_and_asks : (s u t : ReplicaState) (old new : List Sending) → drains Trimmed s ≡ true → TookNone s u
      → front_of u.receiver ≡ Dropped → leads u ≡ false → t ≡ (ask Trimmed u).0 → new ≡ old ++ (ask Trimmed u).1
      → Stops m Trimmed s old t new
  stops_and_asks s u t old new may none drop follows state sent = record {
    more = (ask Trimmed s).1;
    turn = λ again.
        ap (λ b. drain_at m Trimmed again s b (front_of s.receiver)) may
        ∙ ap (drain_at m Trimmed again s true) (ap (λ (p : ReplicaState). front_of p.receiver) (sym none.state) ∙ drop)
        ∙ ap (λ b. drain_drop Trimmed again b s) (ap leads (sym none.state) ∙ follows)
        ∙ ap (λ (p : ReplicaState). (p, (ask Trimmed s).1)) (sym (state ∙ ap (λ (p : ReplicaState). (ask Trimmed p).0) none.state));
    sends = sent ∙ ap (λ (p : ReplicaState). old ++ (ask Trimmed p).1) none.state;
  }

-- ---- turns

pub has_slot : (k : Keeping) (s : ReplicaState) → drains k s ≡ true → has_room k s.log ≡ true
has_slot k s may = (and_parts (not (waits s.gap)) (has_room k s.log) (and_parts (is_normal s.status) _ may).1).1

some_room : (k : Keeping) (s : ReplicaState) → drains k s ≡ true → unsynced k s.log < MAX_SLOTS
some_room k s may =
    ltb-true _ _ (and_parts (nat_lt (unsynced k s.log) MAX_SLOTS) (nat_lt (length_of k s.log) MAX_LENGTH) (has_slot k s may)).0

module _ {S : Type 0} (m : Meaning S) (k : Keeping) where
  -- with so many unsynchronised entries there is no room
  pub is_full : (s : ReplicaState) → MAX_SLOTS ≤ unsynced k s.log → drains k s ≡ false
  is_full s le =
      last_false (is_normal s.status) (not (waits s.gap)) (has_room k s.log)
      (first_false (nat_lt (unsynced k s.log) MAX_SLOTS) (nat_lt (length_of k s.log) MAX_LENGTH) (le-ltb _ _ le))

  -- one turn, and then what is in front of the rest
  turns : (s t : ReplicaState) (old new : List Sending) (h : GoesOn m k s old t new) → drain m k s ≡ then_do (t, h.more) (drain m k)
  unfolding drain
  turns s t old new h =
      let free = some_room k s h.drains in
      let n : ℕ = MAX_SLOTS - (unsynced k s.log + 1) in
      let one : MAX_SLOTS - unsynced k s.log ≡ suc n = omega (arith, free) in
      let rest : MAX_SLOTS - unsynced k t.log ≡ n = omega (arith, h.filled) in
      ap (λ i. drain_by m k i s) one
      ∙ ap (λ b. drain_at m k (drain_by m k n) s b (front_of s.receiver)) h.drains
      ∙ h.turn (drain_by m k n)
      ∙ ap (λ i. then_do (t, h.more) (λ p. drain_by m k i p)) (sym rest)

  stops_by : (n : ℕ) (s t : ReplicaState) (old new : List Sending) (h : Stops m k s old t new) → n ≡ MAX_SLOTS - unsynced k s.log
      → drain_by m k n s ≡ (t, h.more)
  stops_by zero s t old new h is =
      let full : drains k s ≡ false = is_full s (omega (arith, is)) in
      ap (λ b. drain_at m k (still) s b (front_of s.receiver)) (sym full) ∙ h.turn still
  stops_by (suc n) s t old new h is = h.turn (drain_by m k n)

  stops : (s t : ReplicaState) (old new : List Sending) (h : Stops m k s old t new) → drain m k s ≡ (t, h.more)
  unfolding drain
  stops s t old new h = stops_by (MAX_SLOTS - unsynced k s.log) s t old new h refl

  pub goes_on : (s t : ReplicaState) (old new : List Sending) (total : Effect) → GoesOn m k s old t new
      → then_do (s, old) (drain m k) ≡ total
      → then_do (t, new) (drain m k) ≡ total
  goes_on s t old new total h so_far =
      ap (λ (xs : List Sending). then_do (t, xs) (drain m k)) h.sends
      ∙ ap (λ (xs : List Sending). ((drain m k t).0, xs)) (append_assoc old h.more (drain m k t).1)
      ∙ ap (λ (e : Effect). (e.0, old ++ e.1)) (sym (turns s t old new h))
      ∙ so_far

  pub ended : (s t : ReplicaState) (old new : List Sending) (total : Effect) → Stops m k s old t new
      → then_do (s, old) (drain m k) ≡ total
      → (t, new) ≡ total
  ended s t old new total h so_far =
      ap (λ (xs : List Sending). (t, xs)) h.sends ∙ ap (λ (e : Effect). (e.0, old ++ e.1)) (sym (stops s t old new h)) ∙ so_far

  full_by : (n : ℕ) (s : ReplicaState) → drains k s ≡ false → drain_by m k n s ≡ still s
  full_by zero s none = refl
  full_by (suc n) s none = ap (λ b. drain_at m k (drain_by m k n) s b (front_of s.receiver)) none

  pub drains_nothing : (s : ReplicaState) → drains k s ≡ false → drain m k s ≡ still s
  unfolding drain
  drains_nothing s none = full_by (MAX_SLOTS - unsynced k s.log) s none

  pub is_done : (s : ReplicaState) (old : List Sending) (total : Effect) → MAX_SLOTS ≤ unsynced k s.log
      → then_do (s, old) (drain m k) ≡ total
      → (s, old) ≡ total
  is_done s old total le so_far =
      ap (λ (xs : List Sending). (s, xs)) (sym (append-nil old))
      ∙ ap (λ (e : Effect). (e.0, old ++ e.1)) (sym (drains_nothing s (is_full s le)))
      ∙ so_far

  pub on : (s t : ReplicaState) (old new : List Sending) (b : Bool) → b ≡ true → TakesOne m k s old t new b → GoesOn m k s old t new
  on s t old new true e h = h
  on s t old new false e h = absurd cc

  pub off : (s t : ReplicaState) (old new : List Sending) (b : Bool) → b ≡ false → TakesOne m k s old t new b → Stops m k s old t new
  off s t old new true e h = absurd cc
  off s t old new false e h = h

  -- ---- by what is in front

  ends_by : (s : ReplicaState) → drains k s ≡ true → front_of s.receiver ≡ Nothing → drain m k s ≡ still s
  ends_by s may front = stops s s [] [] (record {
    more = [];
    turn = λ again. ap (λ b. drain_at m k again s b (front_of s.receiver)) may ∙ ap (drain_at m k again s true) front;
    sends = refl;
  })

  takes_by : (s : ReplicaState) (r : Request) → s.log.sync_point ≤ length_of k s.log → drains k s ≡ true
      → front_of s.receiver ≡ Message r
      → drain m k s ≡ then_do (take_front m k s r) (drain m k)
  takes_by s r low may front = turns s (logged s r) [] (take_front m k s r).1 (record {
    drains = may;
    filled = one_more k s.log (Req r) low;
    more = (take_front m k s r).1;
    turn = λ again. ap (drain_at m k again s true) front;
    sends = refl;
  })

  opens_by : (s : ReplicaState) → s.log.sync_point ≤ length_of k s.log → drains k s ≡ true → front_of s.receiver ≡ Dropped
      → leads s ≡ true
      → drain m k s ≡ then_do (open_gap k s) (drain m k)
  opens_by s low may drop leading = turns s (open_gap k s).0 [] (open_gap k s).1 (record {
    drains = may;
    filled = opened_more k s low;
    more = (open_gap k s).1;
    turn = λ again. ap (drain_at m k again s true) drop ∙ ap (λ b. drain_drop k again b s) leading;
    sends = refl;
  })

  asks_by : (s : ReplicaState) → drains k s ≡ true → front_of s.receiver ≡ Dropped → leads s ≡ false → drain m k s ≡ ask k s
  asks_by s may drop follows = stops s (ask k s).0 [] (ask k s).1 (record {
    more = (ask k s).1;
    turn = λ again.
        ap (λ b. drain_at m k again s b (front_of s.receiver)) may
        ∙ ap (drain_at m k again s true) drop
        ∙ ap (λ b. drain_drop k again b s) follows;
    sends = refl;
  })

  pub drains_by_front : (s : ReplicaState) → s.log.sync_point ≤ length_of k s.log → DrainsByFront m k s
  drains_by_front s low = record {
    rests = drains_nothing s;
    ends = ends_by s;
    takes = λ r. takes_by s r low;
    opens = opens_by s low;
    asks = asks_by s;
  }
