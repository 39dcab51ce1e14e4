-- What a view starts with, and entering one alone.
use Rattle.std.proofs.Common.{◌≡◌, ◌<◌, ◌≤◌, Bool, true, false, List, [], ◌∷◌, ◌++◌, length, filter, refl, sym, ap, subst, ◌∙◌, arith, inl}
use Rattle.std.proofs.Common.{inr, true≢false}
use Rattle.std.specs.Prelude.{cond, map, ◌⊎◌, Option, Some, None, IfSome, nat_lt, ◌==◌, ◌&&◌}
use Rattle.std.specs.List.{AllByRecursion}
use Rattle.std.proofs.lemmas.Bool.{lt-ltb, ltb-true, le-ltb}
use Rattle.std.proofs.lemmas.Bool.Decides.{nat_tests}
use Rattle.std.proofs.lemmas.List.{append-nil}
use Rattle.std.proofs.lemmas.Option.{same_Some}
use Rattle.nop_types.specs.declared.limits.TheConstants.{NUMBER_END}
use Rattle.nop_types.specs.declared.view.View.{View}
use Rattle.nop_types.specs.declared.peer.Change.{Change}
use Rattle.nop_types.specs.Logs.{Keeping, Trimmed}
use Rattle.nop_types.specs.CheckpointedLogs.{loads}
use Rattle.nop_types.specs.PlainChanges as plains
use Rattle.nop_types.specs.PlainChanges.{plain}
use Rattle.nop_types.specs.Ranges.{ChangeIsIn, ChangeFits, NextFits, LogIsIn, LogFits}
use Rattle.nop_types.specs.Views.{is_view, outranks}
use Rattle.nop_types.specs.Meaning.{Meaning}
use Rattle.log_merge.specs.Merging.{kept_changes, merged}
use Rattle.log_merge.specs.Starting.{greatest, greatest_next, kept, start_of}
use Rattle.log_merge.proofs.InRanges.{merged_fits}
use Rattle.view_change.specs.Gathering.{Gathering, change_sender, started, change_added, has_sender, step_of}
use Rattle.view_change.specs.declared.starting.Step.TheVariants.{Started, Waiting}
use Rattle.view_change.specs.declared.starting.Start.{Start}
use Rattle.replica_state.specs.declared.sending.Sending.{Sending}
use Rattle.replica_state.specs.declared.state.ReplicaState.{ReplicaState}
use Rattle.replica_state.specs.State.{max_faults, leads}
use Rattle.replica_state.specs.Sends.{Effect, still, then_do, when}
use Rattle.replica_state.specs.Moves.{entered, enter, enter_as, open_with, open_view, open_if_enough, keep_change}
use Rattle.replica_rows.specs.Rows.{enter_view, gather}
use Rattle.replica_rows.specs.Gathering.{kept_by, step_by}
use Rattle.replica_state.specs.Within.{IsWithin}
use Rattle.replica_rows.specs.Within.{ChangeLoads, LogsLoad}
use Rattle.replica_rows.proofs.Loading.{merged_loads}

-- ---- ranges

pub filter_all : {A : Type 0} (P : A → Type 0) (test : A → Bool) (cs : List A) → AllByRecursion P cs → AllByRecursion P (filter test cs)
filter_all P test [] h = tt
filter_all P test (c ∷ cs) h = put (test c) (filter_all P test cs h.1)
  where
    put : (b : Bool) → AllByRecursion P (filter test cs) → AllByRecursion P (cond b (c ∷ filter test cs) (filter test cs))
    put true rest = (h.0, rest)
    put false rest = rest

abbrev HasNext : plains.Change → Type 0
HasNext c = NextFits c.next

nexts_fit : (k : Keeping) (cs : List Change) → AllByRecursion (ChangeIsIn k) cs → AllByRecursion HasNext (map plain cs)
nexts_fit k [] h = tt
nexts_fit k (c ∷ cs) h = (h.0.rest.number, nexts_fit k cs h.1)

next_high : (cs : List plains.Change) → AllByRecursion HasNext cs → greatest_next cs ≤ NUMBER_END
next_high [] h = omega arith
next_high (c ∷ cs) h = let here = h.0.high in let rest = next_high cs h.1 in grind (arith, here, rest)

-- some change comes from the view
abbrev HasView : View → List plains.Change → Type 0
HasView v [] = ⊥
HasView v (c ∷ cs) = (is_view c.last_normal v ≡ true) ⊎ HasView v cs

next_low : (v : View) (cs : List plains.Change) → AllByRecursion HasNext cs → HasView v cs
    → 1 ≤ greatest_next (filter (λ c. is_view c.last_normal v) cs)
next_low v [] h some = absurd some
next_low v (c ∷ cs) h some = at (is_view c.last_normal v) (next_low v cs h.1) some
  where
    low : 1 ≤ c.next
    low = h.0.low

    at : (b : Bool) → (HasView v cs → 1 ≤ greatest_next (filter (λ c. is_view c.last_normal v) cs)) → (b ≡ true) ⊎ HasView v cs
        → 1 ≤ greatest_next (cond b (c ∷ filter (λ c. is_view c.last_normal v) cs) (filter (λ c. is_view c.last_normal v) cs))
    at true rest some = grind (arith, low)
    at false rest (inl e) = absurd cc
    at false rest (inr r) = rest r

is_same_view : (v : View) → is_view v v ≡ true
is_same_view v = both (v.leader == v.leader) (v.session == v.session) (grind (arith, nat_tests)) (grind (arith, nat_tests))
  where
    both : (a b : Bool) → a ≡ true → b ≡ true → (a && b) ≡ true
    both true true e f = refl
    both true false e f = f
    both false b e f = e

lowest : (v : View) → outranks (record { leader = 0; session = 0 }) v ≡ false
lowest v = grind (arith, nat_tests)

greatest_of : (c : plains.Change) (cs : List plains.Change) (b : Bool) → (b ≡ true → HasView (greatest cs) cs)
    → HasView (cond b (greatest cs) c.last_normal) (c ∷ cs)
greatest_of c cs true rest = inr (rest refl)
greatest_of c cs false rest = inl (is_same_view c.last_normal)

-- the greatest view is that of a change
greatest_has : (c : plains.Change) (cs : List plains.Change) → HasView (greatest (c ∷ cs)) (c ∷ cs)
greatest_has c [] = greatest_of c [] (outranks (greatest []) c.last_normal) (λ e. absurd (true≢false (sym e ∙ lowest c.last_normal)))
greatest_has c (d ∷ ds) = greatest_of c (d ∷ ds) (outranks (greatest (d ∷ ds)) c.last_normal) (λ _. greatest_has d ds)

next_fits : (w : View) (cs : List plains.Change) → AllByRecursion HasNext cs → 0 < length cs → NextFits (start_of w cs).next
next_fits w [] h some = absurd (omega (arith, some))
next_fits w (c ∷ cs) h some = at ((greatest (c ∷ cs)).session == w.session)
  where
    at : (b : Bool) → NextFits (cond b (greatest_next (kept (c ∷ cs))) 1)
    at true = record {
      low = next_low (greatest (c ∷ cs)) (c ∷ cs) h (greatest_has c cs);
      high = next_high (kept (c ∷ cs)) (filter_all HasNext (λ d. is_view d.last_normal (greatest (c ∷ cs))) (c ∷ cs) h);
    }
    at false = record { low = omega arith; high = omega arith }

pub opened_next_fits : (k : Keeping) (w : View) (cs : List Change) → AllByRecursion (ChangeIsIn k) cs → 0 < length cs
    → NextFits (start_of w (map plain cs)).next
opened_next_fits k w [] h some = absurd (omega (arith, some))
opened_next_fits k w (c ∷ cs) h some = next_fits w (map plain (c ∷ cs)) (nexts_fit k (c ∷ cs) h) (omega arith)

pub opened_log_fits : (k : Keeping) (cs : List Change) → AllByRecursion (ChangeIsIn k) cs → LogIsIn k (merged k (kept_changes cs))
opened_log_fits k cs h =
    merged_fits k (kept_changes cs) (filter_all (ChangeIsIn k) (λ d. is_view d.last_normal (greatest (map plain cs))) cs h)

-- ---- entering a view

none_after : (e : Effect) (f : ReplicaState → Effect) → f e.0 ≡ still e.0 → then_do e f ≡ e
none_after e f none = ap (λ (x : Effect). (x.0, e.1 ++ x.1)) none ∙ ap (λ (xs : List Sending). (e.0, xs)) (append-nil e.1)

-- a leader's gathering begins with its own change
pub record IsOwn (s : ReplicaState) (g : Gathering Change) : Type 0 where
  pub f : g.f ≡ max_faults s
  pub one : length g.changes ≡ 1

own_as : (b : Bool) (s : ReplicaState) (g : Gathering Change) → (enter_as b s).0.changes ≡ Some g → s.changes ≡ None
    → IsOwn (enter_as b s).0 g
own_as true s g is none =
    let same = same_Some _
    _ is in record { f = ap (λ (h : Gathering Change). h.f) (sym same); one = ap (λ (h : Gathering Change). length h.changes) (sym same) }
own_as false s g is none = absurd cc

pub own : (s : ReplicaState) (v : View) (g : Gathering Change) → (enter s v).0.changes ≡ Some g → IsOwn (enter s v).0 g
unfolding enter
own s v g is = own_as (leads (entered s v)) (entered s v) g is refl

module _ {S : Type 0} (m : Meaning S) (k : Keeping) where
  by_gathering : (o : Option (Gathering Change)) (t : ReplicaState) → o ≡ t.changes
      → ((g : Gathering Change) → t.changes ≡ Some g → IsOwn t g)
      → 0 < max_faults t → open_if_enough m k o t ≡ still t
  by_gathering None t is owns more = refl
  by_gathering (Some g) t is owns more =
      let mine = owns g (sym is) in
      let many : length g.changes ≤ g.f = omega (arith, mine.one, mine.f) in
      ap (λ b. when b (open_view m k g) t) (le-ltb _ _ many)

  -- with others the view does not start at once
  pub enters_with_others : (s : ReplicaState) (v : View) → 0 < max_faults (enter s v).0 → enter_view m k v s ≡ enter s v
  unfolding enter_view
  enters_with_others s v more =
      none_after (enter s v) (λ t. open_if_enough m k t.changes t)
      (by_gathering (enter s v).0.changes (enter s v).0 refl (own s v) more)

  -- nor where nothing is gathered
  pub enters_without : (s : ReplicaState) (v : View) → (enter s v).0.changes ≡ None → enter_view m k v s ≡ enter s v
  unfolding enter_view
  enters_without s v none =
      none_after (enter s v) (λ t. open_if_enough m k t.changes t)
      (ap (λ (o : Option (Gathering Change)). open_if_enough m k o (enter s v).0) none)

module _ {S : Type 0} (m : Meaning S) where
  -- a replica that is alone starts it with what it has
  pub enters_alone : (s : ReplicaState) (v : View) (g : Gathering Change) → (enter s v).0.changes ≡ Some g → g.f ≡ 0
      → enter_view m Trimmed v s ≡ then_do (enter s v) (open_view m Trimmed g)
  unfolding enter_view
  enters_alone s v g is none =
      let mine = own s v g is in
      let enough : nat_lt g.f (length g.changes) ≡ true = lt-ltb _ _ (omega (arith, mine.one, none)) in
      let rest : open_if_enough m Trimmed (enter s v).0.changes (enter s v).0 ≡ open_view m Trimmed g (enter s v).0 =
      ap (λ (o : Option (Gathering Change)). open_if_enough m Trimmed o (enter s v).0) is
      ∙ ap (λ b. when b (open_view m Trimmed g) (enter s v).0) enough in
      ap (λ (x : Effect). (x.0, (enter s v).1 ++ x.1)) rest

  -- a view is opened with what the code starts it with
  opens_started : (s : ReplicaState) (g : Gathering Change) (start : Start) → start ≡ started g.view g.changes
      → open_view m Trimmed g s ≡ open_with m Trimmed s start.next start.log
  opens_started s g start begins = ap (λ (b : Start). open_with m Trimmed s b.next b.log) (sym begins)

  -- the same, with what the code has after each part
  pub opens_alone : (s t p : ReplicaState) (v : View) (g : Gathering Change) (start : Start) → t ≡ (enter s v).0
      → t.changes ≡ Some g → g.f ≡ 0 → p ≡ t → start ≡ started g.view g.changes
      → enter_view m Trimmed v s ≡ then_do (enter s v) (λ _. open_with m Trimmed p start.next start.log)
  opens_alone s t p v g start e is none same begins =
      enters_alone s v g (ap (λ (q : ReplicaState). q.changes) (sym e) ∙ is) none
      ∙ ap (λ (x : Effect). (x.0, (enter s v).1 ++ x.1))
      (ap (λ (q : ReplicaState). open_view m Trimmed g q) (sym e ∙ sym same) ∙ opens_started p g start begins)

-- what a view is started with is in its ranges
pub start_fits : (g : Gathering Change) (start : Start) → AllByRecursion ChangeFits g.changes → 0 < length g.changes
    → start ≡ started g.view g.changes → NextFits start.next × LogFits start.log
start_fits g start all some begins =
    let fits : NextFits (started g.view g.changes).next × LogFits (started g.view g.changes).log =
    (opened_next_fits Trimmed g.view g.changes all some, opened_log_fits Trimmed g.changes all) in
    subst (λ (b : Start). NextFits b.next × LogFits b.log) (sym begins) fits

-- and loads
pub start_loads : {S : Type 0} (m : Meaning S) (g : Gathering Change) (start : Start) → AllByRecursion (ChangeLoads m) g.changes
    → start ≡ started g.view g.changes → loads m start.log ≡ true
start_loads m g start all begins =
    ap (λ (b : Start). loads m b.log) begins
    ∙ merged_loads m (kept_changes g.changes)
    (filter_all (ChangeLoads m) (λ d. is_view d.last_normal (greatest (map plain g.changes))) g.changes all)

-- what is put back after a look
pub put_back : (t : ReplicaState) (g h : Gathering Change) → h ≡ g → t.changes ≡ Some g → record t { changes = Some h } ≡ t
put_back t g h same is = ap (λ (o : Option (Gathering Change)). record t { changes = o }) (ap Some same ∙ sym is)

-- ---- a change is kept

all_behind : (P : Change → Type 0) (cs : List Change) (c : Change) → AllByRecursion P cs → P c → AllByRecursion P (cs ++ c ∷ [])
all_behind P [] c h fits = (fits, tt)
all_behind P (d ∷ cs) c h fits = (h.0, all_behind P cs c h.1 fits)

-- what holds of each change holds with one more
pub counted_fits : (P : Change → Type 0) (g : Gathering Change) (c : Change) → AllByRecursion P g.changes → P c
    → AllByRecursion P (change_added change_sender g c).changes
counted_fits P g c h fits = at (has_sender change_sender g.changes c.sender)
  where
    at : (b : Bool) → AllByRecursion P (cond b g.changes (g.changes ++ c ∷ []))
    at true = h
    at false = all_behind P g.changes c h fits

begun_by : (b : Bool) (s start : Start) → cond b (Started s) Waiting ≡ Started start → (b ≡ true) × (start ≡ s)
begun_by true s start e = (refl, cc)
begun_by false s start e = absurd cc

-- a view starts where enough changes are there, with what they make
pub begins : (g : Gathering Change) (start : Start) → step_of g ≡ Started start
    → (g.f < length g.changes) × (start ≡ started g.view g.changes)
begins g start e = let r = begun_by (nat_lt g.f (length g.changes)) _ start e in (ltb-true _ _ r.0, r.1)

waiting_by : (b : Bool) (s : Start) → cond b (Started s) Waiting ≡ Waiting → b ≡ false
waiting_by true s e = absurd cc
waiting_by false s e = refl

-- what is gathered where a view starts with a change
pub record Gathers {S : Type 0} (m : Meaning S) (s t : ReplicaState) (c : Change) (start : Start) : Type 0 where
  pub next : NextFits start.next
  pub log_fits : LogFits start.log
  pub loads : loads m start.log ≡ true
  pub row : gather m Trimmed s.changes c s ≡ open_with m Trimmed t start.next start.log

module _ {S : Type 0} (m : Meaning S) where
  pub gathers : (s t : ReplicaState) (o : Option (Gathering Change)) (c : Change) (start : Start) → o ≡ s.changes → IsWithin s
      → LogsLoad m s → ChangeFits c → ChangeLoads m c → t ≡ kept_by s o c → step_by o c ≡ Started start → Gathers m s t c start
  gathers s t None c start e w load fits one kept step = absurd cc
  gathers s t (Some g) c start e w load fits one kept step =
      let all = subst (λ o. IfSome o (λ x. AllByRecursion ChangeFits x.changes)) (sym e) w.changes in
      let each = subst (λ o. IfSome o (λ x. AllByRecursion (ChangeLoads m) x.changes)) (sym e) load.gathered in
      let enough = begins (change_added change_sender g c) start step in
      let fit =
      start_fits (change_added change_sender g c) start (counted_fits ChangeFits g c all fits) (omega (arith, enough.0)) enough.1 in
      let k : ReplicaState = (keep_change s g c).0 in
      record {
        next = fit.0;
        log_fits = fit.1;
        loads = start_loads m (change_added change_sender g c) start (counted_fits (ChangeLoads m) g c each one) enough.1;
        row =
            ap (λ (o : Option (Gathering Change)). gather m Trimmed o c s) (sym e)
            ∙ ap (λ b. when b (open_view m Trimmed (change_added change_sender g c)) k) (lt-ltb _ _ enough.0)
            ∙ opens_started m k (change_added change_sender g c) start enough.1
            ∙ ap (λ (p : ReplicaState). open_with m Trimmed p start.next start.log) (sym kept);
      }

  -- and where it does not start yet
  pub gathers_more : (s t : ReplicaState) (o : Option (Gathering Change)) (c : Change) → o ≡ s.changes → t ≡ kept_by s o c
      → step_by o c ≡ Waiting
      → gather m Trimmed s.changes c s ≡ still t
  gathers_more s t None c e kept step = ap (λ (o : Option (Gathering Change)). gather m Trimmed o c s) (sym e) ∙ ap still (sym kept)
  gathers_more s t (Some g) c e kept step =
      let k : ReplicaState = (keep_change s g c).0 in
      ap (λ (o : Option (Gathering Change)). gather m Trimmed o c s) (sym e)
      ∙ ap (λ b. when b (open_view m Trimmed (change_added change_sender g c)) k) (waiting_by (nat_lt g.f (length (change_added change_sender g c).changes)) _ step)
      ∙ ap still (sym kept)
