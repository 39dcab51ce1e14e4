-- No op waits while a core takes one.
use Rattle.std.proofs.Common.{◌≡◌, ℕ, zero, suc, ◌<◌, ◌≤◌, Bool, true, false, cond, List, [], ◌∷◌, ◌++◌, length, map, get_or, Option, Some, None, refl, sym, ap, subst, ◌∙◌, arith, inl, inr}
use Rattle.std.specs.Prelude.{◌==◌, ◌&&◌, ◌⊎◌, min, nat_lt, slice_get}
use Rattle.std.specs.List.{position, position_or_len}
use Rattle.std.proofs.lemmas.Bool.{eq-eqb, eqb-true, eqb-false, ltb-false}
use Rattle.std.proofs.lemmas.List.Sums.{fails_before_first}
use Rattle.std.proofs.lemmas.Option.{get_or_from_slice_get, slice_get_within}
use Rattle.client_quorum.specs.ClientSteps.{can_submit}
use Rattle.desk.specs.Desks.{Event, Take, Leave, Comes, Filled, came, changed_at, fewest_from, fewest_if, fill, fill_if, first_with, freest, is_free_with, left, next, queued, with_told, told_at, without_queued}
use Rattle.desk.specs.Runs.{after, IsBusy, NoneTakes}
use Rattle.desk.specs.Submitters.{core_left, submits, submit_tells}
use Rattle.desk.specs.declared.desk_state.DeskState.{DeskState}
use Rattle.desk.specs.declared.submitter.Queued.{Queued}
use Rattle.desk.specs.declared.submitter.Submitter.{Submitter}
use Rattle.desk.proofs.Mapped.{mapped}

-- ---- no core takes an op

abbrev can : Submitter → Bool
can s = can_submit s.client.state.requests

-- there are no fewest tickets: none takes one

if_none : (b : Bool) (before : Option ℕ) (n : ℕ) → fewest_if b before n ≡ None → (before ≡ None) × (b ≡ false)
if_none true before n e = absurd cc
if_none false before n e = (e, refl)

none_in : (d : Submitter) (cores : List Submitter) → can d ≡ false → NoneTakes cores → NoneTakes (d ∷ cores)
none_in d cores e h zero s at = let same : d ≡ s = cc in subst (λ (c : Submitter). can c ≡ false) same e
none_in d cores e h (suc i) s at = h i s at

fewest_none : (cores : List Submitter) (before : Option ℕ) → fewest_from before cores ≡ None → (before ≡ None) × NoneTakes cores
fewest_none [] before e = (e, λ i s at. absurd cc)
fewest_none (d ∷ cores) before e =
    let rest = fewest_none cores (fewest_if (can d) before (length d.held)) e in
    let none = if_none (can d) before (length d.held) rest.0 in
    (none.0, none_in d cores none.1 rest.1)

-- else a core that takes one holds so many

record Holds (n : ℕ) (cores : List Submitter) : Type 0 where
  pub place : ℕ
  pub core : Submitter
  pub at : slice_get cores place ≡ Some core
  pub is : is_free_with n core ≡ true

later : (n : ℕ) (d : Submitter) (cores : List Submitter) → Holds n cores → Holds n (d ∷ cores)
later n d cores h = record { place = suc h.place; core = h.core; at = h.at; is = h.is }

both : (a b : Bool) → a ≡ true → b ≡ true → a && b ≡ true
both a b e f = ap (λ (c : Bool). c && b) e ∙ f

here : (n : ℕ) (d : Submitter) (cores : List Submitter) → can d ≡ true → length d.held ≡ n → Holds n (d ∷ cores)
here n d cores e f = record { place = 0; core = d; at = refl; is = both (can d) (length d.held == n) e (eq-eqb (length d.held) n f) }

of_two : (m k n : ℕ) → min m k ≡ n → (m ≡ n) ⊎ (k ≡ n)
of_two m k n e = by (m == n) refl
  where
    by : (b : Bool) → (m == n) ≡ b → (m ≡ n) ⊎ (k ≡ n)
    by true f = inl (eqb-true m n f)
    by false f = let other = eqb-false m n f in inr (omega (arith, e, other))

if_some : (d : Submitter) (cores : List Submitter) (before : Option ℕ) (n : ℕ) (b : Bool) → can d ≡ b
    → fewest_if b before (length d.held) ≡ Some n → (before ≡ Some n) ⊎ Holds n (d ∷ cores)
if_some d cores before n false e f = inl f
if_some d cores None n true e f = inr (here n d cores e cc)
if_some d cores (Some m) n true e f = with_two (of_two m (length d.held) n cc)
  where
    with_two : (m ≡ n) ⊎ (length d.held ≡ n) → (Some m ≡ Some n) ⊎ Holds n (d ∷ cores)
    with_two (inl g) = inl (ap (λ (k : ℕ). Some k) g)
    with_two (inr g) = inr (here n d cores e g)

fewest_some : (cores : List Submitter) (before : Option ℕ) (n : ℕ) → fewest_from before cores ≡ Some n → (before ≡ Some n) ⊎ Holds n cores
fewest_some [] before n e = inl e
fewest_some (d ∷ cores) before n e = with_rest (fewest_some cores (fewest_if (can d) before (length d.held)) n e)
  where
    with_rest : (fewest_if (can d) before (length d.held) ≡ Some n) ⊎ Holds n cores → (before ≡ Some n) ⊎ Holds n (d ∷ cores)
    with_rest (inl f) = if_some d cores before n (can d) refl f
    with_rest (inr h) = inr (later n d cores h)

-- so one of these is found

none_at : (b : Bool) (n : ℕ) → cond b (Some n) None ≡ None → b ≡ false
none_at true n e = absurd cc
none_at false n e = refl

none_with : (n : ℕ) (cores : List Submitter) → position (is_free_with n) cores ≡ None → Holds n cores → ⊥
none_with n cores e h =
    let p : Submitter → Bool = is_free_with n in
    let late = ltb-false (position_or_len p cores) (length cores)
    (none_at (nat_lt (position_or_len p cores) (length cores)) (position_or_len p cores) e) in
    let within = slice_get_within cores h.place h.core h.at in
    let fails = fails_before_first p cores h.place h.core (omega (arith, late, within)) in
    let same = ap p (sym (get_or_from_slice_get cores h.place h.core h.core h.at)) ∙ fails in
    let is = h.is in
    absurd cc

first_none : (o : Option ℕ) (cores : List Submitter) → fewest_from None cores ≡ o → first_with o cores ≡ None → NoneTakes cores
first_none None cores f e = (fewest_none cores None f).1
first_none (Some n) cores f e = held (fewest_some cores None n f)
  where
    held : (None ≡ Some n) ⊎ Holds n cores → NoneTakes cores
    held (inl g) = absurd cc
    held (inr h) = absurd (none_with n cores e h)

none_takes : (cores : List Submitter) → freest cores ≡ None → NoneTakes cores
none_takes cores e = first_none (fewest_from None cores) cores refl e

-- ---- all are submitted that may be

abbrev Stops : Filled → Type 0
Stops f = (f.queue ≡ []) ⊎ NoneTakes f.cores

stops_at : (o : Option ℕ) (none : Filled) (some : ℕ → Filled) → (o ≡ None → Stops none) → ((i : ℕ) → Stops (some i)) → Stops (fill_if o none some)
stops_at None none some a b = a refl
stops_at (Some i) none some a b = b i

pub fill_stops : (qs : List Queued) (cores : List Submitter) → Stops (fill cores qs)
fill_stops [] cores = inl refl
fill_stops (q ∷ qs) cores =
    stops_at (freest cores) (record { cores = cores; queue = q ∷ qs; told = [] })
    (λ i. with_told (told_at i cores (λ s. submit_tells i s q)) (fill (changed_at i cores (λ s. submits s q)) qs))
    (λ e. inr (none_takes cores e)) (λ i. fill_stops qs (changed_at i cores (λ s. submits s q)))

-- ---- runs

left_busy : (d : DeskState) (t : ℕ) → IsBusy d → IsBusy (left d t)
left_busy d t (inl e) = inl (ap (λ (qs : List Queued). without_queued qs t) e)
left_busy d t (inr h) = inr (λ i s at.
    let c = mapped t d.cores i s at in
    subst (λ (k : Submitter). can_submit k.client.state.requests ≡ false) c.2 (h i c.0 c.1))

step_busy : (d : DeskState) (e : Event) → IsBusy d → IsBusy (next d e).0
step_busy d (Take op) h = fill_stops (queued d op).queue d.cores
step_busy d (Leave t) h = left_busy d t h
step_busy d (Comes i x) h = fill_stops d.queue (came d i x).cores

pub run_busy : (es : List Event) (d : DeskState) → IsBusy d → IsBusy (after d es)
run_busy [] d h = h
run_busy (e ∷ es) d h = run_busy es (next d e).0 (step_busy d e h)
