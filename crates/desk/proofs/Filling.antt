-- What holds of each submission holds when all are submitted, and what holds of each step holds of a run.
use Rattle.std.proofs.Common.{◌≡◌, ℕ, ◌+◌, Bool, true, false, length, List, [], ◌∷◌, ◌++◌, Option, Some, None, refl, sym, ap, subst, ◌∙◌, append-nil, append_assoc, inl, inr}
use Rattle.std.specs.Prelude.{◌⊎◌, ◌&&◌, ◌==◌, slice_get, slice_set}
use Rattle.std.specs.List.{position}
use Rattle.std.proofs.lemmas.List.Quantifiers.{position-Some}
use Rattle.nop_types.specs.Given.{Given}
use Rattle.client_quorum.specs.ClientSteps.{can_submit}
use Rattle.lemmas.proofs.Places.{slice_get-some}
use Rattle.std.proofs.lemmas.Option.{get_or_from_slice_get}
use Rattle.desk.specs.Desks.{Event, Take, Leave, Comes, Filled, changed_at, changed_if, fewest_from, fill, fill_if, filled, first_with, freest, is_free_with, left, next, queued}
use Rattle.desk.specs.Desks.{told_at, told_if, with_told}
use Rattle.desk.specs.Runs.{after, gave, op_in, ops_of}
use Rattle.desk.specs.Submitters.{submits, submit_tells, takes, tells}
use Rattle.desk.specs.declared.desk_state.DeskState.{DeskState}
use Rattle.desk.specs.declared.submitter.Labelled.{Labelled}
use Rattle.desk.specs.declared.submitter.Queued.{Queued}
use Rattle.desk.specs.declared.submitter.Submitter.{Submitter}

-- ---- the core that takes an op

pub record IsFree (cores : List Submitter) (i : ℕ) : Type 0 where
  pub core : Submitter
  pub at : slice_get cores i ≡ Some core
  pub may : can_submit core.client.state.requests ≡ true

both_left : (a b : Bool) → a && b ≡ true → a ≡ true
both_left true b e = refl
both_left false b e = absurd cc

free_with : (n : ℕ) (cores : List Submitter) (i : ℕ) → position (is_free_with n) cores ≡ Some i → IsFree cores i
free_with n [] i e = absurd (let none : position (is_free_with n) [] ≡ None = refl in cc)
free_with n (d ∷ cores) i e =
    let r = position-Some (is_free_with n) (d ∷ cores) i d e in
    let s = slice_get-some (d ∷ cores) i r.0 in
    let same = get_or_from_slice_get (d ∷ cores) i s.0 d s.1 in
    let may = subst (λ (c : Submitter). is_free_with n c ≡ true) same r.1 in
    record { core = s.0; at = s.1; may = both_left (can_submit s.0.client.state.requests) (length s.0.held == n) may }

first_free_at : (n : Option ℕ) (cores : List Submitter) (i : ℕ) → first_with n cores ≡ Some i → IsFree cores i
first_free_at None cores i e = absurd cc
first_free_at (Some n) cores i e = free_with n cores i e

pub free_at : (cores : List Submitter) (i : ℕ) → freest cores ≡ Some i → IsFree cores i
free_at cores i e = first_free_at (fewest_from None cores) cores i e

-- ---- all submissions

fill_cases : (Q : Filled → Type 0) (o : Option ℕ) (none : Filled) (some : ℕ → Filled) → Q none → ((i : ℕ) → o ≡ Some i → Q (some i))
    → Q (fill_if o none some)
fill_cases Q None none some a b = a
fill_cases Q (Some i) none some a b = b i refl

module _ (P : List Submitter → List Queued → List Labelled → Type 0)
    (step : (cores : List Submitter) (q : Queued) (qs : List Queued) (told : List Labelled) (i : ℕ) (s : Submitter) → slice_get cores i ≡ Some s
    → can_submit s.client.state.requests ≡ true → P cores (q ∷ qs) told
    → P (slice_set cores i (submits s q)) qs (told ++ submit_tells i s q)) where
  one : (cores : List Submitter) (q : Queued) (qs : List Queued) (told : List Labelled) (i : ℕ) → IsFree cores i → P cores (q ∷ qs) told
      → P (changed_at i cores (λ s. submits s q)) qs (told ++ told_at i cores (λ s. submit_tells i s q))
  one cores q qs told i free h =
      subst (λ (o : Option Submitter). P (changed_if o i cores (λ s. submits s q)) qs (told ++ told_if o (λ s. submit_tells i s q)))
      (sym free.at) (step cores q qs told i free.core free.at free.may h)

  pub fill_keeps : (qs : List Queued) (cores : List Submitter) (told : List Labelled) → P cores qs told
      → P (fill cores qs).cores (fill cores qs).queue (told ++ (fill cores qs).told)
  fill_keeps [] cores told h = subst (λ (ts : List Labelled). P cores [] ts) (sym (append-nil told)) h
  fill_keeps (q ∷ qs) cores told h =
      fill_cases (λ (f : Filled). P f.cores f.queue (told ++ f.told)) (freest cores) (record { cores = cores; queue = q ∷ qs; told = [] })
      (λ i. with_told (told_at i cores (λ s. submit_tells i s q)) (fill (changed_at i cores (λ s. submits s q)) qs))
      (subst (λ (ts : List Labelled). P cores (q ∷ qs) ts) (sym (append-nil told)) h)
      (λ i e.
      let mine = told_at i cores (λ s. submit_tells i s q) in
      let moved = changed_at i cores (λ s. submits s q) in
      subst (λ (ts : List Labelled). P (fill moved qs).cores (fill moved qs).queue ts) (append_assoc told mine (fill moved qs).told)
      (fill_keeps qs moved (told ++ mine) (one cores q qs told i (free_at cores i e) h)))

-- ---- runs

-- what each kind of step keeps
pub record Keeps (P : List (List ℕ) → DeskState → List Labelled → Type 0) : Type 0 where
  pub on_take : (ops : List (List ℕ)) (d : DeskState) (told : List Labelled) (op : List ℕ) → P ops d told → P (ops ++ op ∷ []) (queued d op) told
  pub on_leave : (ops : List (List ℕ)) (d : DeskState) (told : List Labelled) (t : ℕ) → P ops d told → P ops (left d t) told
  pub on_come : (ops : List (List ℕ)) (d : DeskState) (told : List Labelled) (i : ℕ) (s : Submitter) (x : Given) → slice_get d.cores i ≡ Some s
      → P ops d told → P ops (record d { cores = slice_set d.cores i (takes s x) }) (told ++ tells i s x)
  pub on_submit : (ops : List (List ℕ)) (taken : ℕ) (cores : List Submitter) (q : Queued) (qs : List Queued) (told : List Labelled) (i : ℕ)
      (s : Submitter) → slice_get cores i ≡ Some s → can_submit s.client.state.requests ≡ true
      → P ops (record { cores = cores; queue = q ∷ qs; taken = taken }) told
      → P ops (record { cores = slice_set cores i (submits s q); queue = qs; taken = taken }) (told ++ submit_tells i s q)

module _ (P : List (List ℕ) → DeskState → List Labelled → Type 0) (keeps : Keeps P) where
  filled_keeps : (ops : List (List ℕ)) (d : DeskState) (told : List Labelled) → P ops d told → P ops (filled d).0 (told ++ (filled d).1)
  filled_keeps ops d told h =
      fill_keeps (λ cores queue ts. P ops (record { cores = cores; queue = queue; taken = d.taken }) ts)
      (λ cores q qs ts i s at may h. keeps.on_submit ops d.taken cores q qs ts i s at may h) d.queue d.cores told h

  -- an input comes to the core, if there is one
  came_keeps : (ops : List (List ℕ)) (d : DeskState) (told : List Labelled) (i : ℕ) (x : Given) (o : Option Submitter) → slice_get d.cores i ≡ o
      → P ops d told
      → P ops (record d { cores = changed_if o i d.cores (λ s. takes s x) }) (told ++ told_if o (λ s. tells i s x))
  came_keeps ops d told i x None e h = subst (λ (ts : List Labelled). P ops d ts) (sym (append-nil told)) h
  came_keeps ops d told i x (Some s) e h = keeps.on_come ops d told i s x e h

  pub step_keeps : (ops : List (List ℕ)) (d : DeskState) (told : List Labelled) (e : Event) → P ops d told
      → P (ops ++ op_in e) (next d e).0 (told ++ (next d e).1)
  step_keeps ops d told (Take op) h = filled_keeps (ops ++ op ∷ []) (queued d op) told (keeps.on_take ops d told op h)
  step_keeps ops d told (Leave t) h =
      subst (λ (ts : List Labelled). P (ops ++ []) (left d t) ts) (sym (append-nil told))
      (subst (λ (os : List (List ℕ)). P os (left d t) told) (sym (append-nil ops)) (keeps.on_leave ops d told t h))
  step_keeps ops d told (Comes i x) h =
      let mine = told_at i d.cores (λ s. tells i s x) in
      let moved : DeskState = record d { cores = changed_at i d.cores (λ s. takes s x) } in
      let came = filled_keeps ops moved (told ++ mine) (came_keeps ops d told i x (slice_get d.cores i) refl h) in
      subst (λ (os : List (List ℕ)). P os (filled moved).0 (told ++ (mine ++ (filled moved).1))) (sym (append-nil ops))
      (subst (λ (ts : List Labelled). P ops (filled moved).0 ts) (append_assoc told mine (filled moved).1) came)

  pub run_keeps : (es : List Event) (ops : List (List ℕ)) (d : DeskState) (told : List Labelled) → P ops d told
      → P (ops ++ ops_of es) (after d es) (told ++ gave d es)
  run_keeps [] ops d told h =
      subst (λ (ts : List Labelled). P (ops ++ []) d ts) (sym (append-nil told))
      (subst (λ (os : List (List ℕ)). P os d told) (sym (append-nil ops)) h)
  run_keeps (e ∷ es) ops d told h =
      let d1 = (next d e).0 in
      let more = run_keeps es (ops ++ op_in e) d1 (told ++ (next d e).1) (step_keeps ops d told e h) in
      subst (λ (os : List (List ℕ)). P os (after d1 es) (told ++ ((next d e).1 ++ gave d1 es))) (append_assoc ops (op_in e) (ops_of es))
      (subst (λ (ts : List Labelled). P ((ops ++ op_in e) ++ ops_of es) (after d1 es) ts)
      (append_assoc told (next d e).1 (gave d1 es)) more)
