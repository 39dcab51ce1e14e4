-- One turn of submitting ops.
use Rattle.std.proofs.Common.{append-nil, ◌≡◌, ℕ, suc, ◌+◌, ◌-◌, ◌<◌, List, [], ◌∷◌, ◌++◌, Option, Some, None, refl, sym, ap, ◌∙◌, arith, append_assoc, length}
use Rattle.nop_types.specs.Configuration.{Configuration}
use Rattle.desk.specs.Desks.{Filled, after_first, changed_at, cores_from, fill, fill_if, freest, first_queued, told_at, with_told}
use Rattle.desk.specs.Submitters.{opening, submits, submit_tells}
use Rattle.desk.specs.declared.submitter.Labelled.{Labelled}
use Rattle.desk.specs.declared.submitter.Queued.{Queued}
use Rattle.desk.specs.declared.submitter.Submitter.{Submitter}

-- no core takes an op
pub fill_stuck : (cores : List Submitter) (queue : List Queued) → freest cores ≡ None
    → fill cores queue ≡ record { cores = cores; queue = queue; told = [] }
fill_stuck cores [] e = refl
fill_stuck cores (q ∷ qs) e =
    ap (λ (o : Option ℕ). fill_if o (record { cores = cores; queue = q ∷ qs; told = [] })
    (λ i. with_told (told_at i cores (λ s. submit_tells i s q)) (fill (changed_at i cores (λ s. submits s q)) qs))) e

-- no op waits
pub fill_none : (cores : List Submitter) (queue : List Queued) → first_queued queue ≡ None
    → fill cores queue ≡ record { cores = cores; queue = after_first queue; told = [] }
fill_none cores [] e = refl
fill_none cores (q ∷ qs) e = absurd cc

-- one is submitted
pub fill_goes : (cores : List Submitter) (queue : List Queued) (i : ℕ) (q : Queued) → freest cores ≡ Some i → first_queued queue ≡ Some q
    → fill cores queue
    ≡ with_told (told_at i cores (λ s. submit_tells i s q)) (fill (changed_at i cores (λ s. submits s q)) (after_first queue))
fill_goes cores [] i q e f = absurd cc
fill_goes cores (p ∷ qs) i q e f =
    let same : p ≡ q = cc in
    ap (λ (o : Option ℕ). fill_if o (record { cores = cores; queue = p ∷ qs; told = [] })
    (λ k. with_told (told_at k cores (λ s. submit_tells k s p)) (fill (changed_at k cores (λ s. submits s p)) qs))) e
    ∙ ap (λ (r : Queued). with_told (told_at i cores (λ s. submit_tells i s r)) (fill (changed_at i cores (λ s. submits s r)) qs)) same

pub one_fewer : (queue : List Queued) (q : Queued) → first_queued queue ≡ Some q → length (after_first queue) < length queue
one_fewer [] q e = absurd cc
one_fewer (p ∷ qs) q e = omega arith

-- ---- cores that are made one after the other

cores_at : (config : Configuration) (n m first following : ℕ) → n ≡ suc m → first + 1 ≡ following
    → cores_from config first n ≡ opening config first ∷ cores_from config following m
cores_at config n m first following e f =
    ap (λ (k : ℕ). cores_from config first k) e ∙ ap (λ (k : ℕ). opening config first ∷ cores_from config k m) f

pub one_made : (config : Configuration) (first count i : ℕ) (made : List Submitter) → i < count
    → (made ++ opening config (first + i) ∷ []) ++ cores_from config (first + (i + 1)) (count - (i + 1))
    ≡ made ++ cores_from config (first + i) (count - i)
one_made config first count i made l =
    append_assoc made (opening config (first + i) ∷ []) (cores_from config (first + (i + 1)) (count - (i + 1)))
    ∙ ap (λ (cs : List Submitter). made ++ cs)
    (sym (cores_at config (count - i) (count - (i + 1)) (first + i) (first + (i + 1)) (omega (arith, l)) (omega arith)))

-- ---- nothing is told where nothing is submitted

pub stuck_tells_none : (told : List Labelled) (cores : List Submitter) (queue : List Queued) → freest cores ≡ None
    → told ≡ told ++ (fill cores queue).told
stuck_tells_none told cores queue e =
    sym (ap (λ (f : Filled). told ++ f.told) (fill_stuck cores queue e) ∙ append-nil told)

pub none_tells_none : (told : List Labelled) (cores : List Submitter) (queue : List Queued) → first_queued queue ≡ None
    → told ≡ told ++ (fill cores queue).told
none_tells_none told cores queue e =
    sym (ap (λ (f : Filled). told ++ f.told) (fill_none cores queue e) ∙ append-nil told)
