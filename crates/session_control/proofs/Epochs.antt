-- Epochs and counts: the next session is the controller's own, and above all before.
use Rattle.std.proofs.Common.{◌≡◌, ℕ, zero, suc, ◌+◌, ◌*◌, ◌/◌, ◌%◌, ◌^◌, ◌<◌, ◌≤◌, Bool, true, false, cond, Some, None, refl, sym, ap, ◌∙◌}
use Rattle.std.proofs.Common.{arith}
use Rattle.std.specs.Prelude.{nat_lt}
use Rattle.std.proofs.lemmas.Bool.{ltb-true, ltb-false}
use Rattle.nop_types.specs.declared.limits.TheConstants.{MAX_CONTROLLERS, EPOCH_STEP}
use Rattle.nop_types.specs.Ranges.{SessionFits}
use Rattle.nop_types.specs.Sessions.{epoch, count, session_of, home, opening_session}
use Rattle.session_control.specs.ControllerSteps.{last_number, epoch_above, first_of, counted_on, next_session}

pub above : (e j : ℕ) → e < epoch_above e j
above e j = omega arith

pub own : (e j : ℕ) → j < EPOCH_STEP → epoch_above e j % EPOCH_STEP ≡ j
own e j l = omega (arith, l)

pub least : (e j d : ℕ) → j < EPOCH_STEP → e < d → d % EPOCH_STEP ≡ j → epoch_above e j ≤ d
least e j d l m h = omega (arith, l, m, h)

epoch_of : (e c : ℕ) → c < 4294967296 → (e * 4294967296 + c) / 4294967296 ≡ e
epoch_of e c l = omega (arith, l)

pub opens_at_home : (j : ℕ) → j < MAX_CONTROLLERS → home (opening_session j) ≡ j
opens_at_home zero l = refl
opens_at_home (suc j) l = ap (λ (t : ℕ). t % 4) (epoch_of (suc j) 0 (omega arith)) ∙ omega (arith, l)

pub opens_fits : (j : ℕ) → j < MAX_CONTROLLERS → SessionFits (opening_session j)
opens_fits zero l = record { low = omega arith; high = omega arith }
opens_fits (suc j) l = record { low = omega arith; high = omega (arith, l) }

pub opens_above : (j : ℕ) → 0 < opening_session j
opens_above zero = omega arith
opens_above (suc j) = omega arith

-- ---- the three ways on

pub first_is : (e next : ℕ) → first_of e ≡ Some next → (next ≡ e * 4294967296 + 1) × (e < 4294967296)
first_is e next h = here (nat_lt e 4294967296) refl h
  where
    here : (b : Bool) → nat_lt e 4294967296 ≡ b → cond b (Some (session_of e 1)) None ≡ Some next
        → (next ≡ e * 4294967296 + 1) × (e < 4294967296)
    here true t g = let s : session_of e 1 ≡ next = cc in (sym s, ltb-true e 4294967296 t)
    here false t g = absurd cc

first_home : (e next : ℕ) → first_of e ≡ Some next → home next ≡ e % 4
first_home e next h = let s = first_is e next h in ap home (s.0) ∙ ap (λ (t : ℕ). t % 4) (epoch_of e 1 (omega arith))

-- above what was seen, one count on, or the next own epoch
data Way (j session seen next : ℕ) : Type 0 where
  Fresh : session < seen → first_of (epoch_above (epoch seen) j) ≡ Some next → Way j session seen next
  Counts : seen ≤ session → session % 4294967296 < 4294967295 → next ≡ session + 1 → Way j session seen next
  Later : seen ≤ session → 4294967295 ≤ session % 4294967296 → first_of (epoch session + 4) ≡ Some next → Way j session seen next

way : (j session seen next : ℕ) → next_session j session seen ≡ Some next → Way j session seen next
way j session seen next h = here (nat_lt session seen) (nat_lt (count session) 4294967295) refl refl h
  where
    here : (b c : Bool) → nat_lt session seen ≡ b → nat_lt (count session) 4294967295 ≡ c
        → cond b (first_of (epoch_above (epoch seen) j)) (cond c (Some (session + 1)) (first_of (epoch session + 4))) ≡ Some next
        → Way j session seen next
    here true c s t g = Fresh (ltb-true session seen s) g
    here false true s t g =
        let e : session + 1 ≡ next = cc in Counts (ltb-false session seen s) (ltb-true (count session) 4294967295 t) (sym e)
    here false false s t g = Later (ltb-false session seen s) (ltb-false (count session) 4294967295 t) g

pub goes_home : (j session seen next : ℕ) → j < MAX_CONTROLLERS → home session ≡ j → next_session j session seen ≡ Some next
    → home next ≡ j
goes_home j session seen next l own_home h = here (way j session seen next h)
  where
    here : Way j session seen next → home next ≡ j
    here (Fresh s g) = first_home (epoch_above (epoch seen) j) next g ∙ own (epoch seen) j l
    here (Counts s t e) = omega (arith, own_home, t, e)
    here (Later s t g) = first_home (epoch session + 4) next g ∙ omega (arith, own_home)

pub rises : (j session seen next : ℕ) → next_session j session seen ≡ Some next → (session < next) × (seen < next)
rises j session seen next h = here (way j session seen next h)
  where
    here : Way j session seen next → (session < next) × (seen < next)
    here (Fresh s g) =
        let f = first_is (epoch_above (epoch seen) j) next g in
        let up = above (epoch seen) j in
        let far : seen < next = omega (arith, f.0, up) in
        (omega (arith, s, far), far)
    here (Counts s t e) = (omega (arith, e), omega (arith, s, e))
    here (Later s t g) =
        let f = first_is (epoch session + 4) next g in
        let far : session < next = omega (arith, f.0) in
        (far, omega (arith, s, far))

pub fits : (j session seen next : ℕ) → session < 2 ^ 64 → next_session j session seen ≡ Some next → next < 2 ^ 64
fits j session seen next l h = here (way j session seen next h)
  where
    here : Way j session seen next → next < 2 ^ 64
    here (Fresh s g) = let f = first_is (epoch_above (epoch seen) j) next g in omega (arith, f.0, f.1)
    here (Counts s t e) = omega (arith, l, t, e)
    here (Later s t g) = let f = first_is (epoch session + 4) next g in omega (arith, f.0, f.1)

-- ---- where epochs end

none_first : (e : ℕ) → 4294967296 ≤ e → first_of e ≡ None
none_first e far = here (nat_lt e 4294967296) refl
  where
    here : (b : Bool) → nat_lt e 4294967296 ≡ b → cond b (Some (session_of e 1)) None ≡ None
    here true t = absurd (let low = ltb-true e 4294967296 t in omega (arith, low, far))
    here false t = refl

pub none_above : (j session seen : ℕ) → session < seen → 4294967296 ≤ epoch_above (epoch seen) j → next_session j session seen ≡ None
none_above j session seen less far = here (nat_lt session seen) refl
  where
    here : (b : Bool) → nat_lt session seen ≡ b → cond b (first_of (epoch_above (epoch seen) j)) (counted_on session) ≡ None
    here true t = none_first (epoch_above (epoch seen) j) far
    here false t = absurd (let low = ltb-false session seen t in omega (arith, low, less))

pub none_after : (j session seen : ℕ) → seen ≤ session → count session ≡ last_number → 4294967296 ≤ epoch session + 4
    → next_session j session seen ≡ None
none_after j session seen low last far = here (nat_lt session seen) (nat_lt (count session) 4294967295) refl refl
  where
    here : (b c : Bool) → nat_lt session seen ≡ b → nat_lt (count session) 4294967295 ≡ c
        → cond b (first_of (epoch_above (epoch seen) j)) (cond c (Some (session + 1)) (first_of (epoch session + 4))) ≡ None
    here true c t u = absurd (let less = ltb-true session seen t in omega (arith, low, less))
    here false true t u = absurd (let less = ltb-true (count session) 4294967295 u in omega (arith, last, less))
    here false false t u = none_first (epoch session + 4) far
