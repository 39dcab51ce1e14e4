-- What holds of each value that an option may have.
use Rattle.std.proofs.Common.{◌≡◌, Bool, true, false, Option, Some, None, refl, subst}
use Rattle.std.specs.Prelude.{option_map, if◌then◌else◌}
use Rattle.trace_rows.specs.Reading.{◌>>=◌}

pub record Each {A : Type 0} (P : A → Type 0) (o : Option A) : Type 0 where
  pub holds : (x : A) → o ≡ Some x → P x

module _ {A : Type 0} (P : A → Type 0) where
  pub each_none : Each P None
  each_none = record { holds = λ x e. absurd cc }

  pub each_some : (x : A) → P x → Each P (Some x)
  each_some x h = record { holds = λ y e. let same : x ≡ y = cc in subst P same h }

  pub each_if : (b : Bool) (o p : Option A) → Each P o → Each P p → Each P (if b then o else p)
  each_if true o p h k = h
  each_if false o p h k = k

  -- where the test is known in each case
  pub each_where : (b : Bool) (o p : Option A) → (b ≡ true → Each P o) → Each P p → Each P (if b then o else p)
  each_where true o p h k = h refl
  each_where false o p h k = k

pub each_map : {A B : Type 0} (P : A → Type 0) (Q : B → Type 0) (f : A → B) (o : Option A) → ((x : A) → P x → Q (f x)) → Each P o
    → Each Q (option_map f o)
each_map P Q f None go h = each_none Q
each_map P Q f (Some x) go h = each_some Q (f x) (go x (h.holds x refl))

pub each_then : {A B : Type 0} (P : A → Type 0) (Q : B → Type 0) (o : Option A) (f : A → Option B) → ((x : A) → P x → Each Q (f x))
    → Each P o → Each Q (o >>= f)
each_then P Q None f go h = each_none Q
each_then P Q (Some x) f go h = go x (h.holds x refl)
