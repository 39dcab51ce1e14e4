-- Members of lists.
use Rattle.std.proofs.Common.{◌≡◌, zero, suc, ◌+◌, Bool, true, false, cond, List, [], ◌∷◌, ◌++◌, length, Some, refl, sym, ap, subst, ◌∙◌}
use Rattle.std.proofs.Common.{inl, inr}
use Rattle.std.specs.Prelude.{◌⊎◌, filter, find}
use Rattle.nop_types.specs.Lists.{Has}
use Rattle.lemmas.proofs.Places.{slice_get-append_left, slice_get-append_right, slice_get-append_cases}

-- ---- the first, and the rest

pub Has-first : {A : Type 0} (x y : A) (ys : List A) → x ≡ y → Has (y ∷ ys) x
Has-first x y ys e = (0, ap (λ t. Some t) (sym e))

pub Has-rest : {A : Type 0} (x y : A) (ys : List A) → Has ys x → Has (y ∷ ys) x
Has-rest x y ys h = (suc h.0, h.1)

pub Has-none : {A : Type 0} (x : A) → Has [] x → ⊥
Has-none x (i, e) = cc

pub Has-cases : {A : Type 0} (x y : A) (ys : List A) → Has (y ∷ ys) x → (x ≡ y) ⊎ Has ys x
Has-cases x y ys (zero, e) = inl cc
Has-cases x y ys (suc i, e) = inr (i, e)

-- the only member of a list of one
pub Has-one : {A : Type 0} (x y : A) → Has (y ∷ []) x → x ≡ y
Has-one x y (zero, e) = cc
Has-one x y (suc i, e) = absurd cc

-- ---- two lists joined

pub Has-append_left : {A : Type 0} (xs ys : List A) (x : A) → Has xs x → Has (xs ++ ys) x
Has-append_left xs ys x h = (h.0, slice_get-append_left xs ys h.0 x h.1)

pub Has-append_right : {A : Type 0} (xs ys : List A) (x : A) → Has ys x → Has (xs ++ ys) x
Has-append_right xs ys x h = (length xs + h.0, slice_get-append_right xs ys h.0 ∙ h.1)

pub Has-append_cases : {A : Type 0} (xs ys : List A) (x : A) → Has (xs ++ ys) x → Has xs x ⊎ Has ys x
Has-append_cases xs ys x h = elim (slice_get-append_cases xs ys h.0 x h.1) [
  | inl l ↦ inl (h.0, l.1)
  | inr r ↦ inr (r.0, r.2)
]

pub Has-push : {A : Type 0} (xs : List A) (x : A) → Has (xs ++ x ∷ []) x
Has-push xs x = Has-append_right xs (x ∷ []) x (zero, refl)

pub Has-push_cases : {A : Type 0} (xs : List A) (y x : A) → Has (xs ++ y ∷ []) x → Has xs x ⊎ (y ≡ x)
Has-push_cases xs y x h = elim (Has-append_cases xs (y ∷ []) x h) [
  | inl l ↦ inl l
  | inr r ↦ inr (sym (Has-one x y r))
]

-- ---- those of which a test holds

filter_keeps : {A : Type 0} (p : A → Bool) (x y : A) (ys : List A) (b : Bool) → p y ≡ b → p x ≡ true
    → (x ≡ y) ⊎ Has (filter p ys) x → Has (cond b (y ∷ filter p ys) (filter p ys)) x
filter_keeps p x y ys true t e (inl g) = Has-first x y (filter p ys) g
filter_keeps p x y ys true t e (inr g) = Has-rest x y (filter p ys) g
filter_keeps p x y ys false t e (inl g) = absurd (let same : p x ≡ p y = ap p g in cc)
filter_keeps p x y ys false t e (inr g) = g

-- a member that passes is kept
pub Has-filter : {A : Type 0} (p : A → Bool) (x : A) (xs : List A) → Has xs x → p x ≡ true → Has (filter p xs) x
Has-filter p x [] h e = absurd (Has-none x h)
Has-filter p x (y ∷ ys) h e =
    elim (Has-cases x y ys h) [
      | inl g ↦ filter_keeps p x y ys (p y) refl e (inl g)
      | inr g ↦ filter_keeps p x y ys (p y) refl e (inr (Has-filter p x ys g e))
    ]

filter_kept : {A : Type 0} (p : A → Bool) (x y : A) (ys : List A) (b : Bool) → p y ≡ b → (Has (filter p ys) x → Has ys x × (p x ≡ true))
    → Has (cond b (y ∷ filter p ys) (filter p ys)) x → Has (y ∷ ys) x × (p x ≡ true)
filter_kept p x y ys true t rest h =
    elim (Has-cases x y (filter p ys) h) [
      | inl g ↦ (Has-first x y ys g, ap p g ∙ t)
      | inr g ↦ let r = rest g in (Has-rest x y ys r.0, r.1)
    ]
filter_kept p x y ys false t rest h = let r = rest h in (Has-rest x y ys r.0, r.1)

-- what is kept is a member that passes
pub Has-from_filter : {A : Type 0} (p : A → Bool) (x : A) (xs : List A) → Has (filter p xs) x → Has xs x × (p x ≡ true)
Has-from_filter p x [] h = absurd (Has-none x h)
Has-from_filter p x (y ∷ ys) h = filter_kept p x y ys (p y) refl (λ g. Has-from_filter p x ys g) h

found_at : {A : Type 0} (g : A → Bool) (x y : A) (xs : List A) (b : Bool) → g x ≡ b → (find g xs ≡ Some y → Has xs y × (g y ≡ true))
    → cond b (Some x) (find g xs) ≡ Some y → Has (x ∷ xs) y × (g y ≡ true)
found_at g x y xs true t rest e = let same : x ≡ y = cc in (Has-first y x xs (sym same), subst (λ z. g z ≡ true) same t)
found_at g x y xs false t rest e = let h = rest e in (Has-rest y x xs h.0, h.1)

-- what is found is a member that passes
pub Has-from_find : {A : Type 0} (g : A → Bool) (xs : List A) (y : A) → find g xs ≡ Some y → Has xs y × (g y ≡ true)
Has-from_find g [] y e = absurd cc
Has-from_find g (x ∷ xs) y e = found_at g x y xs (g x) refl (Has-from_find g xs y) e

finds_at : {A : Type 0} (g : A → Bool) (x : A) (xs : List A) (b : Bool)
    → (z : A) × (find g xs ≡ Some z) → (z : A) × (cond b (Some x) (find g xs) ≡ Some z)
finds_at g x xs true h = (x, refl)
finds_at g x xs false h = h

-- where a member passes, one is found
pub find-some : {A : Type 0} (g : A → Bool) (xs : List A) (y : A) → Has xs y → g y ≡ true → (z : A) × (find g xs ≡ Some z)
find-some g [] y has t = absurd (Has-none y has)
find-some g (x ∷ xs) y h t =
    elim (Has-cases y x xs h) [
      | inl e ↦ (x, ap (λ (b : Bool). cond b (Some x) (find g xs)) (ap g (sym e) ∙ t))
      | inr r ↦ finds_at g x xs (g x) (find-some g xs y r t)
    ]
