-- Proofs: nothing here has to be believed.
-- Which place a look-up finds.
use Rattle.std.proofs.Common.{◌≡◌, ℕ, zero, suc, ◌≤◌, Bool, true, false, cond, List, [], ◌∷◌, length, slice_get, Option, Some, None}
use Rattle.std.proofs.Common.{refl, sym, subst, ◌∙◌, true≢false, arith, ltb-true, ltb-false}
use Rattle.std.specs.Prelude.{nat_lt, position, ◌||◌}
use Rattle.std.specs.Option.{option_map, option_and_then, option_flatten}
use Rattle.std.specs.List.{find, list_any, position_or_len}
use Rattle.std.proofs.lemmas.List.Folds.{find_at}
use Rattle.std.proofs.lemmas.Option.{none-some, same_Some, slice_get_past}
use Rattle.lock_host.specs.declared.lock.Lock.{Lock}
use Rattle.lock_host.specs.Locks.{Places, is_same, is_free, is_named, found}

passes_by : {X : Type 0} (p : X → Bool) (y x : X) (rest : Option X) (b : Bool) → p y ≡ b → (rest ≡ Some x → p x ≡ true)
    → cond b (Some y) rest ≡ Some x → p x ≡ true
passes_by p y x rest true t h e = subst (λ (z : _). p z ≡ true) (same_Some y x e) t
passes_by p y x rest false t h e = h e

find_passes : {X : Type 0} (p : X → Bool) (xs : List X) (x : X) → find p xs ≡ Some x → p x ≡ true
find_passes p [] x e = absurd (none-some x e)
find_passes p (y ∷ ys) x e = passes_by p y x (find p ys) (p y) refl (find_passes p ys x) e

none_by : {X : Type 0} (y : X) (rest : Option X) (b c : Bool) → (rest ≡ None → c ≡ false) → cond b (Some y) rest ≡ None → (b || c) ≡ false
none_by y rest true c h e = absurd (none-some y (sym e))
none_by y rest false c h e = h e

find_none : {X : Type 0} (p : X → Bool) (xs : List X) → find p xs ≡ None → list_any p xs ≡ false
find_none p [] e = refl
find_none p (y ∷ ys) e = none_by y (find p ys) (p y) (list_any p ys) (find_none p ys) e

get_none : {X : Type 0} (xs : List X) (i : ℕ) → slice_get xs i ≡ None → length xs ≤ i
get_none [] i e = omega arith
get_none (x ∷ xs) zero e = absurd (none-some x (sym e))
get_none (x ∷ xs) (suc i) e = let h = get_none xs i e in omega (arith, h)

-- at the place stands an element that passes; or no element passes
abbrev pub IsFirst : {X : Type 0} → (X → Bool) → List X → Option ℕ → Type 0
IsFirst p xs None = list_any p xs ≡ false
IsFirst {X} p xs (Some i) = (x : X) × (slice_get xs i ≡ Some x) × (p x ≡ true)

first_by : {X : Type 0} (p : X → Bool) (xs : List X) (b : Bool) (o : Option X) → nat_lt (position_or_len p xs) (length xs) ≡ b
    → slice_get xs (position_or_len p xs) ≡ o → IsFirst p xs (cond b (Some (position_or_len p xs)) None)
first_by p xs true (Some x) e at = (x, at, find_passes p xs x (find_at p xs ∙ at))
first_by p xs true None e at =
    let past = get_none xs (position_or_len p xs) at in
    let within = ltb-true (position_or_len p xs) (length xs) e in
    absurd (omega (arith, past, within))
first_by p xs false o e at =
    find_none p xs
    (find_at p xs ∙ slice_get_past xs (position_or_len p xs) (ltb-false (position_or_len p xs) (length xs) e))

pub position_is : {X : Type 0} (p : X → Bool) (xs : List X) → IsFirst p xs (position p xs)
position_is p xs = first_by p xs _ _ refl refl

-- the lock that is found stands at its place, and has the name; or no lock has it
abbrev pub IsFound : Places → List ℕ → Option (ℕ × Lock) → Type 0
IsFound places name None = list_any (is_named name) places ≡ false
IsFound places name (Some p) = (slice_get places p.0 ≡ Some (Some p.1)) × (is_same p.1.name name ≡ true)

at_place : (places : Places) (name : List ℕ) (i : ℕ) (x : Option Lock) → slice_get places i ≡ Some x → is_named name x ≡ true
    → IsFound places name (option_map (λ lock. (i, lock)) (option_flatten (Some x)))
at_place places name i None at e = absurd (true≢false (sym e))
at_place places name i (Some lock) at e = (at, e)

from_first : (places : Places) (name : List ℕ) (o : Option ℕ) → IsFirst (is_named name) places o
    → IsFound places name (option_and_then (λ i. option_map (λ lock. (i, lock)) (option_flatten (slice_get places i))) o)
from_first places name None h = h
from_first places name (Some i) h =
    subst (λ (o : Option (Option Lock)). IsFound places name (option_map (λ lock. (i, lock)) (option_flatten o))) (sym h.1)
    (at_place places name i h.0 h.1 h.2)

pub found_is : (places : Places) (name : List ℕ) → IsFound places name (found places name)
found_is places name = from_first places name (position (is_named name) places) (position_is (is_named name) places)

-- the place is there, and free; or there is none
abbrev pub IsFree : Places → Option ℕ → Type 0
IsFree places None = list_any is_free places ≡ false
IsFree places (Some i) = slice_get places i ≡ Some None

is_none : (places : Places) (i : ℕ) (x : Option Lock) → slice_get places i ≡ Some x → is_free x ≡ true → slice_get places i ≡ Some None
is_none places i None at e = at
is_none places i (Some lock) at e = absurd (true≢false (sym e))

free_from : (places : Places) (o : Option ℕ) → IsFirst is_free places o → IsFree places o
free_from places None h = h
free_from places (Some i) h = is_none places i h.0 h.1 h.2

pub free_is : (places : Places) → IsFree places (position is_free places)
free_is places = free_from places (position is_free places) (position_is is_free places)
