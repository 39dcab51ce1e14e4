-- Proofs: nothing here has to be believed.
-- What a write to a place keeps.
use Rattle.std.proofs.Common.{◌≡◌, ℕ, zero, suc, ◌<◌, ◌≤◌, Bool, false, List, [], ◌∷◌, ◌++◌, slice_get, slice_set}
use Rattle.std.proofs.Common.{Option, Some, None, refl, sym, ap, subst, ◌∙◌, arith}
use Rattle.std.specs.Prelude.{◌==◌}
use Rattle.std.specs.List.{list_any}
use Rattle.std.proofs.lemmas.Bool.Decides.{nat_tests}
use Rattle.std.proofs.lemmas.Cmp.{nat_list_eq_equiv, nat_eq_equiv}
use Rattle.std.proofs.lemmas.Option.{none-some, same_Some}
use Rattle.std.proofs.lemmas.Bool.{or_parts}
use Rattle.lock_host.specs.declared.lock.Lock.{Lock}
use Rattle.lock_host.specs.Locks.{Places, is_same, is_named}
use Rattle.lock_host.specs.Saved.{clashes}
use Rattle.lock_host.specs.Service.{PlaceFits, PlacesFit, IsApart, AreApart}

-- ---- lists

pub set_back : {X : Type 0} (xs : List X) (i : ℕ) (x y : X) → slice_get xs i ≡ Some x → slice_set (slice_set xs i y) i x ≡ xs
set_back [] i x y e = absurd (none-some x e)
set_back (z ∷ zs) zero x y e = ap (λ (k : _). k ∷ zs) (sym (same_Some z x e))
set_back (z ∷ zs) (suc i) x y e = ap (λ (k : _). z ∷ k) (set_back zs i x y e)

set_none : {X : Type 0} (t : X → Bool) (xs : List X) (i : ℕ) (x : X) → list_any t xs ≡ false → t x ≡ false
    → list_any t (slice_set xs i x) ≡ false
set_none t [] i x h k = refl
set_none t (y ∷ ys) zero x h k = rw k ((or_parts (t y) (list_any t ys) h).1)
set_none t (y ∷ ys) (suc i) x h k =
    let both = or_parts (t y) (list_any t ys) h in
    rw both.0 (set_none t ys i x both.1 k)

add_none : {X : Type 0} (t : X → Bool) (xs : List X) (x : X) → list_any t xs ≡ false → t x ≡ false → list_any t (xs ++ x ∷ []) ≡ false
add_none t [] x h k = rw k refl
add_none t (y ∷ ys) x h k =
    let both = or_parts (t y) (list_any t ys) h in
    rw both.0 (add_none t ys x both.1 k)

-- ---- what fits

pub fits_get : (last : ℕ) (places : Places) (i : ℕ) (p : Option Lock) → PlacesFit last places → slice_get places i ≡ Some p → PlaceFits last p
fits_get last [] i p h e = absurd (none-some p e)
fits_get last (q ∷ places) zero p h e = subst (PlaceFits last) (same_Some q p e) h.0
fits_get last (q ∷ places) (suc i) p h e = fits_get last places i p h.1 e

pub fits_set : (last : ℕ) (places : Places) (i : ℕ) (p : Option Lock) → PlacesFit last places → PlaceFits last p
    → PlacesFit last (slice_set places i p)
fits_set last [] i p h k = tt
fits_set last (q ∷ places) zero p h k = (k, h.1)
fits_set last (q ∷ places) (suc i) p h k = (h.0, fits_set last places i p h.1 k)

pub fits_add : (last : ℕ) (places : Places) (p : Option Lock) → PlacesFit last places → PlaceFits last p → PlacesFit last (places ++ p ∷ [])
fits_add last [] p h k = (k, tt)
fits_add last (q ∷ places) p h k = (h.0, fits_add last places p h.1 k)

fits_later : (last later : ℕ) (p : Option Lock) → last ≤ later → PlaceFits last p → PlaceFits later p
fits_later last later None le h = tt
fits_later last later (Some lock) le h = record {
  name = h.name;
  owner = h.owner;
  least = h.least;
  most = omega (arith, h.most, le);
}

pub all_later : (last later : ℕ) (places : Places) → last ≤ later → PlacesFit last places → PlacesFit later places
all_later last later [] le h = tt
all_later last later (p ∷ places) le h = (fits_later last later p le h.0, all_later last later places le h.1)

-- ---- locks that are apart

pub clashes_back : (a b : Lock) → clashes a (Some b) ≡ clashes b (Some a)
clashes_back a b = rw (nat_list_eq_equiv.symm b.name a.name, nat_eq_equiv.symm b.token a.token) refl

-- a lock with a name that no other has, and with a new token, clashes with none
pub new_lock : (last : ℕ) (places : Places) (name owner : List ℕ) (token : ℕ) → PlacesFit last places
    → list_any (is_named name) places ≡ false → last < token
    → list_any (clashes (record { name = name; owner = owner; token = token })) places ≡ false
new_lock last [] name owner token h k lt = refl
new_lock last (None ∷ places) name owner token h k lt = new_lock last places name owner token h.1 k lt
new_lock last (Some lock ∷ places) name owner token h k lt =
    let both = or_parts (is_same lock.name name) (list_any (is_named name) places) k in
    let most = h.0.most in
    let other : lock.token == token ≡ false = grind (arith, nat_tests, most, lt) in
    rw (both.0, other) (new_lock last places name owner token h.1 both.1 lt)

apart_tail : (p q : Option Lock) (places : Places) → IsApart p (q ∷ places) → IsApart p places
apart_tail None q places h = tt
apart_tail (Some lock) q places h = (or_parts (clashes lock q) (list_any (clashes lock) places) h).1

apart_head : (p q : Option Lock) (places : Places) (other : Lock) → IsApart p (Some other ∷ places) → clashes other p ≡ false
apart_head None q places other h = refl
apart_head (Some lock) q places other h =
    clashes_back other lock ∙ (or_parts (clashes lock (Some other)) (list_any (clashes lock) places) h).0

stays_apart : (p q : Option Lock) (places : Places) (i : ℕ) → IsApart p (q ∷ places) → IsApart q places → IsApart q (slice_set places i p)
stays_apart p None places i h k = tt
stays_apart p (Some other) places i h k = set_none (clashes other) places i p k (apart_head p None places other h)

pub apart_set : (places : Places) (i : ℕ) (p : Option Lock) → AreApart places → IsApart p places → AreApart (slice_set places i p)
apart_set [] i p h k = tt
apart_set (q ∷ places) zero p h k = (apart_tail p q places k, h.1)
apart_set (q ∷ places) (suc i) p h k = (stays_apart p q places i k h.0, apart_set places i p h.1 (apart_tail p q places k))

added_apart : (p q : Option Lock) (places : Places) → IsApart p (q ∷ places) → IsApart q places → IsApart q (places ++ p ∷ [])
added_apart p None places h k = tt
added_apart p (Some other) places h k = add_none (clashes other) places p k (apart_head p None places other h)

pub none_apart : (p : Option Lock) → IsApart p []
none_apart None = tt
none_apart (Some lock) = refl

pub apart_add : (places : Places) (p : Option Lock) → AreApart places → IsApart p places → AreApart (places ++ p ∷ [])
apart_add [] p h k = (none_apart p, tt)
apart_add (q ∷ places) p h k = (added_apart p q places k h.0, apart_add places p h.1 (apart_tail p q places k))
