-- How many of some keys have a value, after a write.
use Rattle.std.proofs.Common.{◌≡◌, ℕ, suc, ◌+◌, ◌<◌, ◌≤◌, Bool, true, false, cond, List, [], ◌∷◌, length, Option, Some, None, is_some, refl, sym, ap, ◌∙◌, arith, inl, inr}
use Rattle.std.specs.Ordering.{nat_cmp, eq_by_cmp}
use Rattle.std.specs.Cmp.Lexicographic.{slice_cmp, bytes_decides, texts_ties, nat_list_cmp_total}
use Rattle.std.specs.FinMap as finite
use Rattle.lemmas.proofs.Members.{Has-cases}
use Rattle.kv_host.specs.Values.{Kv}
use Rattle.fronts.specs.Parts.{AreDistinct}
use Rattle.kv_parts.specs.Keys.{one_of, count_in}
use Rattle.nop_types.specs.Lists.{Has}

same_key : (a b : List ℕ) → eq_by_cmp (slice_cmp nat_cmp) a b ≡ true → a ≡ b
same_key a b e = (bytes_decides a b).0 (texts_ties a b ∙ e)

is_same_key : (a b : List ℕ) → a ≡ b → eq_by_cmp (slice_cmp nat_cmp) a b ≡ true
is_same_key a b e = sym (texts_ties a b) ∙ (bytes_decides a b).1 e

-- ---- what a write at a key does to another

held_after : (b : Bool) (v : List ℕ) (o : Option (List ℕ)) → is_some (cond b (Some v) o) ≡ cond b true (is_some o)
held_after true v o = refl
held_after false v o = refl

gone_after : (b : Bool) (o : Option (List ℕ)) → is_some (cond b None o) ≡ cond b false (is_some o)
gone_after true o = refl
gone_after false o = refl

contains_key-insert : (kv : Kv) (key value q : List ℕ)
    → finite.contains_key (finite.insert kv key value) q ≡ cond (eq_by_cmp (slice_cmp nat_cmp) q key) true (finite.contains_key kv q)
contains_key-insert kv key value q =
    ap (λ (o : Option (List ℕ)). is_some o) (finite.get-insert nat_list_cmp_total kv key value q)
    ∙ held_after (eq_by_cmp (slice_cmp nat_cmp) q key) value (finite.get kv q)

contains_key-remove : (kv : Kv) (key q : List ℕ)
    → finite.contains_key (finite.remove kv key) q ≡ cond (eq_by_cmp (slice_cmp nat_cmp) q key) false (finite.contains_key kv q)
contains_key-remove kv key q =
    ap (λ (o : Option (List ℕ)). is_some o) (finite.get-remove nat_list_cmp_total kv key q)
    ∙ gone_after (eq_by_cmp (slice_cmp nat_cmp) q key) (finite.get kv q)

no_less : (b c : Bool) → one_of c ≤ one_of (cond b true c)
no_less true true = omega arith
no_less true false = omega arith
no_less false c = omega arith

at_most_one : (b : Bool) → one_of b ≤ 1
at_most_one true = omega arith
at_most_one false = omega arith

-- ---- counts

pub count_in-most : (parts : List (List ℕ)) (kv : Kv) → count_in parts kv ≤ length parts
count_in-most [] kv = omega arith
count_in-most (p ∷ parts) kv =
    let rest = count_in-most parts kv in
    let one = at_most_one (finite.contains_key kv p) in
    omega (arith, rest, one)

-- a key that has no value leaves room
pub count_in-room : (parts : List (List ℕ)) (kv : Kv) (key : List ℕ) → Has parts key → finite.contains_key kv key ≡ false
    → count_in parts kv < length parts
count_in-room [] kv key h none = absurd (let e = h.1 in cc)
count_in-room (p ∷ parts) kv key h none = elim (Has-cases key p parts h) [
  | inl e ↦
      let here : one_of (finite.contains_key kv p) ≡ 0 = ap one_of (ap (finite.contains_key kv) (sym e) ∙ none) in
      let rest = count_in-most parts kv in
      omega (arith, here, rest)
  | inr g ↦
      let one = at_most_one (finite.contains_key kv p) in
      let rest = count_in-room parts kv key g none in
      omega (arith, one, rest)
]

pub count_in-insert : (parts : List (List ℕ)) (kv : Kv) (key value : List ℕ) → count_in parts kv ≤ count_in parts (finite.insert kv key value)
count_in-insert [] kv key value = omega arith
count_in-insert (p ∷ parts) kv key value =
    let rest = count_in-insert parts kv key value in
    let one = no_less (eq_by_cmp (slice_cmp nat_cmp) p key) (finite.contains_key kv p) in
    let e : one_of (finite.contains_key (finite.insert kv key value) p) ≡ one_of (cond (eq_by_cmp (slice_cmp nat_cmp) p key) true (finite.contains_key kv p)) =
    ap one_of (contains_key-insert kv key value p) in
    omega (arith, rest, one, e)

pub count_in-insert_new : (parts : List (List ℕ)) (kv : Kv) (key value : List ℕ) → Has parts key → finite.contains_key kv key ≡ false
    → count_in parts kv < count_in parts (finite.insert kv key value)
count_in-insert_new [] kv key value h none = absurd (let e = h.1 in cc)
count_in-insert_new (p ∷ parts) kv key value h none = elim (Has-cases key p parts h) [
  | inl e ↦
      let was : one_of (finite.contains_key kv p) ≡ 0 = ap one_of (ap (finite.contains_key kv) (sym e) ∙ none) in
      let is : one_of (finite.contains_key (finite.insert kv key value) p) ≡ 1 =
      ap one_of (contains_key-insert kv key value p
      ∙ ap (λ (b : Bool). cond b true (finite.contains_key kv p)) (is_same_key p key (sym e))) in
      let rest = count_in-insert parts kv key value in
      omega (arith, was, is, rest)
  | inr g ↦
      let rest = count_in-insert_new parts kv key value g none in
      let one = no_less (eq_by_cmp (slice_cmp nat_cmp) p key) (finite.contains_key kv p) in
      let f : one_of (finite.contains_key (finite.insert kv key value) p) ≡ one_of (cond (eq_by_cmp (slice_cmp nat_cmp) p key) true (finite.contains_key kv p)) =
      ap one_of (contains_key-insert kv key value p) in
      omega (arith, rest, one, f)
]

-- ---- a key is taken away

behind : (p : List ℕ) (parts : List (List ℕ)) → AreDistinct (p ∷ parts) → AreDistinct parts
behind p parts d i j q g h = let e = d (suc i) (suc j) q g h in omega (arith, e)

other_key : (b : Bool) (c : Bool) → b ≡ false → cond b false c ≡ c
other_key b c e = ap (λ (x : Bool). cond x false c) e

-- keys that are not the one keep their values
count_in-remove_other : (parts : List (List ℕ)) (kv : Kv) (key : List ℕ) → (Has parts key → ⊥)
    → count_in parts (finite.remove kv key) ≡ count_in parts kv
count_in-remove_other [] kv key none = refl
count_in-remove_other (p ∷ parts) kv key none =
    here (eq_by_cmp (slice_cmp nat_cmp) p key) refl (count_in-remove_other parts kv key (λ h. none (suc h.0, h.1)))
  where
    here : (b : Bool) → eq_by_cmp (slice_cmp nat_cmp) p key ≡ b → count_in parts (finite.remove kv key) ≡ count_in parts kv
        → count_in (p ∷ parts) (finite.remove kv key) ≡ count_in (p ∷ parts) kv
    here true e rest = absurd (none (0, ap (λ (x : List ℕ). Some x) (same_key p key e)))
    here false e rest =
        let same : finite.contains_key (finite.remove kv key) p ≡ finite.contains_key kv p =
        contains_key-remove kv key p ∙ other_key (eq_by_cmp (slice_cmp nat_cmp) p key) (finite.contains_key kv p) e in
        let f : one_of (finite.contains_key (finite.remove kv key) p) ≡ one_of (finite.contains_key kv p) = ap one_of same in
        omega (arith, rest, f)

pub count_in-remove : (parts : List (List ℕ)) (kv : Kv) (key : List ℕ) → AreDistinct parts
    → count_in parts kv ≤ count_in parts (finite.remove kv key) + 1
count_in-remove [] kv key d = omega arith
count_in-remove (p ∷ parts) kv key d =
    here (eq_by_cmp (slice_cmp nat_cmp) p key) refl (count_in-remove parts kv key (behind p parts d))
  where
    here : (b : Bool) → eq_by_cmp (slice_cmp nat_cmp) p key ≡ b → count_in parts kv ≤ count_in parts (finite.remove kv key) + 1
        → count_in (p ∷ parts) kv ≤ count_in (p ∷ parts) (finite.remove kv key) + 1
    here true e more =
        let k = same_key p key e in
        let rest = count_in-remove_other parts kv key (λ h. let f = d 0 (suc h.0) key (ap (λ (x : List ℕ). Some x) k) h.1 in omega (arith, f)) in
        let one = at_most_one (finite.contains_key kv p) in
        omega (arith, rest, one)
    here false e rest =
        let same : finite.contains_key (finite.remove kv key) p ≡ finite.contains_key kv p =
        contains_key-remove kv key p ∙ other_key (eq_by_cmp (slice_cmp nat_cmp) p key) (finite.contains_key kv p) e in
        let f : one_of (finite.contains_key (finite.remove kv key) p) ≡ one_of (finite.contains_key kv p) = ap one_of same in
        omega (arith, rest, f)

pub count_in-remove_none : (parts : List (List ℕ)) (kv : Kv) (key : List ℕ) → finite.contains_key kv key ≡ false
    → count_in parts (finite.remove kv key) ≡ count_in parts kv
count_in-remove_none [] kv key none = refl
count_in-remove_none (p ∷ parts) kv key none =
    let rest = count_in-remove_none parts kv key none in
    let same : finite.contains_key (finite.remove kv key) p ≡ finite.contains_key kv p =
    contains_key-remove kv key p ∙ stays (eq_by_cmp (slice_cmp nat_cmp) p key) refl in
    let f : one_of (finite.contains_key (finite.remove kv key) p) ≡ one_of (finite.contains_key kv p) = ap one_of same in
    omega (arith, rest, f)
  where
    stays : (b : Bool) → eq_by_cmp (slice_cmp nat_cmp) p key ≡ b → cond b false (finite.contains_key kv p) ≡ finite.contains_key kv p
    stays true e = sym (ap (finite.contains_key kv) (same_key p key e) ∙ none)
    stays false e = refl
