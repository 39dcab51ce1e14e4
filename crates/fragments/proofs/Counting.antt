-- Parts that come, one after the other.
use Rattle.std.proofs.Common.{◌≡◌, ℕ, zero, suc, ◌+◌, ◌<◌, ◌≤◌, true, List, [], ◌∷◌, ◌++◌, length, set, take, drop, replicate, Option, Some}
use Rattle.std.proofs.Common.{None, refl, sym, ap, append_assoc, arith, add-one}
use Rattle.std.proofs.lemmas.Grind.{flat_map-append}
use Rattle.std.proofs.lemmas.List.{set_split}
use Rattle.fragments.specs.Parts.{missing, is_open, whole}

-- a part that comes is missing no more
pub missing_set : (parts : List (Option (List ℕ))) (i : ℕ) (x : List ℕ) → is_open parts i ≡ true
    → missing (set parts i (Some x)) + 1 ≡ missing parts
missing_set [] i x h = absurd cc
missing_set (Some p ∷ parts) zero x h = absurd cc
missing_set (None ∷ parts) zero x h = add-one (missing parts)
missing_set (Some p ∷ parts) (suc i) x h = missing_set parts i x h
missing_set (None ∷ parts) (suc i) x h = omega (arith, missing_set parts i x h)

pub open_missing : (parts : List (Option (List ℕ))) (i : ℕ) → is_open parts i ≡ true → 1 ≤ missing parts
open_missing parts i h = omega (arith, missing_set parts i [] h)

-- an open index is one of the indexes
pub open_within : (parts : List (Option (List ℕ))) (i : ℕ) → is_open parts i ≡ true → i < length parts
open_within [] i h = absurd cc
open_within (p ∷ parts) zero h = omega arith
open_within (p ∷ parts) (suc i) h = omega (arith, open_within parts i h)

-- nothing came yet
pub missing_replicate : (n : ℕ) → missing (replicate n None) ≡ n
missing_replicate zero = refl
missing_replicate (suc n) = ap suc (missing_replicate n)

-- each index is open where nothing came
pub open_at_first : (n i : ℕ) → i < n → is_open (replicate n None) i ≡ true
open_at_first zero i h = absurd (omega arith)
open_at_first (suc n) zero h = refl
open_at_first (suc n) (suc i) h = open_at_first n i (omega arith)

pub whole_set : (parts : List (Option (List ℕ))) (i : ℕ) (x : List ℕ) → i < length parts
    → whole (set parts i (Some x)) ≡ (whole (take i parts) ++ x) ++ whole (drop (i + 1) parts)
whole_set parts i x h =
    rw (set_split parts i (Some x) h, flat_map-append, add-one) (sym (append_assoc (whole (take i parts)) x (whole (drop (suc i) parts))))

-- the bytes of the parts with one more of them, behind other bytes
pub behind_set : (to : List ℕ) (parts : List (Option (List ℕ))) (i : ℕ) (x : List ℕ) → i < length parts
    → ((to ++ whole (take i parts)) ++ x) ++ whole (drop (i + 1) parts) ≡ to ++ whole (set parts i (Some x))
behind_set to parts i x h = rw (whole_set parts i x h) (simp append_assoc)
