-- The votes that a mask stands for.
use Rattle.std.proofs.Common.{◌≡◌, ◌≢◌, ℕ, zero, suc, ◌+◌, ◌*◌, ◌/◌, ◌%◌, ◌^◌, ◌<◌, Bool, true, false, cond, ◌∷◌, length, refl, sym, ap}
use Rattle.std.proofs.Common.{◌∙◌, arith, w8}
use Rattle.std.specs.Prelude.{◌==◌, ◌||◌, ◌&&◌, filter, bit_or, count_ones}
use Rattle.std.specs.Int.{bit_at}
use Rattle.std.specs.List.{range_with_len}
use Rattle.std.proofs.Math.Nat.{pow-suc}
use Rattle.std.proofs.Math.Pow.{pow-lt}
use Rattle.std.proofs.lemmas.Bool.Decides.{nat_tests}
use Rattle.std.proofs.lemmas.Nat.{one_shl, ones-le, ones_cat, ones_le_self, or_lt, zero_from_ones}
use Rattle.std.proofs.lemmas.Nat.Bits.{bit_at_set_same, bit_at_set_other, bit_at-suc, bit_at_lowest}
use Rattle.nop_types.specs.declared.limits.TheConstants.{MAX_REPLICAS}
use Rattle.nop_types.specs.Lists.{Has}
use Rattle.slot_votes.specs.Votes.{has_vote, with_vote}
use Rattle.slot_votes.specs.Mask.{voters_of}
use Rattle.slot_votes.proofs.Filters.{filter_same, has_filtered, has_range}
use Rattle.slot_votes.proofs.Members.{has_to}

abbrev is_set : ℕ → ℕ → Bool
is_set mask k = bit_at mask k == 1

-- the mask with one more bit, as the code makes it
abbrev set : ℕ → ℕ → ℕ
set mask q = bit_or mask (1 * 2 ^ q % 2 ^ 8)

has_voter : (mask k : ℕ) → k < MAX_REPLICAS → has_vote (voters_of mask) k ≡ is_set mask k
unfolding voters_of
has_voter mask k high = has_filtered (is_set mask) (range_with_len 0 MAX_REPLICAS) k ∙ at (is_set mask k)
  where
    at : (b : Bool) → (b && has_vote (range_with_len 0 MAX_REPLICAS) k) ≡ b
    at true = has_range 0 MAX_REPLICAS k (omega arith) (omega arith)
    at false = refl

set_is : (mask q k : ℕ) → q < MAX_REPLICAS → is_set (set mask q) k ≡ ((k == q) || is_set mask k)
set_is mask q k high = at (k == q) refl
  where
    at : (b : Bool) → (k == q) ≡ b → is_set (set mask q) k ≡ (b || is_set mask k)
    at true e =
        let same : k ≡ q = grind (arith, nat_tests, e) in
        let one : bit_at (set mask q) k ≡ 1 = rw same (bit_at_set_same w8 mask q (omega arith)) in
        ap (λ n. n == 1) one
    at false e =
        let other : k ≢ q = λ same. absurd (grind (arith, nat_tests, e, same)) in
        ap (λ n. n == 1) (bit_at_set_other w8 mask q (omega arith) k other)

pub voters_of_set : (mask q : ℕ) → q < MAX_REPLICAS → voters_of (bit_or mask (1 * 2 ^ q % 2 ^ 8)) ≡ with_vote (voters_of mask) q
unfolding voters_of with_vote
voters_of_set mask q high =
    filter_same (is_set (set mask q)) (λ k. (k == q) || has_vote (voters_of mask) k) 0 MAX_REPLICAS
    (λ k from below. set_is mask q k high ∙ ap (λ b. (k == q) || b) (sym (has_voter mask k (omega arith))))

pub voters_of_set_again : (mask q : ℕ) → q < MAX_REPLICAS → Has (voters_of mask) q
    → voters_of (bit_or mask (1 * 2 ^ q % 2 ^ 8)) ≡ voters_of mask
unfolding voters_of
voters_of_set_again mask q high voted =
    filter_same (is_set (set mask q)) (is_set mask) 0 MAX_REPLICAS (λ k from below. set_is mask q k high ∙ at k (k == q) refl)
  where
    at : (k : ℕ) (b : Bool) → (k == q) ≡ b → (b || is_set mask k) ≡ is_set mask k
    at k true e =
        let same : k ≡ q = grind (arith, nat_tests, e) in
        sym (ap (is_set mask) same ∙ sym (has_voter mask q high) ∙ has_to (voters_of mask) q voted.0 voted.1)
    at k false e = refl

pub set_is_small : (mask q : ℕ) → mask < 2 ^ MAX_REPLICAS → q < MAX_REPLICAS → bit_or mask (1 * 2 ^ q % 2 ^ 8) < 2 ^ MAX_REPLICAS
set_is_small mask q small high = or_lt MAX_REPLICAS mask (1 * 2 ^ q % 2 ^ 8) small (rw (one_shl q 8 (omega arith)) (pow-lt high))

-- ---- how many

ones_of_bit : (b : ℕ) → b < 2 → count_ones b ≡ cond (b == 1) 1 0
ones_of_bit zero small = omega (arith, ones_le_self 0)
ones_of_bit (suc zero) small = at (count_ones 1) refl
  where
    at : (n : ℕ) → count_ones 1 ≡ n → count_ones 1 ≡ 1
    at zero e = absurd (let none : 1 ≡ 0 = zero_from_ones 1 e in omega arith)
    at (suc n) e = omega (arith, e, ones_le_self 1)
ones_of_bit (suc (suc b)) small = absurd (omega arith)

ones_more : (n : ℕ) → count_ones n ≡ count_ones (n / 2) + count_ones (n % 2)
ones_more n = ap count_ones (omega arith) ∙ ones_cat 1 (n / 2) (n % 2) (omega arith)

length_filtered : (m n a : ℕ) (p : ℕ → Bool) → n < 2 ^ m → ((i : ℕ) → i < m → p (a + i) ≡ is_set n i)
    → length (filter p (range_with_len a m)) ≡ count_ones n
length_filtered zero n a p small h = omega (arith, ones-le 0 n small)
length_filtered (suc m) n a p small h =
    let half : n / 2 < 2 ^ m = omega (arith, pow-suc 2 m) in
    let rest =
    length_filtered m (n / 2) (a + 1) p half
    (λ i less. ap p (omega arith) ∙ h (suc i) (omega arith) ∙ ap (λ b. b == 1) (bit_at-suc n i)) in
    let first : p a ≡ ((n % 2) == 1) = ap p (omega arith) ∙ h 0 (omega arith) ∙ ap (λ b. b == 1) (bit_at_lowest n) in
    at (p a) first rest
  where
    at : (b : Bool) → b ≡ ((n % 2) == 1) → length (filter p (range_with_len (a + 1) m)) ≡ count_ones (n / 2)
        → length (cond b (a ∷ filter p (range_with_len (a + 1) m)) (filter p (range_with_len (a + 1) m))) ≡ count_ones n
    at true e rest = let bit : count_ones (n % 2) ≡ 1 = ones_of_bit (n % 2) (omega arith) ∙ ap (λ c. cond c 1 0) (sym e) in
        omega (arith, rest, ones_more n, bit)
    at false e rest = let bit : count_ones (n % 2) ≡ 0 = ones_of_bit (n % 2) (omega arith) ∙ ap (λ c. cond c 1 0) (sym e) in
        omega (arith, rest, ones_more n, bit)

pub length_of_voters : (mask : ℕ) → mask < 2 ^ MAX_REPLICAS → count_ones mask ≡ length (voters_of mask)
unfolding voters_of
length_of_voters mask small = sym (length_filtered MAX_REPLICAS mask 0 (is_set mask) small (λ i less. ap (is_set mask) (omega arith)))
