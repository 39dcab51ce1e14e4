-- A digest of bytes is that of the first ones, gone on with.
use Rattle.std.proofs.Common.{◌≡◌, ℕ, zero, suc, ◌+◌, ◌*◌, ◌%◌, ◌^◌, ◌<◌, List, [], ◌∷◌, ◌++◌, length, drop, get_or, Option, refl, sym, ap, ◌∙◌, arith}
use Rattle.std.specs.Int.Bits.{bit_xor}
use Rattle.host_list.specs.declared.digest.TheConstants.{FNV_PRIME}
use Rattle.std.specs.declared.net.socket_addr.SocketAddr.{SocketAddr}
use Rattle.host_list.specs.Digests.{digest_on, hosts_bytes, place_bytes}
use Rattle.host_list.specs.Places.{Addresses}

pub digest_on-append : (h : ℕ) (xs ys : List ℕ) → digest_on h (xs ++ ys) ≡ digest_on (digest_on h xs) ys
digest_on-append h [] ys = refl
digest_on-append h (x ∷ xs) ys = digest_on-append (bit_xor h x * FNV_PRIME % 2 ^ 64) xs ys

-- a byte, and two or three parts behind it
pub two_parts : (h first : ℕ) (xs ys : List ℕ)
    → digest_on (digest_on (digest_on h (first ∷ [])) xs) ys ≡ digest_on h (first ∷ (xs ++ ys))
two_parts h first xs ys = sym (digest_on-append (digest_on h (first ∷ [])) xs ys)

pub three_parts : (h first : ℕ) (xs ys zs : List ℕ)
    → digest_on (digest_on (digest_on (digest_on h (first ∷ [])) xs) ys) zs ≡ digest_on h (first ∷ (xs ++ ys ++ zs))
three_parts h first xs ys zs =
    ap (λ (k : ℕ). digest_on k zs) (two_parts h first xs ys) ∙ sym (digest_on-append (digest_on h (first ∷ [])) (xs ++ ys) zs)

-- a place with or without an address, and those behind it
at_place : (m p i : ℕ) (xs : Addresses) (d : Option SocketAddr) → i < length xs
    → digest_on (digest_on m (place_bytes p (get_or xs i d))) (hosts_bytes (p + 1) (drop (suc i) xs)) ≡ digest_on m (hosts_bytes p (drop i xs))
at_place m p i [] d l = absurd (omega (arith, l))
at_place m p zero (x ∷ xs) d l = sym (digest_on-append m (place_bytes p x) (hosts_bytes (p + 1) xs))
at_place m p (suc i) (x ∷ xs) d l = at_place m p i xs d (omega (arith, l))

pub next_place : (m p i : ℕ) (xs : Addresses) (d : Option SocketAddr) → i < length xs
    → digest_on (digest_on m (place_bytes p (get_or xs i d))) (hosts_bytes (p + 1) (drop (i + 1) xs)) ≡ digest_on m (hosts_bytes p (drop i xs))
next_place m p i xs d l =
    let e : i + 1 ≡ suc i = omega arith in
    ap (λ (n : ℕ). digest_on (digest_on m (place_bytes p (get_or xs i d))) (hosts_bytes (p + 1) (drop n xs))) e ∙ at_place m p i xs d l

-- what stands before the places, and the places
pub list_parts : (h : ℕ) (xs ys : List ℕ) → digest_on (digest_on h xs) ys ≡ digest_on h (xs ++ ys)
list_parts h xs ys = sym (digest_on-append h xs ys)
