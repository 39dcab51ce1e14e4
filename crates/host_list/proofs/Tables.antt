-- Addresses at their places, and one that is written.
use Rattle.std.proofs.Common.{◌≡◌, ◌≢◌, ℕ, zero, suc, ◌<◌, ◌≤◌, Bool, true, false, List, [], ◌∷◌, length, Option, Some, None, refl, sym, ap}
use Rattle.std.proofs.Common.{subst, arith, eqb-true, eq-eqb, inl, inr}
use Rattle.std.specs.Prelude.{◌==◌, ◌&&◌, ◌||◌, ◌⊎◌, nat_eq, replicate, slice_set}
use Rattle.std.specs.Cmp.Lexicographic.{pointwise}
use Rattle.std.proofs.lemmas.Bool.{and_parts, and_from, or_parts, or_from}
use Rattle.std.specs.declared.net.socket_addr.SocketAddr.{SocketAddr}
use Rattle.std.specs.declared.net.socket_addr.SocketAddr.TheVariants.{V4, V6}
use Rattle.lemmas.proofs.Bytes.{pointwise-true}
use Rattle.host_list.specs.Addresses.{same_address}
use Rattle.host_list.specs.Places.{Addresses, address_at, has_address, is_address}

-- ---- addresses that are the same

pointwise-refl : (xs : List ℕ) → pointwise nat_eq xs xs ≡ true
pointwise-refl [] = refl
pointwise-refl (x ∷ xs) = and_from (nat_eq x x) (pointwise nat_eq xs xs) (eq-eqb x x refl) (pointwise-refl xs)

pub same_address-true : (a b : SocketAddr) → same_address a b ≡ true → a ≡ b
same_address-true (V4 a) (V4 b) e =
    let p = and_parts (pointwise nat_eq a.ip.octets b.ip.octets) (a.port == b.port) e in
    let octets = pointwise-true a.ip.octets b.ip.octets p.0 in
    let port = eqb-true a.port b.port p.1 in
    λ i. V4 (record { ip = record { octets = octets i }; port = port i })
same_address-true (V4 a) (V6 b) e = absurd cc
same_address-true (V6 a) (V4 b) e = absurd cc
same_address-true (V6 a) (V6 b) e =
    let p =
    and_parts (pointwise nat_eq a.ip.segments b.ip.segments)
    ((a.port == b.port) && ((a.flowinfo == b.flowinfo) && (a.scope_id == b.scope_id))) e in
    let q = and_parts (a.port == b.port) ((a.flowinfo == b.flowinfo) && (a.scope_id == b.scope_id)) p.1 in
    let r = and_parts (a.flowinfo == b.flowinfo) (a.scope_id == b.scope_id) q.1 in
    let segments = pointwise-true a.ip.segments b.ip.segments p.0 in
    let port = eqb-true a.port b.port q.0 in
    let flowinfo = eqb-true a.flowinfo b.flowinfo r.0 in
    let scope = eqb-true a.scope_id b.scope_id r.1 in
    λ i. V6 (record { ip = record { segments = segments i }; port = port i; flowinfo = flowinfo i; scope_id = scope i })

pub same_address-refl : (a : SocketAddr) → same_address a a ≡ true
same_address-refl (V4 a) =
    and_from (pointwise nat_eq a.ip.octets a.ip.octets) (a.port == a.port) (pointwise-refl a.ip.octets) (eq-eqb a.port a.port refl)
same_address-refl (V6 a) =
    and_from (pointwise nat_eq a.ip.segments a.ip.segments)
    ((a.port == a.port) && ((a.flowinfo == a.flowinfo) && (a.scope_id == a.scope_id)))
    (pointwise-refl a.ip.segments)
    (and_from (a.port == a.port) ((a.flowinfo == a.flowinfo) && (a.scope_id == a.scope_id)) (eq-eqb a.port a.port refl)
    (and_from (a.flowinfo == a.flowinfo) (a.scope_id == a.scope_id) (eq-eqb a.flowinfo a.flowinfo refl) (eq-eqb a.scope_id a.scope_id refl)))

back_from : (x : Bool) (a b : SocketAddr) → same_address a b ≡ x → same_address b a ≡ false → same_address a b ≡ false
back_from false a b e f = e
back_from true a b e f =
    let same = same_address-true a b e in
    absurd (let t : same_address b a ≡ true = subst (λ (y : SocketAddr). same_address y a ≡ true) same (same_address-refl a) in cc)

pub same_address-back : (a b : SocketAddr) → same_address b a ≡ false → same_address a b ≡ false
same_address-back a b f = back_from (same_address a b) a b refl f

-- ---- places

pub written_here : (xs : Addresses) (p : ℕ) (x : Option SocketAddr) → p < length xs → address_at (slice_set xs p x) p ≡ x
written_here [] p x l = absurd (omega (arith, l))
written_here (y ∷ ys) zero x l = refl
written_here (y ∷ ys) (suc p) x l = written_here ys p x (omega (arith, l))

pub written_other : (xs : Addresses) (p q : ℕ) (x : Option SocketAddr) → q ≢ p → address_at (slice_set xs p x) q ≡ address_at xs q
written_other [] p q x d = refl
written_other (y ∷ ys) zero zero x d = absurd (d refl)
written_other (y ∷ ys) zero (suc q) x d = refl
written_other (y ∷ ys) (suc p) zero x d = refl
written_other (y ∷ ys) (suc p) (suc q) x d = written_other ys p q x (λ e. d (ap suc e))

pub written_past : (xs : Addresses) (p : ℕ) (x : Option SocketAddr) → length xs ≤ p → slice_set xs p x ≡ xs
written_past [] p x l = refl
written_past (y ∷ ys) zero x l = absurd (omega (arith, l))
written_past (y ∷ ys) (suc p) x l = ap (λ t. y ∷ t) (written_past ys p x (omega (arith, l)))

pub none_past : (xs : Addresses) (p : ℕ) → length xs ≤ p → address_at xs p ≡ None
none_past [] p l = refl
none_past (y ∷ ys) zero l = absurd (omega (arith, l))
none_past (y ∷ ys) (suc p) l = none_past ys p (omega (arith, l))

pub none_at : (n p : ℕ) → address_at (replicate n None) p ≡ None
none_at zero p = refl
none_at (suc n) zero = refl
none_at (suc n) (suc p) = none_at n p

pub written_twice : (xs : Addresses) (p q : ℕ) (x y : Option SocketAddr) → p ≢ q
    → slice_set (slice_set xs p x) q y ≡ slice_set (slice_set xs q y) p x
written_twice [] p q x y d = refl
written_twice (z ∷ zs) zero zero x y d = absurd (d refl)
written_twice (z ∷ zs) zero (suc q) x y d = refl
written_twice (z ∷ zs) (suc p) zero x y d = refl
written_twice (z ∷ zs) (suc p) (suc q) x y d = ap (λ t. z ∷ t) (written_twice zs p q x y (λ e. d (ap suc e)))

-- equal or not
pub same_or_not : (p q : ℕ) → (p ≡ q) ⊎ (p ≢ q)
same_or_not p q = by_test (p == q) refl
  where
    by_test : (b : Bool) → (p == q) ≡ b → (p ≡ q) ⊎ (p ≢ q)
    by_test true e = inl (eqb-true p q e)
    by_test false e = inr (λ same. let t = eq-eqb p q same in cc)

-- ---- whether an address is there

-- where no place has it
pub other_at : (xs : Addresses) (a b : SocketAddr) (p : ℕ) → has_address xs a ≡ false → address_at xs p ≡ Some b → same_address b a ≡ false
other_at [] a b p h e = absurd cc
other_at (x ∷ xs) a b zero h e =
    let f = (or_parts (is_address a x) (has_address xs a) h).0 in
    subst (λ (o : Option SocketAddr). is_address a o ≡ false) e f
other_at (x ∷ xs) a b (suc p) h e = other_at xs a b p (or_parts (is_address a x) (has_address xs a) h).1 e

-- where one is written at a free place
pub none_written : (xs : Addresses) (p : ℕ) (a b : SocketAddr) → has_address xs b ≡ false → same_address a b ≡ false
    → has_address (slice_set xs p (Some a)) b ≡ false
none_written [] p a b h e = h
none_written (x ∷ xs) zero a b h e =
    or_from (same_address a b) (has_address xs b) e (or_parts (is_address b x) (has_address xs b) h).1
none_written (x ∷ xs) (suc p) a b h e =
    let k = or_parts (is_address b x) (has_address xs b) h in
    or_from (is_address b x) (has_address (slice_set xs p (Some a)) b) k.0 (none_written xs p a b k.1 e)

-- what was not there after one was written was not there before
pub none_before : (xs : Addresses) (p : ℕ) (a b : SocketAddr) → p < length xs → address_at xs p ≡ None
    → has_address (slice_set xs p (Some a)) b ≡ false → (has_address xs b ≡ false) × (same_address a b ≡ false)
none_before [] p a b l free h = absurd (omega (arith, l))
none_before (x ∷ xs) zero a b l free h =
    let k = or_parts (same_address a b) (has_address xs b) h in
    (subst (λ (o : Option SocketAddr). (is_address b o || has_address xs b) ≡ false) (sym free) k.1, k.0)
none_before (x ∷ xs) (suc p) a b l free h =
    let k = or_parts (is_address b x) (has_address (slice_set xs p (Some a)) b) h in
    let r = none_before xs p a b (omega (arith, l)) free k.1 in
    (or_from (is_address b x) (has_address xs b) k.0 r.0, r.1)
