-- One request apart from the others.
use Rattle.std.proofs.Common.{◌≡◌, ℕ, ◌+◌, Bool, true, false, cond, Option, Some, None, refl, sym, ap, ◌∙◌, arith}
use Rattle.std.specs.Prelude.{◌==◌, nat_lt}
use Rattle.std.specs.Ordering.{nat_cmp, eq_by_cmp}
use Rattle.std.specs.Cmp.{nat_cmp_total, unsigned_tied}
use Rattle.std.specs.FinMap as finite
use Rattle.std.proofs.lemmas.Bool.Decides.{nat_tests}
use Rattle.nop_types.specs.declared.request.Request.{Request}
use Rattle.oum_receiver.specs.Requests.{Requests, is_from}
use Rattle.oum_receiver.specs.Table.{with_apart, IsApart, apart_at, apart_without, apart_from}
use Rattle.oum_receiver.proofs.Entries.{get_kept}

-- two maps with the same request at each number
pub same_requests : (m n : Requests) → ((q : ℕ) → finite.get m q ≡ finite.get n q) → m ≡ n
same_requests m n same = finite.same_map nat_cmp_total finite.nat_cmp-IsAntisymmetric m n same

pub len_apart : (a : ℕ × Request) (m : Requests) → finite.get m a.0 ≡ None → finite.len (finite.insert m a.0 a.1) ≡ finite.len m + 1
len_apart a m apart = grind (arith, finite.gets, apart)

numbers_differ : (a : ℕ × Request) (m : Requests) (k : ℕ) → finite.get (finite.insert m a.0 a.1) k ≡ None → k ≡ a.0 → ⊥
numbers_differ a m k none same =
    let tied : eq_by_cmp nat_cmp k a.0 ≡ true = grind (arith, unsigned_tied, nat_tests, same) in
    let e : None ≡ Some a.1 =
    sym none ∙ finite.get-insert nat_cmp_total m a.0 a.1 k ∙ ap (λ (b : Bool). cond b (Some a.1) (finite.get m k)) tied in
    cc

-- a request that is inserted beside the one apart
pub insert_beside : (o : Option (ℕ × Request)) (m : Requests) (k : ℕ) (v : Request) → finite.get (with_apart o m) k ≡ None
    → with_apart o (finite.insert m k v) ≡ finite.insert (with_apart o m) k v
insert_beside None m k v none = refl
insert_beside (Some a) m k v none =
    let differ : k ≡ a.0 → ⊥ = numbers_differ a m k none in
    same_requests _ _ (λ q. grind (arith, finite.gets, unsigned_tied, nat_tests, differ))

pub insert_stays : (o : Option (ℕ × Request)) (m : Requests) (k : ℕ) (v : Request) → IsApart o m → finite.get (with_apart o m) k ≡ None
    → IsApart o (finite.insert m k v)
insert_stays None m k v apart none = tt
insert_stays (Some a) m k v apart none =
    let differ : k ≡ a.0 → ⊥ = numbers_differ a m k none in
    grind (arith, finite.gets, unsigned_tied, nat_tests, differ, apart)

pub get_found : (o : Option (ℕ × Request)) (m : Requests) (k : ℕ) (r : Request) → Some r ≡ apart_at o k
    → Some r ≡ finite.get (with_apart o m) k
get_found None m k r is = cc
get_found (Some a) m k r is = is ∙ grind (arith, finite.gets, unsigned_tied, nat_tests, is)

pub get_missed : (o : Option (ℕ × Request)) (m : Requests) (k : ℕ) → None ≡ apart_at o k → finite.get m k ≡ finite.get (with_apart o m) k
get_missed None m k is = refl
get_missed (Some a) m k is = grind (arith, finite.gets, unsigned_tied, nat_tests, is)

-- the one apart is removed
pub remove_found : (o : Option (ℕ × Request)) (m : Requests) (k : ℕ) (r : Request) → IsApart o m → Some r ≡ apart_at o k
    → with_apart (apart_without o k) m ≡ finite.remove (with_apart o m) k
remove_found None m k r apart is = cc
remove_found (Some a) m k r apart is = at (a.0 == k) refl is
  where
    at : (b : Bool) → (a.0 == k) ≡ b → Some r ≡ cond b (Some a.1) None
        → with_apart (cond b None (Some a)) m ≡ finite.remove (finite.insert m a.0 a.1) k
    at true same found = same_requests _ _ (λ q. grind (arith, finite.gets, unsigned_tied, nat_tests, same, apart))
    at false same found = cc

pub remove_missed : (o : Option (ℕ × Request)) (m : Requests) (k : ℕ) → None ≡ apart_at o k
    → with_apart (apart_without o k) (finite.remove m k) ≡ finite.remove (with_apart o m) k
remove_missed None m k is = refl
remove_missed (Some a) m k is = at (a.0 == k) refl is
  where
    at : (b : Bool) → (a.0 == k) ≡ b → None ≡ cond b (Some a.1) None
        → with_apart (cond b None (Some a)) (finite.remove m k) ≡ finite.remove (finite.insert m a.0 a.1) k
    at true same missed = cc
    at false same missed = same_requests _ _ (λ q. grind (arith, finite.gets, unsigned_tied, nat_tests, same))

-- requests from a number on, and one apart
pub kept_beside : (o : Option (ℕ × Request)) (m : Requests) (next : ℕ)
    → with_apart (apart_from next o) (finite.retain_keys m (is_from next)) ≡ finite.retain_keys (with_apart o m) (is_from next)
kept_beside None m next = refl
kept_beside (Some a) m next = at (nat_lt a.0 next) refl
  where
    at : (b : Bool) → nat_lt a.0 next ≡ b
        → with_apart (cond b None (Some a)) (finite.retain_keys m (is_from next)) ≡ finite.retain_keys (finite.insert m a.0 a.1)
        (is_from next)
    at true low = same_requests _ _ (λ q. grind (arith, finite.gets, get_kept, unsigned_tied, nat_tests, low))
    at false low = same_requests _ _ (λ q. grind (arith, finite.gets, get_kept, unsigned_tied, nat_tests, low))

pub kept_stays : (o : Option (ℕ × Request)) (m : Requests) (next : ℕ) → IsApart o m
    → IsApart (apart_from next o) (finite.retain_keys m (is_from next))
kept_stays None m next apart = tt
kept_stays (Some a) m next apart = at (nat_lt a.0 next)
  where
    at : (b : Bool) → IsApart (cond b None (Some a)) (finite.retain_keys m (is_from next))
    at true = tt
    at false = get_kept m next a.0 ∙ grind (arith, nat_tests, apart)
