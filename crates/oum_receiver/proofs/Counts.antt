-- How many requests a finite map has.
use Rattle.std.proofs.Common.{◌≡◌, ℕ, zero, suc, ◌+◌, ◌-◌, ◌<◌, ◌≤◌, Bool, true, false, cond, List, [], ◌∷◌, length, Option, Some, None}
use Rattle.std.proofs.Common.{is_some, true≢false, refl, sym, ap, ◌∙◌, arith}
use Rattle.std.specs.Ordering.{nat_cmp, eq_by_cmp}
use Rattle.std.specs.Cmp.{nat_cmp_total, eq_by_cmp_equiv}
use Rattle.std.specs.FinMap as finite
use Rattle.nop_types.specs.declared.request.Request.{Request}
use Rattle.oum_receiver.specs.Requests.{Requests}

-- a map that has a request is not empty
pub len_some : (m : Requests) (k : ℕ) → is_some (finite.get m k) ≡ true → 0 < finite.len m
len_some m k some = at (finite.len m) refl
  where
    at : (n : ℕ) → finite.len m ≡ n → 0 < finite.len m
    at zero none =
        absurd
        (true≢false (sym some ∙ ap (λ (w : Requests). is_some (finite.get w k)) (finite.empty_of_len m none)
        ∙ ap is_some (finite.get-empty nat_cmp k)))
    at (suc n) is = omega (arith, is)

-- a removal of a request that is there
pub len_without : (m : Requests) (k : ℕ) → is_some (finite.get m k) ≡ true → finite.len (finite.remove m k) + 1 ≡ finite.len m
len_without m k some =
    let less : finite.len (finite.remove m k) ≡ finite.len m - 1 =
    finite.len-remove nat_cmp_total m k ∙ ap (λ (b : Bool). cond b (finite.len m - 1) (finite.len m)) some in
    omega (arith, less, len_some m k some)

first_is : (m : Requests) (e : ℕ × Request) (es : List (ℕ × Request)) → finite.entries m ≡ e ∷ es → finite.get m e.0 ≡ Some e.1
first_is m e es is =
    finite.get-entries m e.0 ∙ ap (finite.find nat_cmp e.0) is
    ∙ ap (λ (b : Bool). cond b (Some e.1) (finite.find nat_cmp e.0 es)) ((eq_by_cmp_equiv nat_cmp_total).refl e.0)

-- a map that is not empty has a request
pub some_key : (m : Requests) → (finite.len m ≡ 0 → ⊥) → (number : ℕ) × (request : Request) × (finite.get m number ≡ Some request)
some_key m some = at (finite.entries m) refl
  where
    at : (es : List (ℕ × Request)) → finite.entries m ≡ es → (number : ℕ) × (request : Request) × (finite.get m number ≡ Some request)
    at [] is = absurd (some (finite.len-entries m ∙ ap length is))
    at (e ∷ es) is = (e.0, e.1, first_is m e es is)

passes : (b : Bool) (o : Option Request) → is_some (cond b None o) ≡ true → (b ≡ false) × (is_some o ≡ true)
passes true o has = absurd (true≢false (sym has))
passes false o has = (refl, has)

abbrev Within : Requests → Requests → Type 0
Within m n = (q : ℕ) → is_some (finite.get m q) ≡ true → is_some (finite.get n q) ≡ true

within_rest : (m n : Requests) (k : ℕ) → Within m n → Within (finite.remove m k) (finite.remove n k)
within_rest m n k within q has =
    let part : (eq_by_cmp nat_cmp q k ≡ false) × (is_some (finite.get m q) ≡ true) =
    passes (eq_by_cmp nat_cmp q k) (finite.get m q) (ap is_some (sym (finite.get-remove nat_cmp_total m k q)) ∙ has) in
    ap is_some (finite.get-remove nat_cmp_total n k q ∙ ap (λ (b : Bool). cond b None (finite.get n q)) part.0) ∙ within q part.1

-- a map that has no other numbers has no more requests
len_within : (bound : ℕ) (m n : Requests) → finite.len m ≤ bound → Within m n → finite.len m ≤ finite.len n
len_within zero m n few within = omega (arith, few)
len_within (suc bound) m n few within = at (finite.entries m) refl (λ k. len_within bound (finite.remove m k) (finite.remove n k))
  where
    at : (es : List (ℕ × Request)) → finite.entries m ≡ es
        → ((k : ℕ) → finite.len (finite.remove m k) ≤ bound → Within (finite.remove m k) (finite.remove n k)
        → finite.len (finite.remove m k) ≤ finite.len (finite.remove n k))
        → finite.len m ≤ finite.len n
    at [] is less = omega (arith, finite.len-entries m ∙ ap length is)
    at (e ∷ es) is less =
        let has : is_some (finite.get m e.0) ≡ true = ap is_some (first_is m e es is) in
        let one_less : finite.len (finite.remove m e.0) + 1 ≡ finite.len m = len_without m e.0 has in
        let other_less : finite.len (finite.remove n e.0) + 1 ≡ finite.len n = len_without n e.0 (within e.0 has) in
        omega (arith, one_less, other_less, less e.0 (omega (arith, one_less, few)) (within_rest m n e.0 within))

kept_some : (b : Bool) (o : Option Request) → is_some (cond b o None) ≡ true → is_some o ≡ true
kept_some true o has = has
kept_some false o has = absurd (true≢false (sym has))

pub len_kept : (m : Requests) (p : ℕ → Bool) → finite.len (finite.retain_keys m p) ≤ finite.len m
len_kept m p =
    len_within (finite.len (finite.retain_keys m p)) (finite.retain_keys m p) m (omega arith) (λ q has. kept_some (p q) (finite.get m q)
    (ap is_some (sym (finite.get-retain_keys m p q (λ x t. ap p (sym (finite.nat_cmp-IsAntisymmetric q x t))))) ∙ has))

pub len_removed : (m : Requests) (k : ℕ) → finite.len (finite.remove m k) ≤ finite.len m
len_removed m k = rw (finite.len-remove nat_cmp_total m k) (at (finite.contains_key m k))
  where
    at : (b : Bool) → cond b (finite.len m - 1) (finite.len m) ≤ finite.len m
    at true = omega arith
    at false = omega arith
