-- The entries of a table as a finite map.
use Rattle.std.proofs.Common.{◌≡◌, ℕ, ◌<◌, ◌≤◌, Bool, true, false, cond, List, [], ◌∷◌, length, Option, Some, None, IsSome, is_some, IfSome}
use Rattle.std.proofs.Common.{true≢false, refl, sym, ap, ◌∙◌, arith}
use Rattle.std.specs.List.{AllByRecursion}
use Rattle.std.specs.List.Sorted.{IsStrictlySortedBy}
use Rattle.std.specs.Ordering.{nat_cmp, eq_by_cmp, is_gt}
use Rattle.std.specs.declared.cmp.Ordering.TheVariants.{Less}
use Rattle.std.specs.Cmp.{nat_cmp_total, eq_by_cmp_equiv}
use Rattle.std.specs.FinMap as finite
use Rattle.std.specs.Map.{lookup, keys_of}
use Rattle.std.specs.BTreeMap.{IsLowerBound, BTreeMap, is_at, Updates}
use Rattle.std.proofs.lemmas.Bool.Decides.{nat_tests}
use Rattle.std.proofs.lemmas.Map.Keys.{sorted_head, sorted_tail}
use Rattle.nop_types.specs.declared.request.Request.{Request}
use Rattle.lemmas.proofs.Numbers.{not_tied}
use Rattle.oum_receiver.specs.Requests.{Requests, is_from}
use Rattle.oum_receiver.specs.Table.{map_of, starts_below}

find_lookup : (es : List (ℕ × Request)) (q : ℕ) → finite.find nat_cmp q es ≡ lookup (is_at (nat_cmp q)) es
find_lookup [] q = refl
find_lookup (e ∷ es) q = ap (λ o. cond (eq_by_cmp nat_cmp q e.0) (Some e.1) o) (find_lookup es q)

-- what the finite map has is what the table has
pub get_is : (es : List (ℕ × Request)) (q : ℕ) → finite.get (map_of es) q ≡ lookup (is_at (nat_cmp q)) es
get_is es q = finite.get-from_entries nat_cmp_total es q ∙ find_lookup es q

module _ (m n : BTreeMap ℕ Request) (k : ℕ) (w : Option Request) (h : Updates nat_cmp m n k w) where
  get_updated : (q : ℕ) → finite.get (map_of n.entries) q ≡ cond (eq_by_cmp nat_cmp q k) w (finite.get (map_of m.entries) q)
  get_updated q =
      get_is n.entries q ∙ h.0 q
      ∙ ap (λ (b : Bool). cond b w (lookup (is_at (nat_cmp q)) m.entries)) ((eq_by_cmp_equiv nat_cmp_total).symm k q)
      ∙ ap (cond (eq_by_cmp nat_cmp q k) w) (sym (get_is m.entries q))

-- the table after an insertion
pub insert_is : (m n : BTreeMap ℕ Request) (k : ℕ) (v : Request) → Updates nat_cmp m n k (Some v)
    → map_of n.entries ≡ finite.insert (map_of m.entries) k v
insert_is m n k v h =
    finite.same_map nat_cmp_total finite.nat_cmp-IsAntisymmetric _ _ (λ q. get_updated m n k (Some v) h q
    ∙ sym (finite.get-insert nat_cmp_total (map_of m.entries) k v q))

-- the table after a removal
pub remove_is : (m n : BTreeMap ℕ Request) (k : ℕ) → Updates nat_cmp m n k None → map_of n.entries ≡ finite.remove (map_of m.entries) k
remove_is m n k h =
    finite.same_map nat_cmp_total finite.nat_cmp-IsAntisymmetric _ _ (λ q. get_updated m n k None h q
    ∙ sym (finite.get-remove nat_cmp_total (map_of m.entries) k q))

-- a number below each key is absent
absent : (q : ℕ) (es : List (ℕ × Request)) → AllByRecursion (λ y. nat_cmp q y ≡ Less) (keys_of es) → finite.get (map_of es) q ≡ None
absent q es below = finite.get-from_entries nat_cmp_total es q ∙ none es below
  where
    none : (es : List (ℕ × Request)) → AllByRecursion (λ y. nat_cmp q y ≡ Less) (keys_of es) → finite.find nat_cmp q es ≡ None
    none [] below = refl
    none (e ∷ es) below = rw below.0 (none es below.1)

pub len_is : (es : List (ℕ × Request)) → IsStrictlySortedBy nat_cmp (keys_of es) → finite.len (map_of es) ≡ length es
len_is [] sorted = finite.len-empty nat_cmp Request
len_is (e ∷ es) sorted =
    finite.len-insert nat_cmp_total (map_of es) e.0 e.1
    ∙ rw (absent e.0 es (sorted_head nat_cmp e.0 (keys_of es) sorted))
    (omega (arith, len_is es (sorted_tail nat_cmp e.0 (keys_of es) sorted)))

-- what is there from a number on
pub get_kept : (m : Requests) (next q : ℕ)
    → finite.get (finite.retain_keys m (is_from next)) q ≡ cond (is_from next q) (finite.get m q) None
get_kept m next q = finite.get-retain_keys m (is_from next) q (λ x t. ap (is_from next) (sym (finite.nat_cmp-IsAntisymmetric q x t)))

-- an entry below the number is dropped
drop_first : (next : ℕ) (e : ℕ × Request) (es : List (ℕ × Request)) → e.0 < next
    → finite.retain_keys (map_of (e ∷ es)) (is_from next) ≡ finite.retain_keys (map_of es) (is_from next)
drop_first next e es low =
    finite.same_map nat_cmp_total finite.nat_cmp-IsAntisymmetric _ _ (λ q. get_kept (map_of (e ∷ es)) next q ∙ same q (is_from next q) refl
    ∙ sym (get_kept (map_of es) next q))
  where
    same : (q : ℕ) (b : Bool) → is_from next q ≡ b → cond b (finite.get (map_of (e ∷ es)) q) None ≡ cond b (finite.get (map_of es) q) None
    same q true from =
        let apart : q ≡ e.0 → ⊥ = λ same. grind (arith, nat_tests, from, low, same) in
        finite.get-insert nat_cmp_total (map_of es) e.0 e.1 q
        ∙ ap (λ (b : Bool). cond b (Some e.1) (finite.get (map_of es) q)) (not_tied q e.0 apart)
    same q false from = refl

-- the entry that was popped stood below the number
pub drop_popped : (next : ℕ) (old new : List (ℕ × Request)) (popped : Option (ℕ × Request)) → starts_below next old ≡ true
    → (0 < length old → IsSome popped) → IfSome popped (λ e. old ≡ e ∷ new)
    → finite.retain_keys (map_of new) (is_from next) ≡ finite.retain_keys (map_of old) (is_from next)
drop_popped next [] new popped low some removal = absurd (true≢false (sym low))
drop_popped next (e ∷ es) new None low some removal = absurd (true≢false (sym (some (omega arith))))
drop_popped next (e ∷ es) new (Some p) low some removal =
    let rest : new ≡ es = cc in
    ap (λ xs. finite.retain_keys (map_of xs) (is_from next)) rest ∙ sym (drop_first next e es (grind (arith, nat_tests, low)))

-- where no number is below this one, none is dropped
drop_none : (next : ℕ) (m : Requests) → ((q : ℕ) → q < next → finite.get m q ≡ None) → finite.retain_keys m (is_from next) ≡ m
drop_none next m none =
    finite.same_map nat_cmp_total finite.nat_cmp-IsAntisymmetric _ _ (λ q. get_kept m next q ∙ same q (is_from next q) refl)
  where
    same : (q : ℕ) (b : Bool) → is_from next q ≡ b → cond b (finite.get m q) None ≡ finite.get m q
    same q true from = refl
    same q false from = sym (none q (grind (arith, nat_tests, from)))

pub drop_none_empty : (next : ℕ) (es : List (ℕ × Request)) → (0 < length es → ⊥) → finite.retain_keys (map_of es) (is_from next) ≡ map_of es
drop_none_empty next [] empty = drop_none next (map_of []) (λ q low. finite.get-empty nat_cmp q)
drop_none_empty next (e ∷ es) empty = absurd (empty (omega arith))

-- where the least number is not below this one, none is dropped
pub drop_none_least : (next least : ℕ) (m : BTreeMap ℕ Request) → IsLowerBound nat_cmp m least → next ≤ least
    → finite.retain_keys (map_of m.entries) (is_from next) ≡ map_of m.entries
drop_none_least next least m bound high =
    drop_none next (map_of m.entries) (λ q low. get_is m.entries q ∙ at q low (lookup (is_at (nat_cmp q)) m.entries) refl)
  where
    above : (q : ℕ) → q < next → is_gt (nat_cmp least q) ≡ true
    above q low = grind (arith, nat_tests, low, high)

    at : (q : ℕ) → q < next → (o : Option Request) → lookup (is_at (nat_cmp q)) m.entries ≡ o → o ≡ None
    at q low None is = refl
    at q low (Some x) is = absurd (true≢false (sym (above q low) ∙ bound q (ap is_some is)))
