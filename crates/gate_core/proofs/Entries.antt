-- The entries of a table as a finite map.
use Rattle.std.proofs.Common.{◌≡◌, ℕ, Bool, true, false, cond, List, [], ◌∷◌, length, Option, Some, None}
use Rattle.std.proofs.Common.{refl, sym, ap, ◌∙◌, arith}
use Rattle.std.specs.List.{AllByRecursion}
use Rattle.std.specs.List.Sorted.{IsStrictlySortedBy}
use Rattle.std.specs.Ordering.{nat_cmp, eq_by_cmp}
use Rattle.std.specs.declared.cmp.Ordering.TheVariants.{Less}
use Rattle.std.specs.Cmp.{nat_cmp_total, eq_by_cmp_equiv, unsigned_tied}
use Rattle.std.proofs.lemmas.Bool.{eq-eqb, eqb-true, ne_eqb}
use Rattle.std.specs.FinMap as finite
use Rattle.std.specs.Map.{lookup, keys_of}
use Rattle.std.specs.BTreeMap.{BTreeMap, is_at, Updates}
use Rattle.std.proofs.lemmas.Map.Keys.{sorted_head, sorted_tail}
use Rattle.gate_core.specs.Tables.{map_of}

tied : (q k : ℕ) → q ≡ k → eq_by_cmp nat_cmp q k ≡ true
tied q k e = unsigned_tied q k ∙ eq-eqb q k e

apart : (q k : ℕ) → (q ≡ k → ⊥) → eq_by_cmp nat_cmp q k ≡ false
apart q k d = unsigned_tied q k ∙ ne_eqb q k d

module _ {X : Type 0} where
  find_lookup : (es : List (ℕ × X)) (q : ℕ) → finite.find nat_cmp q es ≡ lookup (is_at (nat_cmp q)) es
  find_lookup [] q = refl
  find_lookup (e ∷ es) q = ap (λ o. cond (eq_by_cmp nat_cmp q e.0) (Some e.1) o) (find_lookup es q)

  -- what the finite map has is what the table has
  pub get_is : (es : List (ℕ × X)) (q : ℕ) → finite.get (map_of es) q ≡ lookup (is_at (nat_cmp q)) es
  get_is es q = finite.get-from_entries nat_cmp_total es q ∙ find_lookup es q

  get_updated : (m n : BTreeMap ℕ X) (k : ℕ) (w : Option X) → Updates nat_cmp m n k w → (q : ℕ)
      → finite.get (map_of n.entries) q ≡ cond (eq_by_cmp nat_cmp q k) w (finite.get (map_of m.entries) q)
  get_updated m n k w h q =
      get_is n.entries q ∙ h.0 q
      ∙ ap (λ (b : Bool). cond b w (lookup (is_at (nat_cmp q)) m.entries)) ((eq_by_cmp_equiv nat_cmp_total).symm k q)
      ∙ ap (cond (eq_by_cmp nat_cmp q k) w) (sym (get_is m.entries q))

  -- the table after an insertion
  pub insert_is : (m n : BTreeMap ℕ X) (k : ℕ) (v : X) → Updates nat_cmp m n k (Some v)
      → map_of n.entries ≡ finite.insert (map_of m.entries) k v
  insert_is m n k v h =
      finite.same_map nat_cmp_total finite.nat_cmp-IsAntisymmetric _ _ (λ q. get_updated m n k (Some v) h q
      ∙ sym (finite.get-insert nat_cmp_total (map_of m.entries) k v q))

  -- the table after a removal
  pub remove_is : (m n : BTreeMap ℕ X) (k : ℕ) → Updates nat_cmp m n k None → map_of n.entries ≡ finite.remove (map_of m.entries) k
  remove_is m n k h =
      finite.same_map nat_cmp_total finite.nat_cmp-IsAntisymmetric _ _ (λ q. get_updated m n k None h q
      ∙ sym (finite.get-remove nat_cmp_total (map_of m.entries) k q))

  -- a number below each key is absent
  absent : (q : ℕ) (es : List (ℕ × X)) → AllByRecursion (λ y. nat_cmp q y ≡ Less) (keys_of es) → finite.get (map_of es) q ≡ None
  absent q es below = finite.get-from_entries nat_cmp_total es q ∙ none es below
    where
      none : (es : List (ℕ × X)) → AllByRecursion (λ y. nat_cmp q y ≡ Less) (keys_of es) → finite.find nat_cmp q es ≡ None
      none [] below = refl
      none (e ∷ es) below = rw below.0 (none es below.1)

  pub len_is : (es : List (ℕ × X)) → IsStrictlySortedBy nat_cmp (keys_of es) → finite.len (map_of es) ≡ length es
  len_is [] sorted = finite.len-empty nat_cmp X
  len_is (e ∷ es) sorted =
      finite.len-insert nat_cmp_total (map_of es) e.0 e.1
      ∙ rw (absent e.0 es (sorted_head nat_cmp e.0 (keys_of es) sorted))
      (omega (arith, len_is es (sorted_tail nat_cmp e.0 (keys_of es) sorted)))

  -- what is taken out and put back is what is put
  pub put_back : (m : finite.FinMap nat_cmp X) (k : ℕ) (v : X) → finite.insert (finite.remove m k) k v ≡ finite.insert m k v
  put_back m k v = finite.same_map nat_cmp_total finite.nat_cmp-IsAntisymmetric _ _ (λ q.
      finite.get-insert nat_cmp_total (finite.remove m k) k v q
      ∙ ap (λ o. cond (eq_by_cmp nat_cmp q k) (Some v) o) (finite.get-remove nat_cmp_total m k q)
      ∙ twice (eq_by_cmp nat_cmp q k) (Some v) None (finite.get m q)
      ∙ sym (finite.get-insert nat_cmp_total m k v q))
    where
      twice : (b : Bool) (x y z : Option X) → cond b x (cond b y z) ≡ cond b x z
      twice true x y z = refl
      twice false x y z = refl

  -- ---- what is there after a change

  pub put_here : (m : finite.FinMap nat_cmp X) (k : ℕ) (v : X) → finite.get (finite.insert m k v) k ≡ Some v
  put_here m k v = finite.get-insert nat_cmp_total m k v k ∙ ap (λ (b : Bool). cond b (Some v) (finite.get m k)) (tied k k refl)

  pub put_elsewhere : (m : finite.FinMap nat_cmp X) (k : ℕ) (v : X) (q : ℕ) → (q ≡ k → ⊥) → finite.get (finite.insert m k v) q ≡ finite.get m q
  put_elsewhere m k v q d =
      finite.get-insert nat_cmp_total m k v q ∙ ap (λ (b : Bool). cond b (Some v) (finite.get m q)) (apart q k d)

  pub gone_here : (m : finite.FinMap nat_cmp X) (k : ℕ) → finite.get (finite.remove m k) k ≡ None
  gone_here m k = finite.get-remove nat_cmp_total m k k ∙ ap (λ (b : Bool). cond b None (finite.get m k)) (tied k k refl)

  pub gone_elsewhere : (m : finite.FinMap nat_cmp X) (k q : ℕ) → (q ≡ k → ⊥) → finite.get (finite.remove m k) q ≡ finite.get m q
  gone_elsewhere m k q d =
      finite.get-remove nat_cmp_total m k q ∙ ap (λ (b : Bool). cond b None (finite.get m q)) (apart q k d)

  same_get : (m : finite.FinMap nat_cmp X) (k : ℕ) (v : X) → finite.get m k ≡ Some v → (q : ℕ) (b : Bool) → eq_by_cmp nat_cmp q k ≡ b
      → cond b (Some v) (finite.get m q) ≡ finite.get m q
  same_get m k v is q true e = sym is ∙ ap (finite.get m) (sym (eqb-true q k (sym (unsigned_tied q k) ∙ e)))
  same_get m k v is q false e = refl

  -- what is taken out and put back unchanged leaves all as it was
  pub put_same : (m : finite.FinMap nat_cmp X) (k : ℕ) (v : X) → finite.get m k ≡ Some v → finite.insert (finite.remove m k) k v ≡ m
  put_same m k v is = finite.same_map nat_cmp_total finite.nat_cmp-IsAntisymmetric _ _ (λ q.
      ap (λ (n : finite.FinMap nat_cmp X). finite.get n q) (put_back m k v) ∙ finite.get-insert nat_cmp_total m k v q
      ∙ same_get m k v is q (eq_by_cmp nat_cmp q k) refl)

  none_get : (m : finite.FinMap nat_cmp X) (k : ℕ) → finite.get m k ≡ None → (q : ℕ) (b : Bool) → eq_by_cmp nat_cmp q k ≡ b
      → cond b None (finite.get m q) ≡ finite.get m q
  none_get m k is q true e = sym is ∙ ap (finite.get m) (sym (eqb-true q k (sym (unsigned_tied q k) ∙ e)))
  none_get m k is q false e = refl

  -- nothing is taken out where there is nothing
  pub gone_none : (m : finite.FinMap nat_cmp X) (k : ℕ) → finite.get m k ≡ None → finite.remove m k ≡ m
  gone_none m k is = finite.same_map nat_cmp_total finite.nat_cmp-IsAntisymmetric _ _ (λ q.
      finite.get-remove nat_cmp_total m k q ∙ none_get m k is q (eq_by_cmp nat_cmp q k) refl)
