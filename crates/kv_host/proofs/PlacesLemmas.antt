-- What a write to a place does to the values, and that places stay.
use Rattle.std.proofs.Common.{◌≡◌, ℕ, ◌+◌, ◌≤◌, Bool, true, false, cond, List, [], ◌∷◌, length, Option, Some, None, is_some, refl, sym, ap, subst}
use Rattle.std.proofs.Common.{◌∙◌, IsTrue, arith}
use Rattle.std.specs.Option.{option_flatten}
use Rattle.std.specs.Ordering.{nat_cmp, eq_by_cmp}
use Rattle.std.specs.Cmp.Lexicographic.{slice_cmp, texts_ties, nat_list_cmp_total, nat_list_eq_equiv}
use Rattle.std.specs.FinMap as finite
use Rattle.std.proofs.lemmas.Map.Lookups.{exact_bytes}
use Rattle.kv_host.specs.declared.undo.KvUndo.{KvUndo}
use Rattle.kv_host.specs.Values.{Kv, with_value}
use Rattle.kv_host.specs.Places.{Place, Places, values_in, values_of, places, count_of, recounted, HasPlace}
use Rattle.kv_host.specs.Laws.{get-with_value, write_same}

flatten-cond : (b : Bool) (w : Option (List ℕ)) (o : Option (Option (List ℕ)))
    → cond b w (option_flatten o) ≡ option_flatten (cond b (Some w) o)
flatten-cond true w o = refl
flatten-cond false w o = refl

get-values_in : (es : List (List ℕ × Option (List ℕ))) (q : List ℕ)
    → finite.get (values_in es) q ≡ option_flatten (finite.find (slice_cmp nat_cmp) q es)
get-values_in [] q = finite.get-empty (slice_cmp nat_cmp) q
get-values_in (e ∷ es) q =
    get-with_value (values_in es) e.0 e.1 q
    ∙ ap (cond (eq_by_cmp (slice_cmp nat_cmp) q e.0) e.1) (get-values_in es q)
    ∙ flatten-cond (eq_by_cmp (slice_cmp nat_cmp) q e.0) e.1 (finite.find (slice_cmp nat_cmp) q es)

-- a key's value is what its place has
pub get-values_of : (places : Places) (q : List ℕ) → finite.get (values_of places) q ≡ option_flatten (finite.get places q)
get-values_of places q = get-values_in (finite.entries places) q ∙ ap option_flatten (sym (finite.get-entries places q))

pub values_of-insert : (places : Places) (key : List ℕ) (w : Option (List ℕ))
    → values_of (finite.insert places key w) ≡ with_value (values_of places) key w
values_of-insert places key w =
    finite.same_map nat_list_cmp_total exact_bytes _ _ (λ q.
    get-values_of (finite.insert places key w) q
    ∙ ap option_flatten (finite.get-insert nat_list_cmp_total places key w q)
    ∙ sym (flatten-cond (eq_by_cmp (slice_cmp nat_cmp) q key) w (finite.get places q))
    ∙ ap (cond (eq_by_cmp (slice_cmp nat_cmp) q key) w) (sym (get-values_of places q))
    ∙ sym (get-with_value (values_of places) key w q))

-- what is written to a place is there
pub get-written : (places : Places) (key : List ℕ) (w : Option (List ℕ)) → finite.get (finite.insert places key w) key ≡ Some w
get-written places key w =
    finite.get-insert nat_list_cmp_total places key w key
    ∙ ap (λ (b : Bool). cond b (Some w) (finite.get places key)) (sym (texts_ties key key) ∙ nat_list_eq_equiv.refl key)

kept : (b : Bool) (w : Option (List ℕ)) (o : Option (Option (List ℕ))) → IsTrue (is_some o) → IsTrue (is_some (cond b (Some w) o))
kept true w o h = refl
kept false w o h = h

-- no place goes
pub HasPlace-insert : (places : Places) (key : List ℕ) (w : Option (List ℕ)) (u : Option KvUndo) → HasPlace places u
    → HasPlace (finite.insert places key w) u
HasPlace-insert places key w None h = h
HasPlace-insert places key w (Some u) h =
    subst (λ (o : Option (Option (List ℕ))). IsTrue (is_some o)) (sym (finite.get-insert nat_list_cmp_total places key w u.key))
    (kept (eq_by_cmp (slice_cmp nat_cmp) u.key key) w (finite.get places u.key) h)

-- and the key that is written has one
pub HasPlace-written : (places : Places) (key : List ℕ) (w v : Option (List ℕ))
    → HasPlace (finite.insert places key w) (Some (record { key = key; value = v }))
HasPlace-written places key w v = ap is_some (get-written places key w)

-- a key whose place has this has it as its value
pub value_from_place : (places : Places) (key : List ℕ) (w : Option (List ℕ)) → finite.get places key ≡ Some w
    → finite.get (values_of places) key ≡ w
value_from_place places key w e = get-values_of places key ∙ ap option_flatten e

-- a key without a place has no value
pub value_without_place : (places : Places) (key : List ℕ) → finite.get places key ≡ None → finite.get (values_of places) key ≡ None
value_without_place places key e = get-values_of places key ∙ ap option_flatten e

-- a key without a value is left as it is
pub remove_absent : (places : Places) (key : List ℕ) → finite.get (values_of places) key ≡ None
    → values_of places ≡ finite.remove (values_of places) key
remove_absent places key e = sym (ap (with_value (values_of places) key) (sym e) ∙ write_same (values_of places) key)

-- before any write there is no value
pub values_of-empty : values_of finite.empty ≡ finite.empty
values_of-empty =
    finite.same_map nat_list_cmp_total exact_bytes _ _ (λ q. get-values_of finite.empty q
    ∙ ap option_flatten (finite.get-empty (slice_cmp nat_cmp) q) ∙ sym (finite.get-empty (slice_cmp nat_cmp) q))

-- ---- how many keys have a value

-- a write to a key takes their count along
pub recount_written : (kv : Kv) (key : List ℕ) (w : Option (List ℕ))
    → finite.len (with_value kv key w) ≡ recounted (finite.len kv) (is_some (finite.get kv key)) (is_some w)
recount_written kv key None = finite.len-remove nat_list_cmp_total kv key
recount_written kv key (Some v) = finite.len-insert nat_list_cmp_total kv key v

grown : (a b : Bool) (n : ℕ) → recounted n a b ≤ n + 1
grown true true n = omega arith
grown true false n = omega arith
grown false true n = omega arith
grown false false n = omega arith

len-values_in : (es : List Place) → finite.len (values_in es) ≤ length es
len-values_in [] = rw (finite.len-empty (slice_cmp nat_cmp) (List ℕ)) (omega arith)
len-values_in (e ∷ es) =
    let few = len-values_in es in
    let more = recount_written (values_in es) e.0 e.1 in
    let most = grown (is_some (finite.get (values_in es) e.0)) (is_some e.1) (finite.len (values_in es)) in
    omega (arith, few, more, most)

len-from_entries : (es : List Place) → finite.len (places es) ≤ length es
len-from_entries [] = rw (finite.len-empty (slice_cmp nat_cmp) (Option (List ℕ))) (omega arith)
len-from_entries (e ∷ es) =
    let few = len-from_entries es in
    let more = finite.len-insert nat_list_cmp_total (places es) e.0 e.1 in
    let most = grown (finite.contains_key (places es) e.0) true (finite.len (places es)) in
    omega (arith, few, more, most)

-- no more keys than places have a value
pub count_of-le : (table : List Place) → count_of table ≤ length table
count_of-le table =
    let few = len-values_in (finite.entries (places table)) in
    let same = finite.len-entries (places table) in
    let all = len-from_entries table in
    omega (arith, few, same, all)

-- the count once a key was written, which had this before
pub count_of-written : (old new : List Place) (key : List ℕ) (had : Option (List ℕ)) (w : Option (List ℕ))
    → finite.get (values_of (places old)) key ≡ had → places new ≡ finite.insert (places old) key w
    → recounted (count_of old) (is_some had) (is_some w) ≡ count_of new
count_of-written old new key had w e written =
    sym (ap (λ (p : Places). finite.len (values_of p)) written
    ∙ ap finite.len (values_of-insert (places old) key w)
    ∙ recount_written (values_of (places old)) key w
    ∙ ap (λ (o : Option (List ℕ)). recounted (count_of old) (is_some o) (is_some w)) e)

pub count_of-empty : count_of [] ≡ 0
count_of-empty = ap finite.len values_of-empty ∙ finite.len-empty (slice_cmp nat_cmp) (List ℕ)

pub ruleset place_writes = (values_of-insert, value_from_place, value_without_place, remove_absent, HasPlace-insert, HasPlace-written)
