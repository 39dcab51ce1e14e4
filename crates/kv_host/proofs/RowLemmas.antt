-- The places that have a value, in the order of the table and in that of their keys.
use Rattle.std.proofs.Common.{◌≡◌, ℕ, suc, ◌+◌, length, Bool, true, false, cond, List, [], ◌∷◌, ◌++◌, map, get_or}
use Rattle.std.proofs.Common.{Option, Some, None, Bor, refl, sym, ap, subst, ◌∙◌, true≢false, arith}
use Rattle.std.specs.Option.{option_map, option_flatten, option_to_list}
use Rattle.std.specs.Ordering.{nat_cmp, eq_by_cmp, is_lt, is_eq, ordering_then, ordering_reverse}
use Rattle.std.specs.declared.cmp.Ordering.{Ordering}
use Rattle.std.specs.declared.cmp.Ordering.TheVariants.{Less, Equal, Greater}
use Rattle.std.specs.Cmp.Lexicographic.{slice_cmp, texts_ties, nat_list_cmp_total}
use Rattle.std.specs.FinMap as finite
use Rattle.std.specs.Global.{Vec}
use Rattle.std.specs.List.{AllByRecursion, IsDistinct, sum_by}
use Rattle.std.specs.List.Sorted.{IsPermutation, IsSortedBy}
use Rattle.std.specs.Map.{lookup, keys_of}
use Rattle.std.specs.Map.Iter.{deref_pair}
use Rattle.std.proofs.lemmas.Cmp.{eq_by_cmp_equiv}
use Rattle.std.proofs.lemmas.List.{length-append}
use Rattle.std.proofs.lemmas.List.Concat.{length-flat_map}
use Rattle.std.proofs.lemmas.List.Folds.{flat_map-map}
use Rattle.std.proofs.lemmas.List.Sorted.{IsPermutation-map}
use Rattle.std.proofs.lemmas.Map.Keys.{IsDistinct-IsPermutation}
use Rattle.std.proofs.lemmas.Map.Lookups.{exact_bytes}
use Rattle.indexmap.proofs.MapLemmas.{lookup_permutation}
use Rattle.kv_host.specs.Values.{Kv}
use Rattle.kv_host.specs.Places.{Place, plain, present, places, values_of, IsListOf}
use Rattle.kv_host.specs.SavedLaws.{Entry, Rising, Rises, with_entries, entries-all, length-field, same_key as same_bytes}
use Rattle.kv_host.specs.Saved.{entry_bytes, spelled_entries}
use Rattle.kv_host.specs.Spelling.{field}
use Rattle.kv_host.proofs.PlacesLemmas.{get-values_of}
use Rattle.kv_host.proofs.TableLemmas.{same_key}

abbrev Order : List ℕ → List ℕ → Ordering
Order = slice_cmp nat_cmp

abbrev eq : List ℕ → List ℕ → Bool
eq = eq_by_cmp Order

-- none of the keys is this one
abbrev IsApart : List ℕ → List (List ℕ) → Type 0
IsApart key keys = AllByRecursion (λ k. eq key k ≡ false) keys

-- ---- the places that have a value

abbrev shown : List ℕ → Option (List ℕ) → List Entry
shown key value = option_to_list (option_map (λ v. (key, v)) value)

not_shown : (x key : List ℕ) (o : Option (List ℕ)) (rest : List Entry) → eq x key ≡ false → finite.find Order x rest ≡ None
    → finite.find Order x (shown key o ++ rest) ≡ None
not_shown x key None rest e none = none
not_shown x key (Some v) rest e none = rw e none

find-absent : (x : List ℕ) (ps : List Place) → IsApart x (keys_of ps) → finite.find Order x (present ps) ≡ None
find-absent x [] h = refl
find-absent x (p ∷ ps) h = not_shown x p.0 p.1 (present ps) h.0 (find-absent x ps h.1)

find-shown : (q key : List ℕ) (o : Option (List ℕ)) (ps : List Place) (b : Bool) → eq q key ≡ b → IsApart key (keys_of ps)
    → finite.find Order q (present ps) ≡ option_flatten (finite.find Order q ps)
    → finite.find Order q (shown key o ++ present ps) ≡ option_flatten (cond b (Some o) (finite.find Order q ps))
find-shown q key None ps true tie apart later =
    ap (λ (r : List ℕ). finite.find Order r (present ps)) (same_bytes q key tie) ∙ find-absent key ps apart
find-shown q key None ps false tie apart later = later
find-shown q key (Some v) ps true tie apart later = rw tie refl
find-shown q key (Some v) ps false tie apart later = rw tie later

find-present : (q : List ℕ) (ps : List Place) → IsDistinct eq (keys_of ps)
    → finite.find Order q (present ps) ≡ option_flatten (finite.find Order q ps)
unfolding IsDistinct
find-present q [] d = refl
find-present q (p ∷ ps) d = find-shown q p.0 p.1 ps (eq q p.0) refl d.0 (find-present q ps d.1)

apart-shown : (x key : List ℕ) (o : Option (List ℕ)) (rest : List Entry) → eq x key ≡ false → IsApart x (keys_of rest)
    → IsApart x (keys_of (shown key o ++ rest))
apart-shown x key None rest e h = h
apart-shown x key (Some v) rest e h = (e, h)

apart-present : (x : List ℕ) (ps : List Place) → IsApart x (keys_of ps) → IsApart x (keys_of (present ps))
apart-present x [] h = tt
apart-present x (p ∷ ps) h = apart-shown x p.0 p.1 (present ps) h.0 (apart-present x ps h.1)

distinct-shown : (key : List ℕ) (o : Option (List ℕ)) (rest : List Entry) → IsApart key (keys_of rest) → IsDistinct eq (keys_of rest)
    → IsDistinct eq (keys_of (shown key o ++ rest))
unfolding IsDistinct
distinct-shown key None rest apart d = d
distinct-shown key (Some v) rest apart d = (apart, d)

distinct-present : (ps : List Place) → IsDistinct eq (keys_of ps) → IsDistinct eq (keys_of (present ps))
unfolding IsDistinct
distinct-present [] d = tt
distinct-present (p ∷ ps) d = distinct-shown p.0 p.1 (present ps) (apart-present p.0 ps d.0) (distinct-present ps d.1)

apart-plain : (k : Vec ℕ) (es : List (Vec ℕ × Option (List ℕ))) → AllByRecursion (λ y. same_key k y ≡ false) (keys_of es)
    → IsApart k.items (keys_of (plain es))
apart-plain k [] h = tt
apart-plain k (e ∷ es) h = (sym (texts_ties k.items e.0.items) ∙ h.0, apart-plain k es h.1)

distinct-plain : (es : List (Vec ℕ × Option (List ℕ))) → IsDistinct same_key (keys_of es) → IsDistinct eq (keys_of (plain es))
unfolding IsDistinct
distinct-plain [] d = tt
distinct-plain (e ∷ es) d = (apart-plain e.0 es d.0, distinct-plain es d.1)

-- the places of a table that have a value are the entries of its map
pub listed : (es : List (Vec ℕ × Option (List ℕ))) → IsDistinct same_key (keys_of es)
    → IsListOf (values_of (places (plain es))) (present (plain es))
listed es unique =
    let ps = plain es in
    let d = distinct-plain es unique in
    record {
      distinct = distinct-present ps d;
      has = λ q.
          find-present q ps d
          ∙ sym (get-values_of (places ps) q ∙ ap option_flatten (finite.get-from_entries nat_list_cmp_total ps q));
    }

-- ---- sorted

find-lookup : (es : List Entry) (q : List ℕ) → finite.find Order q es ≡ lookup (eq q) es
find-lookup [] q = refl
find-lookup (e ∷ es) q = ap (cond (eq q e.0) (Some e.1)) (find-lookup es q)

pub reordered : (kv : Kv) (es fs : List Entry) → IsPermutation es fs → IsListOf kv es → IsListOf kv fs
reordered kv es fs moves list =
    let equal = eq_by_cmp_equiv nat_list_cmp_total in
    let d = IsDistinct-IsPermutation eq equal.symm (keys_of es) (keys_of fs) (IsPermutation-map (λ e. e.0) es fs moves) list.distinct in
    record {
      distinct = d;
      has = λ q.
          find-lookup fs q ∙ lookup_permutation equal es fs moves d (eq q) (equal.congr q) ∙ sym (find-lookup es q) ∙ list.has q;
    }

not_less : (a b : Ordering) → is_lt (ordering_then a b) ≡ false → is_lt a ≡ false
not_less Less b e = absurd (true≢false e)
not_less Equal b e = refl
not_less Greater b e = refl

before : (o p : Ordering) → p ≡ ordering_reverse o → is_lt p ≡ false → is_eq o ≡ false → o ≡ Less
before Less p e h k = refl
before Equal p e h k = absurd (true≢false k)
before Greater p e h k = absurd (true≢false (sym (ap is_lt e) ∙ h))

abbrev Row : Type 0
Row = Bor (List ℕ) × Bor (List ℕ)

abbrev row_lt : Row → Row → Bool
row_lt x y = is_lt (ordering_then (Order x.0.now y.0.now) (Order x.1.now y.1.now))

tail_sorted : (x y : Row) (ys : List Row) → IsSortedBy row_lt (x ∷ y ∷ ys) → IsSortedBy row_lt (y ∷ ys)
tail_sorted x y ys sorted k e low high =
    let one : suc k + 1 ≡ suc (k + 1) = omega arith in
    subst (λ (n : ℕ). row_lt (get_or (x ∷ y ∷ ys) n e) (get_or (y ∷ ys) k e) ≡ false) one
    (sorted (suc k) e (omega arith) (omega (arith, high)))

rising_rows : (x : Row) (xs : List Row) → IsSortedBy row_lt (x ∷ xs) → IsDistinct eq (keys_of (map deref_pair (x ∷ xs)))
    → Rising x.0.now (map deref_pair xs)
unfolding IsDistinct
rising_rows x [] sorted d = tt
rising_rows x (y ∷ ys) sorted d = (
  before (Order x.0.now y.0.now) (Order y.0.now x.0.now) (nat_list_cmp_total.antisymm y.0.now x.0.now)
      (not_less _ (Order y.1.now x.1.now) (sorted 0 x (omega arith) (omega arith))) d.0.0,
  rising_rows y ys (tail_sorted x y ys sorted) d.1,
)

rises : (xs : List Row) → IsSortedBy row_lt xs → IsDistinct eq (keys_of (map deref_pair xs)) → Rises (map deref_pair xs)
rises [] sorted d = tt
rises (x ∷ xs) sorted d = rising_rows x xs sorted d

entries_listed : (kv : Kv) (es : List Entry) → Rises es → ((q : List ℕ) → finite.find Order q es ≡ finite.get kv q)
    → finite.entries kv ≡ es
entries_listed kv es up has =
    let m = with_entries finite.empty es in
    let all : finite.entries m ≡ es = entries-all es up in
    let same : m ≡ kv =
    finite.same_map nat_list_cmp_total exact_bytes m kv
    (λ q. finite.get-entries m q ∙ ap (finite.find Order q) all ∙ has q) in
    sym (ap finite.entries same) ∙ all

-- the entries of a map, sorted, are its entries in the keys' order
pub sorted_entries : (kv : Kv) (old new : List Row) → IsListOf kv (map deref_pair old) → IsPermutation old new → IsSortedBy row_lt new
    → map deref_pair new ≡ finite.entries kv
sorted_entries kv old new list moves sorted =
    let es = map deref_pair new in
    let again = reordered kv (map deref_pair old) es (IsPermutation-map deref_pair old new moves) list in
    sym (entries_listed kv es (rises new sorted again.distinct) again.has)

-- ---- how many bytes rows take

length-row : (key value : List ℕ) → length (field key ++ field value) ≡ 4 + length key + length value
length-row key value =
    let whole = length-append (field key) (field value) in
    let prefix = length-field key in
    let back = length-field value in
    omega (arith, whole, prefix, back)

pub length-rows : (rows : List Row) → length (spelled_entries (map deref_pair rows)) ≡ sum_by (λ r. 4 + length r.0.now + length r.1.now) rows
length-rows rows =
    ap length (flat_map-map entry_bytes deref_pair rows)
    ∙ length-flat_map (λ (r : Row). entry_bytes (deref_pair r)) rows
    ∙ ap (λ (f : Row → ℕ). sum_by f rows) (λ i r. length-row r.0.now r.1.now i)
