-- The table as a finite map from bytes.
use Rattle.std.proofs.Common.{◌≡◌, ℕ, Bool, true, false, cond, List, [], ◌∷◌, slice_get, Option, Some, refl, sym, ap, ◌∙◌, true≢false}
use Rattle.std.proofs.Common.{◌≤◌, ◌<◌, length, nat_eq, arith}
use Rattle.std.specs.Ordering.{nat_cmp}
use Rattle.std.specs.Option.{option_map_or}
use Rattle.std.specs.Cmp.Lexicographic.{slice_cmp, pointwise, bytes_decides, nat_list_cmp_total, nat_list_eq_equiv}
use Rattle.std.specs.List.{AllZip}
use Rattle.std.specs.FinMap as finite
use Rattle.std.specs.Global.{Vec}
use Rattle.std.specs.Map.{lookup, lookup_key, KeepsOthers, IsKeyTest, AreApart}
use Rattle.std.proofs.lemmas.Cmp.{on_equiv}
use Rattle.std.proofs.lemmas.Map.Text.{is_eq-slice_cmp}
use Rattle.std.proofs.lemmas.Map.Lookups.{exact_bytes}
use Rattle.std.proofs.lemmas.Map.Entries.{hash_map_get_place}
use Rattle.std.proofs.lemmas.Map.Made.{lookup_key_passes}
use Rattle.indexmap.specs.IndexMap.{IndexMap, index_map_len, UpdatesBy, IsUnique, IsClone, with_value_at}
use Rattle.indexmap.proofs.CallerLemmas.{updates-with_value_at}
use Rattle.std.specs.Option.{option_map}
use Rattle.std.proofs.lemmas.List.{length-map}
use Rattle.std.proofs.lemmas.Option.{slice_get-map}
use Rattle.kv_host.specs.Places.{Place, plain, places, count_of, key_of}
use Rattle.kv_host.proofs.PlacesLemmas.{count_of-le}

-- whether the key has these bytes
abbrev pub sees : List ℕ → Vec ℕ → Bool
sees q k = pointwise nat_eq q k.items

abbrev pub same_key : Vec ℕ → Vec ℕ → Bool
same_key a b = pointwise nat_eq a.items b.items

find-plain : (es : List (Vec ℕ × Option (List ℕ))) (q : List ℕ) → finite.find (slice_cmp nat_cmp) q (plain es) ≡ lookup (sees q) es
find-plain [] q = refl
find-plain (e ∷ es) q = rw (is_eq-slice_cmp q e.0.items, find-plain es q) refl

other_keys : {X : Type 0} (test : Vec ℕ → Bool) (old new : List (Vec ℕ × X)) → KeepsOthers same_key test old new → (other : Vec ℕ → Bool)
    → IsKeyTest same_key other → AreApart test other → lookup other new ≡ lookup other old
unfolding KeepsOthers
other_keys test old new h = h

module _ {S : Type 0} where
  -- what a key's place has is what the table has at the key
  pub get-places : (m : IndexMap (Vec ℕ) (Option (List ℕ)) S) (q : List ℕ)
      → finite.get (places (plain m.entries)) q ≡ lookup (sees q) m.entries
  get-places m q = finite.get-from_entries nat_list_cmp_total _ q ∙ find-plain m.entries q

  pub within-plain : (m : IndexMap (Vec ℕ) (Option (List ℕ)) S) (i : ℕ) → i < index_map_len m → i < length (plain m.entries)
  within-plain m i h =
      let same = length-map {B = Place} m.entries (λ e. (e.0.items, e.1)) in
      omega (arith, h, same)

  -- no more keys than places have a value
  pub count_of-small : (m : IndexMap (Vec ℕ) (Option (List ℕ)) S) → count_of (plain m.entries) ≤ index_map_len m
  count_of-small m =
      let few = count_of-le (plain m.entries) in
      let same = length-map {B = Place} m.entries (λ e. (e.0.items, e.1)) in
      omega (arith, few, same)

  module _ (m n : IndexMap (Vec ℕ) (Option (List ℕ)) S) (key : List ℕ) (w : Option (List ℕ))
      (h : UpdatesBy same_key (sees key) m n (Some w)) where
    lookup_updated : (q : List ℕ) (b : Bool) → pointwise nat_eq q key ≡ b
        → lookup (sees q) n.entries ≡ cond b (Some w) (lookup (sees q) m.entries)
    lookup_updated q true e = ap (λ (k : List ℕ). lookup (sees k) n.entries) ((bytes_decides q key).0 e) ∙ h.1
    lookup_updated q false e =
        other_keys (sees key) m.entries n.entries h.3 (sees q) (λ x y. nat_list_eq_equiv.congr q x.items y.items)
        (λ k t. apart k t (sees q k) refl)
      where
        apart : (k : Vec ℕ) → sees key k ≡ true → (c : Bool) → sees q k ≡ c → sees q k ≡ false
        apart k t false f = f
        apart k t true f =
            absurd (true≢false (sym ((bytes_decides q key).1 ((bytes_decides q k.items).0 f ∙ sym ((bytes_decides key k.items).0 t))) ∙ e))

    get_updated : (q : List ℕ)
        → finite.get (places (plain n.entries)) q ≡ cond (pointwise nat_eq q key) (Some w) (finite.get (places (plain m.entries)) q)
    get_updated q =
        get-places n q ∙ lookup_updated q (pointwise nat_eq q key) refl ∙ ap (cond (pointwise nat_eq q key) (Some w)) (sym (get-places m q))

    -- the places after a write
    pub places-updated : places (plain n.entries) ≡ finite.insert (places (plain m.entries)) key w
    places-updated =
        finite.same_map nat_list_cmp_total exact_bytes _ _ (λ q.
        get_updated q
        ∙ ap (λ (b : Bool). cond b (Some w) (finite.get (places (plain m.entries)) q)) (sym (is_eq-slice_cmp q key))
        ∙ sym (finite.get-insert nat_list_cmp_total (places (plain m.entries)) key w q))

  module _ (m : IndexMap (Vec ℕ) (Option (List ℕ)) S) (i : ℕ) (k : Vec ℕ) (v : Option (List ℕ))
      (at : slice_get m.entries i ≡ Some (k, v)) where
    key_of-place : key_of (plain m.entries) i ≡ k.items
    key_of-place =
        ap (λ (o : Option Place). option_map_or (λ e. e.0) o [])
        (slice_get-map (λ e. (e.0.items, e.1)) m.entries i ∙ ap (option_map (λ e. (e.0.items, e.1))) at)

    -- the key of a place that a look-up found
    pub key_of-found : (key : List ℕ) → lookup_key (sees key) m.entries ≡ Some k → key_of (plain m.entries) i ≡ key
    key_of-found key found = key_of-place ∙ sym ((bytes_decides key k.items).0 (lookup_key_passes (sees key) m.entries k found))

    module _ (unique : IsUnique same_key m) where
      -- what the place has
      pub get-place : finite.get (places (plain m.entries)) (key_of (plain m.entries) i) ≡ Some v
      get-place =
          ap (finite.get (places (plain m.entries))) key_of-place
          ∙ get-places m k.items
          ∙ hash_map_get_place (on_equiv (λ (x : Vec ℕ). x.items) nat_list_eq_equiv) m i k v unique at

      -- the places after a write to it
      pub places-with_value_at : (w : Option (List ℕ))
          → places (plain (with_value_at m i w).entries) ≡ finite.insert (places (plain m.entries)) (key_of (plain m.entries) i) w
      places-with_value_at w =
          places-updated m (with_value_at m i w) k.items w
          (updates-with_value_at m i w (on_equiv (λ (x : Vec ℕ). x.items) nat_list_eq_equiv) unique k v at)
          ∙ ap (λ (key : List ℕ). finite.insert (places (plain m.entries)) key w) (sym key_of-place)

  -- where a clone of a key has the key's bytes, and a clone of a value is the value, a clone of the table has the same places
  pub plain-clone : (C : Vec ℕ → Vec ℕ → Type 0) (D : Option (List ℕ) → Option (List ℕ) → Type 0)
      → ((k l : Vec ℕ) → C k l → l.items ≡ k.items) → ((v w : Option (List ℕ)) → D v w → w ≡ v)
      → (m n : IndexMap (Vec ℕ) (Option (List ℕ)) S) → IsClone C D m n → plain n.entries ≡ plain m.entries
  plain-clone C D same_bytes same_value m n clones = entries m.entries n.entries clones
    where
      entries : (es fs : List (Vec ℕ × Option (List ℕ))) → AllZip (λ p q. C p.0 q.0 × D p.1 q.1) es fs → plain fs ≡ plain es
      entries [] [] h = refl
      entries [] (f ∷ fs) h = absurd h
      entries (e ∷ es) [] h = absurd h
      entries (e ∷ es) (f ∷ fs) h = λ i. (same_bytes e.0 f.0 h.0.0 i, same_value e.1 f.1 h.0.1 i) ∷ entries es fs h.1 i
