-- Proofs: nothing here has to be believed.
-- A saved state is short, it loads again, and nothing loads but what was saved of a sound state.
use Rattle.std.proofs.Common.{◌≡◌, ℕ, zero, suc, ◌+◌, ◌*◌, ◌≤◌, ◌<◌, Bool, true, false, cond, List, [], ◌∷◌, ◌++◌, length, get_or, T}
use Rattle.std.proofs.Common.{Option, Some, None, refl, sym, ap, subst, ◌∙◌, append_assoc, arith}
use Rattle.std.specs.Prelude.{IfSome, ◌&&◌, nat_le, ⊤}
use Rattle.std.specs.Int.{w16, w32, from_be_bytes, to_be_bytes}
use Rattle.std.specs.Ordering.{nat_cmp, eq_by_cmp, is_lt, is_eq, ordering_reverse}
use Rattle.std.specs.declared.cmp.Ordering.{Ordering}
use Rattle.std.specs.declared.cmp.Ordering.TheVariants.{Less, Equal, Greater}
use Rattle.std.specs.Cmp.Lexicographic.{slice_cmp, bytes_decides, texts_ties, nat_list_cmp_total, nat_list_eq_equiv}
use Rattle.std.specs.FinMap as finite
use Rattle.std.specs.FinMap.Entries.{below_all}
use Rattle.std.proofs.lemmas.Bool.Decides.{nat_tests}
use Rattle.std.proofs.lemmas.List.{length-append, append-nil}
use Rattle.std.proofs.lemmas.Nat.{be_bytes_4, from_be_bytes-to_be_bytes_4}
use Rattle.std.proofs.Math.Nat.{mod-lt}
use Rattle.lemmas.proofs.Options.{then_holds}
use Rattle.nop_types.specs.declared.limits.TheConstants.{MAX_KEY_BYTES, MAX_VALUE_BYTES, MAX_HOST_BYTES}
use Rattle.nop_types.specs.Lists.{all_below}
use Rattle.kv_host.specs.declared.table.TheConstants.{MAX_KEYS}
use Rattle.kv_host.specs.Op.{Field, key_at, value_at}
use Rattle.kv_host.specs.Spelling.{KeyFits, ValueFits, field}
use Rattle.kv_host.specs.Reading.{Begins, field_at-begins, first_key, first_value}
use Rattle.kv_host.specs.Values.{Kv}
use Rattle.kv_host.specs.Kv.{IsSound}
use Rattle.kv_host.specs.Saved.{spelled_entries, four_bytes, saved, nothing_after, entry_at, with_keys, loaded}

abbrev Order : List ℕ → List ℕ → Ordering
Order = slice_cmp nat_cmp

abbrev pub Entry : Type 0
Entry = List ℕ × List ℕ

abbrev Fits : List ℕ → List ℕ → Type 0
Fits key value = KeyFits key × ValueFits value

-- each key and value has its length in range
abbrev pub EntriesFit : List Entry → Type 0
EntriesFit [] = ⊤
EntriesFit (e ∷ es) = Fits e.0 e.1 × EntriesFit es

-- each key is above the one before it, the first above the last one
abbrev pub Rising : List ℕ → List Entry → Type 0
Rising last [] = ⊤
Rising last (e ∷ es) = (Order last e.0 ≡ Less) × Rising e.0 es

abbrev pub with_entries : Kv → List Entry → Kv
with_entries kv [] = kv
with_entries kv (e ∷ es) = with_entries (finite.insert kv e.0 e.1) es

-- ---- entries of a sound state

both : (a b : Bool) → T (a && b) → T a × T b
both true b h = (tt, h)
both false b h = absurd h

is_less : (o : Ordering) → T (is_lt o) → o ≡ Less
is_less Less h = refl
is_less Equal h = absurd h
is_less Greater h = absurd h

rising_after : (last : List ℕ) (es : List Entry) → T (below_all Order last es) → T (finite.is_sorted Order es) → Rising last es
rising_after last [] b s = tt
rising_after last (e ∷ es) b s =
    let below = both (is_lt (Order last e.0)) (below_all Order last es) b in
    let sorted = both (below_all Order e.0 es) (finite.is_sorted Order es) s in
    (is_less (Order last e.0) below.0, rising_after e.0 es sorted.0 sorted.1)

above_empty : (key : List ℕ) → 1 ≤ length key → Order [] key ≡ Less
above_empty [] h = absurd (omega (arith, h))
above_empty (b ∷ key) h = refl

rising : (es : List Entry) → T (finite.is_sorted Order es) → EntriesFit es → Rising [] es
rising [] s fits = tt
rising (e ∷ es) s fits =
    let sorted = both (below_all Order e.0 es) (finite.is_sorted Order es) s in
    (above_empty e.0 fits.0.0.least, rising_after e.0 es sorted.0 sorted.1)

tied : (key : List ℕ) → eq_by_cmp Order key key ≡ true
tied key = sym (texts_ties key key) ∙ nat_list_eq_equiv.refl key

pub same_key : (q key : List ℕ) → eq_by_cmp Order q key ≡ true → q ≡ key
same_key q key e = (bytes_decides q key).0 (texts_ties q key ∙ e)

find_below : (key : List ℕ) (es : List Entry) → T (below_all Order key es) → finite.find Order key es ≡ None
find_below key [] h = refl
find_below key (e ∷ es) h =
    let below = both (is_lt (Order key e.0)) (below_all Order key es) h in
    ap (λ (o : Ordering). cond (is_eq o) (Some e.1) (finite.find Order key es)) (is_less (Order key e.0) below.0)
    ∙ find_below key es below.1

-- what holds where a key is found, past the first entry
found_later : (e : Entry) (es : List Entry) (q : List ℕ) (b : Bool) → eq_by_cmp Order q e.0 ≡ b → T (below_all Order e.0 es)
    → IfSome (cond b (Some e.1) (finite.find Order q es)) (Fits q) → IfSome (finite.find Order q es) (Fits q)
found_later e es q true tie below h =
    subst (λ (r : List ℕ). IfSome (finite.find Order r es) (Fits r)) (sym (same_key q e.0 tie)) (rw (find_below e.0 es below) tt)
found_later e es q false tie below h = h

entries_fit : (es : List Entry) → T (finite.is_sorted Order es) → ((q : List ℕ) → IfSome (finite.find Order q es) (Fits q)) → EntriesFit es
entries_fit [] s h = tt
entries_fit (e ∷ es) s h =
    let sorted = both (below_all Order e.0 es) (finite.is_sorted Order es) s in (
      subst (λ (b : Bool). IfSome (cond b (Some e.1) (finite.find Order e.0 es)) (Fits e.0)) (tied e.0) (h e.0),
      entries_fit es sorted.1 (λ q. found_later e es q (eq_by_cmp Order q e.0) refl sorted.0 (h q)),
    )

sound_entries : (kv : Kv) → IsSound kv → EntriesFit (finite.entries kv)
sound_entries kv sound =
    entries_fit (finite.entries kv) (finite.entries_sorted kv)
    (λ q. subst (λ (o : Option (List ℕ)). IfSome o (Fits q)) (finite.get-entries kv q) (sound.fits q))

-- ---- a saved state is short

pub length-field : (bytes : List ℕ) → length (field bytes) ≡ 2 + length bytes
unfolding field
length-field bytes = length-append (to_be_bytes w16 (length bytes)) bytes

spelled_short : (es : List Entry) → EntriesFit es → length (spelled_entries es) ≤ 324 * length es
spelled_short [] fits = omega arith
spelled_short (e ∷ es) fits =
    let rest = spelled_short es fits.1 in
    let whole = length-append (field e.0 ++ field e.1) (spelled_entries es) in
    let part = length-append (field e.0) (field e.1) in
    let key = length-field e.0 in
    let value = length-field e.1 in
    let short = fits.0.0.most in
    let low = fits.0.1.most in
    omega (arith, rest, whole, part, key, value, short, low)

length-four : (n : ℕ) → length (four_bytes n) ≡ 4
unfolding four_bytes
length-four n = refl

pub saves_limited : (kv : Kv) → IsSound kv → length (saved kv) ≤ 1327108
saves_limited kv sound =
    let entries = spelled_short (finite.entries kv) (sound_entries kv sound) in
    let whole = length-append (four_bytes (finite.len kv)) (spelled_entries (finite.entries kv)) in
    let prefix = length-four (finite.len kv) in
    let count = finite.len-entries kv in
    let few = sound.few in
    omega (arith, entries, whole, prefix, count, few)

pub saves_short : (kv : Kv) → IsSound kv → length (saved kv) ≤ MAX_HOST_BYTES
saves_short kv sound = let most = saves_limited kv sound in omega (arith, most)

-- ---- a map with entries whose keys rise has them as its entries

-- the key is above each of the list
abbrev IsAbove : List ℕ → List Entry → Type 0
IsAbove key [] = ⊤
IsAbove key (e ∷ es) = (Order key e.0 ≡ Greater) × IsAbove key es

put_last : (key value : List ℕ) (es : List Entry) → IsAbove key es → finite.put Order key value es ≡ es ++ (key, value) ∷ []
put_last key value [] h = refl
put_last key value (e ∷ es) h = rw h.0 (ap (λ (fs : List Entry). e ∷ fs) (put_last key value es h.1))

above_more : (key : List ℕ) (es : List Entry) (e : Entry) → IsAbove key es → Order key e.0 ≡ Greater → IsAbove key (es ++ (e.0, e.1) ∷ [])
above_more key [] e h k = (k, tt)
above_more key (f ∷ es) e h k = (h.0, above_more key es e h.1 k)

turned : (low high : List ℕ) → Order low high ≡ Less → Order high low ≡ Greater
turned low high h = nat_list_cmp_total.antisymm high low ∙ ap ordering_reverse h

entries-after : (es : List Entry) (kv : Kv) (last : List ℕ)
    → ((key : List ℕ) → Order last key ≡ Less → IsAbove key (finite.entries kv)) → Rising last es
    → finite.entries (with_entries kv es) ≡ finite.entries kv ++ es
entries-after [] kv last above rises = sym (append-nil (finite.entries kv))
entries-after (e ∷ es) kv last above rises =
    let here : finite.entries (finite.insert kv e.0 e.1) ≡ finite.entries kv ++ (e.0, e.1) ∷ [] =
    finite.entries-insert nat_list_cmp_total kv e.0 e.1 ∙ put_last e.0 e.1 (finite.entries kv) (above e.0 rises.0) in
    entries-after es (finite.insert kv e.0 e.1) e.0
    (λ key h.
    subst (IsAbove key) (sym here)
    (above_more key (finite.entries kv) e (above key (nat_list_cmp_total.trans last e.0 key rises.0 h)) (turned e.0 key h)))
    rises.1
    ∙ ap (λ (fs : List Entry). fs ++ es) here
    ∙ append_assoc (finite.entries kv) ((e.0, e.1) ∷ []) es

entries-empty : finite.entries (finite.empty {X = List ℕ} {R = Order}) ≡ []
entries-empty =
    no_entries (finite.entries (finite.empty {X = List ℕ} {R = Order}))
    (sym (finite.len-entries (finite.empty {X = List ℕ} {R = Order})) ∙ finite.len-empty Order (List ℕ))
  where
    no_entries : (es : List Entry) → length es ≡ 0 → es ≡ []
    no_entries [] e = refl
    no_entries (e ∷ es) h = absurd (omega (arith, h))

-- each key is above the one before it
abbrev pub Rises : List Entry → Type 0
Rises [] = ⊤
Rises (e ∷ es) = Rising e.0 es

pub entries-all : (es : List Entry) → Rises es → finite.entries (with_entries finite.empty es) ≡ es
entries-all [] rises = entries-empty
entries-all (e ∷ es) rises =
    let one : finite.entries (finite.insert (finite.empty {X = List ℕ} {R = Order}) e.0 e.1) ≡ (e.0, e.1) ∷ [] =
    finite.entries-insert nat_list_cmp_total finite.empty e.0 e.1 ∙ ap (finite.put Order e.0 e.1) entries-empty in
    entries-after es (finite.insert finite.empty e.0 e.1) e.0 (λ key h. subst (IsAbove key) (sym one) (turned e.0 key h, tt)) rises
    ∙ ap (λ (fs : List Entry). fs ++ es) one

rises_within : (last : List ℕ) (es : List Entry) → Rising last es → Rises es
rises_within last [] h = tt
rises_within last (e ∷ es) h = h.1

-- ---- what was saved loads

first_entry : (last : List ℕ) (e : Entry) (rest : List ℕ) → Fits e.0 e.1 → Order last e.0 ≡ Less
    → entry_at last (field e.0 ++ (field e.1 ++ rest)) ≡ Some (e.0, e.1, rest)
unfolding entry_at
first_entry last e rest fits above = rw (first_key e.0 (field e.1 ++ rest) fits.0, first_value e.1 rest fits.1, above) refl

read_again : (es : List Entry) (kv : Kv) (last : List ℕ) → EntriesFit es → Rising last es
    → with_keys (length es) kv last (spelled_entries es) ≡ Some (with_entries kv es)
unfolding with_keys
read_again [] kv last fits rises = refl
read_again (e ∷ es) kv last fits rises =
    rw (append_assoc (field e.0) (field e.1) (spelled_entries es), first_entry last e (spelled_entries es) fits.0 rises.0)
    (read_again es (finite.insert kv e.0 e.1) e.0 fits.1 rises.1)

counted : (a b c d n : ℕ) (bytes : List ℕ) → a < 256 → b < 256 → c < 256 → d < 256 → from_be_bytes w32 (a ∷ b ∷ c ∷ d ∷ []) ≡ n
    → n ≤ MAX_KEYS → loaded (a ∷ b ∷ c ∷ d ∷ bytes) ≡ with_keys n finite.empty [] bytes
unfolding loaded
counted a b c d n bytes x y z w e few =
    let test : all_below (a ∷ b ∷ c ∷ d ∷ []) 256 && nat_le (from_be_bytes w32 (a ∷ b ∷ c ∷ d ∷ [])) MAX_KEYS ≡ true =
    grind (arith, nat_tests) in
    rw (test, e) refl

loaded-four : (n : ℕ) (bytes : List ℕ) → n ≤ MAX_KEYS → loaded (four_bytes n ++ bytes) ≡ with_keys n finite.empty [] bytes
unfolding four_bytes
loaded-four n bytes few =
    counted _ _ _ _ n bytes (mod-lt _ (omega arith)) (mod-lt _ (omega arith)) (mod-lt _ (omega arith)) (mod-lt _ (omega arith))
    (from_be_bytes-to_be_bytes_4 n (omega (arith, few))) few

pub loads_saved : (kv : Kv) → IsSound kv → loaded (saved kv) ≡ Some kv
loads_saved kv sound =
    let es = finite.entries kv in
    let fits = sound_entries kv sound in
    let rises = rising es (finite.entries_sorted kv) fits in
    loaded-four (finite.len kv) (spelled_entries es) sound.few
    ∙ ap (λ (n : ℕ). with_keys n finite.empty [] (spelled_entries es)) (finite.len-entries kv)
    ∙ read_again es finite.empty [] fits rises
    ∙ ap Some (finite.same_entries_map (with_entries finite.empty es) kv (entries-all es (rises_within [] es rises)))

-- ---- nothing else loads

-- the bytes begin with the entry, whose key is above the last one
pub record BeginsEntry (last bytes : List ℕ) (found : List ℕ × List ℕ × List ℕ) : Type 0 where
  pub fits : KeyFits found.0 × ValueFits found.1
  pub above : Order last found.0 ≡ Less
  pub spelled : bytes ≡ field found.0 ++ (field found.1 ++ found.2)

above_last : (last bytes : List ℕ) (key value : Field) (b : Bool) → is_lt (Order last key.0) ≡ b → Begins 1 MAX_KEY_BYTES bytes key
    → Begins 0 MAX_VALUE_BYTES key.1 value
    → IfSome (cond b (Some (key.0, value.0, value.1)) None) (BeginsEntry last bytes)
above_last last bytes key value true e k v = record {
  fits = (k.fits, v.fits);
  above = is_less (Order last key.0) (subst T (sym e) tt);
  spelled = k.spelled ∙ ap (λ (rest : List ℕ). field key.0 ++ rest) v.spelled;
}
above_last last bytes key value false e k v = tt

pub entry_at-begins : (last bytes : List ℕ) → IfSome (entry_at last bytes) (BeginsEntry last bytes)
unfolding entry_at
entry_at-begins last bytes =
    then_holds (Begins 1 MAX_KEY_BYTES bytes) (BeginsEntry last bytes) (key_at bytes) _ (field_at-begins 1 MAX_KEY_BYTES bytes)
    (λ key k. then_holds (Begins 0 MAX_VALUE_BYTES key.1) (BeginsEntry last bytes) (value_at key.1) _
    (field_at-begins 0 MAX_VALUE_BYTES key.1) (λ value v. above_last last bytes key value (is_lt (Order last key.0)) refl k v))

-- the map is the one before with entries that the bytes spell
record AreRead (n : ℕ) (kv : Kv) (last bytes : List ℕ) (s : Kv) : Type 0 where
  entries : List Entry
  count : length entries ≡ n
  fits : EntriesFit entries
  rises : Rising last entries
  spelled : bytes ≡ spelled_entries entries
  is : s ≡ with_entries kv entries

nothing_follows : (kv : Kv) (last bytes : List ℕ) → IfSome (nothing_after bytes kv) (AreRead 0 kv last bytes)
nothing_follows kv last [] = record { entries = []; count = refl; fits = tt; rises = tt; spelled = refl; is = refl }
nothing_follows kv last (b ∷ bytes) = tt

one_before : (n : ℕ) (kv : Kv) (last bytes key value rest : List ℕ) → BeginsEntry last bytes (key, value, rest) → (o : Option Kv)
    → IfSome o (AreRead n (finite.insert kv key value) key rest) → IfSome o (AreRead (suc n) kv last bytes)
one_before n kv last bytes key value rest begins None read = tt
one_before n kv last bytes key value rest begins (Some s) read = record {
  entries = (key, value) ∷ read.entries;
  count = ap suc read.count;
  fits = (begins.fits, read.fits);
  rises = (begins.above, read.rises);
  spelled =
      begins.spelled
      ∙ ap (λ (after : List ℕ). field key ++ (field value ++ after)) read.spelled
      ∙ sym (append_assoc (field key) (field value) (spelled_entries read.entries));
  is = read.is;
}

with_keys-read : (n : ℕ) (kv : Kv) (last bytes : List ℕ) → IfSome (with_keys n kv last bytes) (AreRead n kv last bytes)
unfolding with_keys
with_keys-read zero kv last bytes = nothing_follows kv last bytes
with_keys-read (suc n) kv last bytes =
    then_holds (BeginsEntry last bytes) (AreRead (suc n) kv last bytes) (entry_at last bytes) _ (entry_at-begins last bytes)
    (λ entry begins.
    one_before n kv last bytes entry.0 entry.1 entry.2 begins (with_keys n (finite.insert kv entry.0 entry.1) entry.0 entry.2)
    (with_keys-read n (finite.insert kv entry.0 entry.1) entry.0 entry.2))

first_found : (e : Entry) (es : List Entry) (q : List ℕ) (b : Bool) → eq_by_cmp Order q e.0 ≡ b → Fits e.0 e.1
    → IfSome (finite.find Order q es) (Fits q) → IfSome (cond b (Some e.1) (finite.find Order q es)) (Fits q)
first_found e es q true tie here later = subst (λ (r : List ℕ). Fits r e.1) (sym (same_key q e.0 tie)) here
first_found e es q false tie here later = later

found_fits : (es : List Entry) (q : List ℕ) → EntriesFit es → IfSome (finite.find Order q es) (Fits q)
found_fits [] q fits = tt
found_fits (e ∷ es) q fits = first_found e es q (eq_by_cmp Order q e.0) refl fits.0 (found_fits es q fits.1)

each_byte : (a b c d : ℕ) → a < 256 → b < 256 → c < 256 → d < 256 → (i : ℕ) → get_or (a ∷ b ∷ c ∷ d ∷ []) i 0 < 256
each_byte a b c d x y z w zero = x
each_byte a b c d x y z w (suc zero) = y
each_byte a b c d x y z w (suc (suc zero)) = z
each_byte a b c d x y z w (suc (suc (suc zero))) = w
each_byte a b c d x y z w (suc (suc (suc (suc i)))) = omega arith

abbrev IsSaved : List ℕ → Kv → Type 0
IsSaved bytes s = IsSound s × (saved s ≡ bytes)

read_sound : (prefix bytes : List ℕ) (n : ℕ) → four_bytes n ≡ prefix → n ≤ MAX_KEYS → (o : Option Kv)
    → IfSome o (AreRead n finite.empty [] bytes) → IfSome o (IsSaved (prefix ++ bytes))
read_sound prefix bytes n same few None read = tt
read_sound prefix bytes n same few (Some s) read =
    let all : finite.entries s ≡ read.entries = ap finite.entries read.is ∙ entries-all read.entries (rises_within [] read.entries read.rises) in
    let count : finite.len s ≡ n = finite.len-entries s ∙ ap length all ∙ read.count in (
      record {
        few = rw count few;
        fits = λ q. rw (finite.get-entries s q, all) (found_fits read.entries q read.fits);
      },
      ap (λ (m : ℕ). four_bytes m ++ spelled_entries (finite.entries s)) count
          ∙ ap (λ (es : List Entry). four_bytes n ++ spelled_entries es) all
          ∙ ap (λ (rest : List ℕ). four_bytes n ++ rest) (sym read.spelled)
          ∙ ap (λ (head : List ℕ). head ++ bytes) same,
    )

in_range : (a b c d : ℕ) (bytes : List ℕ) (test : Bool) → let n = from_be_bytes w32 (a ∷ b ∷ c ∷ d ∷ []) in
    all_below (a ∷ b ∷ c ∷ d ∷ []) 256 && nat_le n MAX_KEYS ≡ test
    → IfSome (cond test (with_keys n finite.empty [] bytes) None) (IsSaved (a ∷ b ∷ c ∷ d ∷ bytes))
unfolding four_bytes
in_range a b c d bytes true e =
    let n = from_be_bytes w32 (a ∷ b ∷ c ∷ d ∷ []) in
    let x : a < 256 = grind (arith, nat_tests) in
    let y : b < 256 = grind (arith, nat_tests) in
    let z : c < 256 = grind (arith, nat_tests) in
    let w : d < 256 = grind (arith, nat_tests) in
    let few : n ≤ MAX_KEYS = grind (arith, nat_tests) in
    read_sound (a ∷ b ∷ c ∷ d ∷ []) bytes n (be_bytes_4 (a ∷ b ∷ c ∷ d ∷ []) n refl (each_byte a b c d x y z w) refl) few
    (with_keys n finite.empty [] bytes) (with_keys-read n finite.empty [] bytes)
in_range a b c d bytes false e = tt

loaded_saved : (bytes : List ℕ) → IfSome (loaded bytes) (IsSaved bytes)
unfolding loaded
loaded_saved [] = tt
loaded_saved (a ∷ []) = tt
loaded_saved (a ∷ b ∷ []) = tt
loaded_saved (a ∷ b ∷ c ∷ []) = tt
loaded_saved (a ∷ b ∷ c ∷ d ∷ bytes) = in_range a b c d bytes _ refl

pub loads_only : (bytes : List ℕ) (s : Kv) → loaded bytes ≡ Some s → IsSound s × (saved s ≡ bytes)
loads_only bytes s e = subst (λ (o : Option Kv). IfSome o (IsSaved bytes)) e (loaded_saved bytes)
