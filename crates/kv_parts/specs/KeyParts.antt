-- Keys are parts: what ops of one key do and answer does not rest on those of other keys, as long as there are no more than may have a value.
use Rattle.std.proofs.Common.{◌≡◌, ℕ, ◌+◌, ◌-◌, ◌<◌, ◌≤◌, Bool, true, false, cond, List, length, Option, Some, None, refl, sym, ap, subst, ◌∙◌, true≢false, arith}
use Rattle.std.specs.Prelude.{not, ◌&&◌, nat_le, nat_eq, codes}
use Rattle.std.specs.Option.{option_eq}
use Rattle.std.specs.Ordering.{nat_cmp, eq_by_cmp}
use Rattle.std.specs.Cmp.Lexicographic.{slice_cmp, pointwise, bytes_decides, texts_ties, nat_list_cmp_total}
use Rattle.std.specs.FinMap as finite
use Rattle.std.proofs.lemmas.Bool.Decides.{nat_tests}
use Rattle.fronts.specs.Parts.{AreDistinct, IsPart, is_of}
use Rattle.kv_host.specs.declared.table.TheConstants.{MAX_KEYS}
use Rattle.kv_host.specs.Op.{Op, Get, Put, Delete, Swap, Bad, read_op}
use Rattle.kv_host.specs.Values.{Kv, has_value}
use Rattle.kv_host.specs.Kv.{shown, is_refused, answer_to, state_after, kv_meaning}
use Rattle.kv_parts.specs.Keys.{key_of, part_of, count_in, SameKey}
use Rattle.kv_parts.specs.Counts.{count_in-room, count_in-insert, count_in-insert_new, count_in-remove, count_in-remove_none}
use Rattle.nop_types.specs.Lists.{Has}

module _ (parts : List (List ℕ)) (few : length parts ≤ MAX_KEYS) (distinct : AreDistinct parts) where
  -- ---- puts are not refused

  refusal : (b : Bool) (n : ℕ) → (b ≡ false → n < MAX_KEYS) → not b && nat_le MAX_KEYS n ≡ false
  refusal true n h = refl
  refusal false n h = let l = h refl in grind (arith, nat_tests)

  pub not_refused : (s : Kv) (key : List ℕ) → finite.len s ≤ count_in parts s → Has parts key → is_refused s key ≡ false
  not_refused s key w used =
      refusal (finite.contains_key s key) (finite.len s)
      (λ none. let room = count_in-room parts s key used none in omega (arith, room, w, few))

  -- ---- no other keys have values

  grown : (b : Bool) (s : Kv) (key value : List ℕ) → finite.contains_key s key ≡ b → Has parts key → finite.len s ≤ count_in parts s
      → cond b (finite.len s) (finite.len s + 1) ≤ count_in parts (finite.insert s key value)
  grown true s key value e used w = let more = count_in-insert parts s key value in omega (arith, more, w)
  grown false s key value e used w = let more = count_in-insert_new parts s key value used e in omega (arith, more, w)

  within_insert : (s : Kv) (key value : List ℕ) → Has parts key → finite.len s ≤ count_in parts s
      → finite.len (finite.insert s key value) ≤ count_in parts (finite.insert s key value)
  within_insert s key value used w =
      rw (finite.len-insert nat_list_cmp_total s key value) (grown (finite.contains_key s key) s key value refl used w)

  shrunk : (b : Bool) (s : Kv) (key : List ℕ) → finite.contains_key s key ≡ b → finite.len s ≤ count_in parts s
      → cond b (finite.len s - 1) (finite.len s) ≤ count_in parts (finite.remove s key)
  shrunk true s key e w = let less = count_in-remove parts s key distinct in omega (arith, less, w)
  shrunk false s key e w = let same = count_in-remove_none parts s key e in omega (arith, same, w)

  within_remove : (s : Kv) (key : List ℕ) → finite.len s ≤ count_in parts s
      → finite.len (finite.remove s key) ≤ count_in parts (finite.remove s key)
  within_remove s key w =
      rw (finite.len-remove nat_list_cmp_total s key) (shrunk (finite.contains_key s key) s key refl w)

  either : (b : Bool) (s t : Kv) → finite.len s ≤ count_in parts s → finite.len t ≤ count_in parts t
      → finite.len (cond b s t) ≤ count_in parts (cond b s t)
  either true s t w x = w
  either false s t w x = x

  within_after : (s : Kv) (op : Op) → Has parts (key_of op) → finite.len s ≤ count_in parts s
      → finite.len (state_after s op) ≤ count_in parts (state_after s op)
  within_after s (Get key) used w = w
  within_after s (Put key value) used w = either (is_refused s key) s (finite.insert s key value) w (within_insert s key value used w)
  within_after s (Delete key) used w = within_remove s key w
  within_after s (Swap key old new) used w = either (has_value s key old) (finite.insert s key new) s (within_insert s key new used w) w
  within_after s Bad used w = w

  -- ---- the value of the key

  is_tied : (a b : List ℕ) → a ≡ b → eq_by_cmp (slice_cmp nat_cmp) a b ≡ true
  is_tied a b e = sym (texts_ties a b) ∙ (bytes_decides a b).1 e

  is_apart : (a b : List ℕ) → (a ≡ b → ⊥) → eq_by_cmp (slice_cmp nat_cmp) a b ≡ false
  is_apart a b none = here (eq_by_cmp (slice_cmp nat_cmp) a b) refl
    where
      here : (c : Bool) → eq_by_cmp (slice_cmp nat_cmp) a b ≡ c → eq_by_cmp (slice_cmp nat_cmp) a b ≡ false
      here true e = absurd (none ((bytes_decides a b).0 (texts_ties a b ∙ e)))
      here false e = e

  get-insert_here : (s : Kv) (key value : List ℕ) → finite.get (finite.insert s key value) key ≡ Some value
  get-insert_here s key value =
      finite.get-insert nat_list_cmp_total s key value key
      ∙ ap (λ (b : Bool). cond b (Some value) (finite.get s key)) (is_tied key key refl)

  get-remove_here : (s : Kv) (key : List ℕ) → finite.get (finite.remove s key) key ≡ None
  get-remove_here s key =
      finite.get-remove nat_list_cmp_total s key key ∙ ap (λ (b : Bool). cond b None (finite.get s key)) (is_tied key key refl)

  get-insert_other : (s : Kv) (key value q : List ℕ) → (q ≡ key → ⊥) → finite.get (finite.insert s key value) q ≡ finite.get s q
  get-insert_other s key value q none =
      finite.get-insert nat_list_cmp_total s key value q
      ∙ ap (λ (b : Bool). cond b (Some value) (finite.get s q)) (is_apart q key none)

  get-remove_other : (s : Kv) (key q : List ℕ) → (q ≡ key → ⊥) → finite.get (finite.remove s key) q ≡ finite.get s q
  get-remove_other s key q none =
      finite.get-remove nat_list_cmp_total s key q ∙ ap (λ (b : Bool). cond b None (finite.get s q)) (is_apart q key none)

  get-either : (b : Bool) (s t : Kv) (q : List ℕ) (o : Option (List ℕ)) → finite.get s q ≡ o → finite.get t q ≡ o
      → finite.get (cond b s t) q ≡ o
  get-either true s t q o e f = e
  get-either false s t q o e f = f

  -- an op of another key leaves it
  left_alone : (s : Kv) (op : Op) (q : List ℕ) → (q ≡ key_of op → ⊥) → finite.get (state_after s op) q ≡ finite.get s q
  left_alone s (Get key) q none = refl
  left_alone s (Put key value) q none =
      get-either (is_refused s key) s (finite.insert s key value) q (finite.get s q) refl (get-insert_other s key value q none)
  left_alone s (Delete key) q none = get-remove_other s key q none
  left_alone s (Swap key old new) q none =
      get-either (has_value s key old) (finite.insert s key new) s q (finite.get s q) (get-insert_other s key new q none) refl
  left_alone s Bad q none = refl

  -- an op of the key answers by its value, and leaves a value by it
  answered_alike : (s t : Kv) (op : Op) → Has parts (key_of op) → finite.len s ≤ count_in parts s → finite.len t ≤ count_in parts t
      → finite.get s (key_of op) ≡ finite.get t (key_of op) → answer_to s op ≡ answer_to t op
  answered_alike s t (Get key) used w x e = ap shown e
  answered_alike s t (Put key value) used w x e =
      rw (not_refused s key w used, not_refused t key x used) (ap shown e)
  answered_alike s t (Delete key) used w x e = ap shown e
  answered_alike s t (Swap key old new) used w x e =
      ap (λ (o : Option (List ℕ)). cond (option_eq (pointwise nat_eq) o (Some old)) (codes "yes") (codes "no")) e
  answered_alike s t Bad used w x e = refl

  swapped : (b : Bool) (s t : Kv) (key new : List ℕ) → finite.get s key ≡ finite.get t key
      → finite.get (cond b (finite.insert s key new) s) key ≡ finite.get (cond b (finite.insert t key new) t) key
  swapped true s t key new e = get-insert_here s key new ∙ sym (get-insert_here t key new)
  swapped false s t key new e = e

  left_alike : (s t : Kv) (op : Op) → Has parts (key_of op) → finite.len s ≤ count_in parts s → finite.len t ≤ count_in parts t
      → finite.get s (key_of op) ≡ finite.get t (key_of op)
      → finite.get (state_after s op) (key_of op) ≡ finite.get (state_after t op) (key_of op)
  left_alike s t (Get key) used w x e = e
  left_alike s t (Put key value) used w x e =
      rw (not_refused s key w used, not_refused t key x used) (get-insert_here s key value ∙ sym (get-insert_here t key value))
  left_alike s t (Delete key) used w x e = get-remove_here s key ∙ sym (get-remove_here t key)
  left_alike s t (Swap key old new) used w x e =
      ap (λ (b : Bool). finite.get (cond b (finite.insert s key new) s) key)
      (ap (λ (o : Option (List ℕ)). option_eq (pointwise nat_eq) o (Some old)) e)
      ∙ swapped (has_value t key old) s t key new e
  left_alike s t Bad used w x e = e

  key_is : (part op : List ℕ) → is_of part_of part op ≡ true → part ≡ part_of op
  key_is part op e = sym ((bytes_decides (part_of op) part).0 e)

  key_is_not : (part op : List ℕ) → is_of part_of part op ≡ false → part ≡ part_of op → ⊥
  key_is_not part op e same = true≢false (sym ((bytes_decides (part_of op) part).1 (sym same)) ∙ e)

  pub keys_are_parts : (part : List ℕ) → IsPart kv_meaning (λ op. Has parts (part_of op)) (is_of part_of part) (SameKey parts part)
  keys_are_parts part = record {
    opens = record { left = opening; right = opening; value = refl };
    answers = λ s t op used e same.
        answered_alike s t (read_op op) used same.left same.right
        (subst (λ (k : List ℕ). finite.get s k ≡ finite.get t k) (key_is part op e) same.value);
    keeps = λ s t op used e same. record {
      left = within_after s (read_op op) used same.left;
      right = within_after t (read_op op) used same.right;
      value =
          subst (λ (k : List ℕ). finite.get (state_after s (read_op op)) k ≡ finite.get (state_after t (read_op op)) k)
          (sym (key_is part op e))
          (left_alike s t (read_op op) used same.left same.right
          (subst (λ (k : List ℕ). finite.get s k ≡ finite.get t k) (key_is part op e) same.value));
    };
    leaves = λ s t op used e same. record {
      left = within_after s (read_op op) used same.left;
      right = same.right;
      value = left_alone s (read_op op) part (key_is_not part op e) ∙ same.value;
    };
  }
    where
      opening : finite.len kv_meaning.opening ≤ count_in parts kv_meaning.opening
      opening = rw (finite.len-empty (slice_cmp nat_cmp) (List ℕ)) (omega arith)
