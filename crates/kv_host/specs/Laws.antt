-- Proofs: nothing here has to be believed.
-- The laws of a host, for the key-value service.
use Rattle.std.proofs.Common.{◌≡◌, ℕ, ◌+◌, ◌-◌, ◌≤◌, Bool, true, false, cond, List, length, Option, Some, None, is_some, refl, sym, ap, subst, ◌∙◌}
use Rattle.std.proofs.Common.{true≢false, nat_eq, arith}
use Rattle.std.specs.Prelude.{IfSome, codes, not, ◌&&◌, nat_le}
use Rattle.std.specs.Option.{option_map, option_eq}
use Rattle.std.specs.Ordering.{nat_cmp, eq_by_cmp}
use Rattle.std.proofs.lemmas.Bool.Decides.{nat_tests}
use Rattle.std.proofs.lemmas.Map.Lookups.{exact_bytes}
use Rattle.std.specs.Cmp.Lexicographic.{slice_cmp, pointwise, bytes_decides, texts_ties, nat_list_cmp_total}
use Rattle.std.specs.FinMap as finite
use Rattle.kv_host.specs.declared.table.TheConstants.{MAX_KEYS}
use Rattle.kv_host.specs.Op.{Op, Get, Put, Delete, Swap, Bad, read_op}
use Rattle.kv_host.specs.Spelling.{KeyFits, ValueFits, OpFits}
use Rattle.kv_host.specs.Reading.{read_fits}
use Rattle.kv_host.specs.Values.{Kv, has_value, with_value}
use Rattle.kv_host.specs.Kv.{IsSound, shown, is_refused, answer_to, state_after, kv_meaning}
use Rattle.kv_host.specs.Undo.{undo_of, undone}

-- ---- answers are short, and states stay sound

pub opens_sound : IsSound kv_meaning.opening
opens_sound = record {
  few = rw (finite.len-empty (slice_cmp nat_cmp) (List ℕ)) (omega arith);
  fits = λ key. rw (finite.get-empty {X = List ℕ} (slice_cmp nat_cmp) key) tt;
}

shown_short : (key : List ℕ) (o : Option (List ℕ)) → IfSome o (λ v. KeyFits key × ValueFits v) → length (shown o) ≤ 257
shown_short key None h = omega arith
shown_short key (Some v) h = omega (arith, h.1.most)

either_word : (b : Bool) (v w : List ℕ) → length v ≤ 257 → length w ≤ 257 → length (cond b v w) ≤ 257
either_word true v w h k = h
either_word false v w h k = k

answer_short : (kv : Kv) (op : Op) → IsSound kv → length (answer_to kv op) ≤ 257
answer_short kv (Get key) sound = shown_short key (finite.get kv key) (sound.fits key)
answer_short kv (Put key value) sound =
    either_word (is_refused kv key) (codes "full") (shown (finite.get kv key)) (omega arith)
    (shown_short key (finite.get kv key) (sound.fits key))
answer_short kv (Delete key) sound = shown_short key (finite.get kv key) (sound.fits key)
answer_short kv (Swap key old new) sound =
    either_word (has_value kv key old) (codes "yes") (codes "no") (omega arith) (omega arith)
answer_short kv Bad sound = omega arith

pub answers_short : (kv : Kv) (op : List ℕ) → IsSound kv → length (kv_meaning.answer kv op) ≤ 257
answers_short kv op sound = answer_short kv (read_op op) sound

-- what a key has after it was written
pub get-with_value : (kv : Kv) (key : List ℕ) (w : Option (List ℕ)) (q : List ℕ)
    → finite.get (with_value kv key w) q ≡ cond (eq_by_cmp (slice_cmp nat_cmp) q key) w (finite.get kv q)
get-with_value kv key None q = finite.get-remove nat_list_cmp_total kv key q
get-with_value kv key (Some v) q = finite.get-insert nat_list_cmp_total kv key v q

-- the key is the one that was written, or it has what it had
fits_after : (key q : List ℕ) (b : Bool) (w o : Option (List ℕ)) → (b ≡ true → q ≡ key) → IfSome w (λ v. KeyFits key × ValueFits v)
    → IfSome o (λ v. KeyFits q × ValueFits v) → IfSome (cond b w o) (λ v. KeyFits q × ValueFits v)
fits_after key q true w o same h k = subst (λ (r : List ℕ). IfSome w (λ v. KeyFits r × ValueFits v)) (sym (same refl)) h
fits_after key q false w o same h k = k

write_fits : (kv : Kv) (key : List ℕ) (w : Option (List ℕ)) → IfSome w (λ v. KeyFits key × ValueFits v) → IsSound kv
    → (q : List ℕ) → IfSome (finite.get (with_value kv key w) q) (λ v. KeyFits q × ValueFits v)
write_fits kv key w fits sound q =
    rw (get-with_value kv key w q)
    (fits_after key q (eq_by_cmp (slice_cmp nat_cmp) q key) w (finite.get kv q)
    (λ e. (bytes_decides q key).0 (texts_ties q key ∙ e)) fits (sound.fits q))

one_less : (b : Bool) (n : ℕ) → n ≤ MAX_KEYS → cond b (n - 1) n ≤ MAX_KEYS
one_less true n h = omega arith
one_less false n h = h

delete_sound : (kv : Kv) (key : List ℕ) → IsSound kv → IsSound (finite.remove kv key)
delete_sound kv key sound = record {
  few = rw (finite.len-remove nat_list_cmp_total kv key) (one_less (finite.contains_key kv key) (finite.len kv) sound.few);
  fits = write_fits kv key None tt sound;
}

one_more : (b : Bool) (n : ℕ) → not b && nat_le MAX_KEYS n ≡ false → n ≤ MAX_KEYS → cond b n (n + 1) ≤ MAX_KEYS
one_more true n e h = h
one_more false n e h = grind (arith, nat_tests)

insert_sound : (kv : Kv) (key value : List ℕ) → is_refused kv key ≡ false → KeyFits key × ValueFits value → IsSound kv
    → IsSound (finite.insert kv key value)
insert_sound kv key value room fits sound = record {
  few = rw (finite.len-insert nat_list_cmp_total kv key value) (one_more (finite.contains_key kv key) (finite.len kv) room sound.few);
  fits = write_fits kv key (Some value) fits sound;
}

put_sound : (b : Bool) (kv : Kv) (key value : List ℕ) → is_refused kv key ≡ b → KeyFits key × ValueFits value → IsSound kv
    → IsSound (cond b kv (finite.insert kv key value))
put_sound true kv key value e fits sound = sound
put_sound false kv key value e fits sound = insert_sound kv key value e fits sound

-- a key that has a value is not refused
held : (o : Option (List ℕ)) (value : List ℕ) (n : ℕ) → option_eq (pointwise nat_eq) o (Some value) ≡ true
    → not (is_some o) && nat_le MAX_KEYS n ≡ false
held None value n e = absurd (true≢false (sym e))
held (Some v) value n e = refl

swap_sound : (b : Bool) (kv : Kv) (key old new : List ℕ) → has_value kv key old ≡ b → KeyFits key × ValueFits new → IsSound kv
    → IsSound (cond b (finite.insert kv key new) kv)
swap_sound true kv key old new e fits sound =
    insert_sound kv key new (held (finite.get kv key) old (finite.len kv) e) fits sound
swap_sound false kv key old new e fits sound = sound

op_sound : (kv : Kv) (op : Op) → OpFits op → IsSound kv → IsSound (state_after kv op)
op_sound kv (Get key) fits sound = sound
op_sound kv (Put key value) fits sound = put_sound (is_refused kv key) kv key value refl fits sound
op_sound kv (Delete key) fits sound = delete_sound kv key sound
op_sound kv (Swap key old new) fits sound = swap_sound (has_value kv key old) kv key old new refl (fits.0, fits.2) sound
op_sound kv Bad fits sound = sound

pub stays_sound : (kv : Kv) (op : List ℕ) → IsSound kv → IsSound (kv_meaning.after kv op)
stays_sound kv op sound = op_sound kv (read_op op) (read_fits op) sound

-- ---- an op is undone

same : (kv kv' : Kv) → ((q : List ℕ) → finite.get kv q ≡ finite.get kv' q) → kv ≡ kv'
same kv kv' h = finite.same_map nat_list_cmp_total exact_bytes kv kv' h

-- where a key is read, what stood there before it was written does not count
twice : (b : Bool) (v w o : Option (List ℕ)) → (b ≡ true → v ≡ o) → cond b v (cond b w o) ≡ o
twice true v w o h = h refl
twice false v w o h = refl

tied : (kv : Kv) (key q : List ℕ) → eq_by_cmp (slice_cmp nat_cmp) q key ≡ true → finite.get kv key ≡ finite.get kv q
tied kv key q e = ap (finite.get kv) (sym ((bytes_decides q key).0 (texts_ties q key ∙ e)))

-- a key is written, and then has its former value again
pub write_undone : (kv : Kv) (key : List ℕ) (w : Option (List ℕ)) → with_value (with_value kv key w) key (finite.get kv key) ≡ kv
write_undone kv key w =
    same _ kv (λ q.
    get-with_value (with_value kv key w) key (finite.get kv key) q
    ∙ ap (cond (eq_by_cmp (slice_cmp nat_cmp) q key) (finite.get kv key)) (get-with_value kv key w q)
    ∙ twice (eq_by_cmp (slice_cmp nat_cmp) q key) (finite.get kv key) w (finite.get kv q) (tied kv key q))

-- a key is given the value that it has
pub write_same : (kv : Kv) (key : List ℕ) → with_value kv key (finite.get kv key) ≡ kv
write_same kv key =
    same _ kv (λ q. get-with_value kv key (finite.get kv key) q
    ∙ once (eq_by_cmp (slice_cmp nat_cmp) q key) (finite.get kv key) (finite.get kv q) (tied kv key q))
  where
    once : (b : Bool) (v o : Option (List ℕ)) → (b ≡ true → v ≡ o) → cond b v o ≡ o
    once true v o h = h refl
    once false v o h = refl

delete_undone : (kv : Kv) (key : List ℕ) (o : Option (List ℕ)) → finite.get kv key ≡ o
    → undone (finite.remove kv key) (option_map (λ value. record { key = key; value = Some value }) o) ≡ kv
delete_undone kv key None e = ap (with_value kv key) (sym e) ∙ write_same kv key
delete_undone kv key (Some v) e = ap (with_value (finite.remove kv key) key) (sym e) ∙ write_undone kv key None

swap_undone : (kv : Kv) (key new : List ℕ) (b : Bool)
    → undone (cond b (finite.insert kv key new) kv) (cond b (Some (record { key = key; value = finite.get kv key })) None) ≡ kv
swap_undone kv key new true = write_undone kv key (Some new)
swap_undone kv key new false = refl

put_undone : (kv : Kv) (key value : List ℕ) (b : Bool)
    → undone (cond b kv (finite.insert kv key value)) (cond b None (Some (record { key = key; value = finite.get kv key }))) ≡ kv
put_undone kv key value true = refl
put_undone kv key value false = write_undone kv key (Some value)

op_undone : (kv : Kv) (op : Op) → undone (state_after kv op) (undo_of kv op) ≡ kv
op_undone kv (Get key) = refl
op_undone kv (Put key value) = put_undone kv key value (is_refused kv key)
op_undone kv (Delete key) = delete_undone kv key (finite.get kv key) refl
op_undone kv (Swap key old new) = swap_undone kv key new (has_value kv key old)
op_undone kv Bad = refl

pub undoes : (kv : Kv) (op : List ℕ) → undone (kv_meaning.after kv op) (undo_of kv (read_op op)) ≡ kv
undoes kv op = op_undone kv (read_op op)
