-- Parts of which the first stand in one piece: what comes next goes behind them, and what comes early waits.
use Rattle.std.proofs.Common.{◌≡◌, ℕ, zero, suc, ◌+◌, ◌-◌, ◌*◌, ◌<◌, ◌≤◌, true, false, List, [], ◌∷◌, ◌++◌, length, get_or, set, take, drop}
use Rattle.std.proofs.Common.{Option, Some, None, refl, sym, ap, subst, ◌∙◌, append_assoc, arith, add-one, inl, inr}
use Rattle.std.proofs.Math.Seq.{take-add}
use Rattle.std.proofs.lemmas.Bool.{cases_lt}
use Rattle.std.proofs.lemmas.Grind.{flat_map-append}
use Rattle.std.proofs.lemmas.List.{append-nil, length-append, length-drop, length-set, drop-append-le, take-append-le, drop_at, take_all}
use Rattle.std.proofs.lemmas.List.{drop_more, set-append_right, drop-set-add, drop-set-lt, get_or_append_left, get_or-append_right}
use Rattle.std.proofs.lemmas.List.{get_or-drop}
use Rattle.nop_types.specs.declared.limits.TheConstants.{FRAGMENT_BYTES}
use Rattle.fragments.specs.Parts.{missing, is_open, whole, bytes_of}
use Rattle.fragments.specs.Cutting.{piece}
use Rattle.fragments.specs.Prefix.{prefix_parts, parts_of, IsSplit}
use Rattle.fragments.proofs.Counting.{missing_set, open_missing, open_within}

pub prefix_len : (prefix : List ℕ) (k : ℕ) → length (prefix_parts prefix k) ≡ k
prefix_len prefix zero = refl
prefix_len prefix (suc k) = omega (arith, length-append (prefix_parts prefix k) (Some (piece prefix k) ∷ []), prefix_len prefix k)

pub parts_len : (prefix : List ℕ) (k : ℕ) (later : List (Option (List ℕ))) → k ≤ length later
    → length (parts_of prefix k later) ≡ length later
parts_len prefix k later le = omega (arith, length-append (prefix_parts prefix k) (drop k later), prefix_len prefix k, length-drop k later)

piece_grows : (prefix p : List ℕ) (i : ℕ) → FRAGMENT_BYTES * suc i ≤ length prefix → piece (prefix ++ p) i ≡ piece prefix i
unfolding piece
piece_grows prefix p i le =
    rw (drop-append-le (FRAGMENT_BYTES * i) prefix p (omega arith))
    (take-append-le FRAGMENT_BYTES (drop (FRAGMENT_BYTES * i) prefix) p (omega (arith, length-drop (FRAGMENT_BYTES * i) prefix)))

prefix_grows : (prefix p : List ℕ) (k : ℕ) → FRAGMENT_BYTES * k ≤ length prefix → prefix_parts (prefix ++ p) k ≡ prefix_parts prefix k
prefix_grows prefix p zero le = refl
prefix_grows prefix p (suc k) le = rw (prefix_grows prefix p k (omega arith), piece_grows prefix p k le) refl

last_piece : (prefix p : List ℕ) (k : ℕ) → length prefix ≡ FRAGMENT_BYTES * k → length p ≡ FRAGMENT_BYTES → piece (prefix ++ p) k ≡ p
unfolding piece
last_piece prefix p k size len = rw (drop_at prefix p (FRAGMENT_BYTES * k) size) (take_all FRAGMENT_BYTES p (omega arith))

-- the next part goes behind the front
pub put_next : (prefix p : List ℕ) (k : ℕ) (later : List (Option (List ℕ))) → length prefix ≡ FRAGMENT_BYTES * k → length p ≡ FRAGMENT_BYTES
    → k < length later → parts_of (prefix ++ p) (k + 1) later ≡ set (parts_of prefix k later) k (Some p)
put_next prefix p k later size len lt =
    let x : Option (List ℕ) = Some p in
    let a = prefix_parts prefix k in
    let rest : drop k later ≡ get_or later k x ∷ drop (k + 1) later = drop_more later k x lt in
    let left : parts_of (prefix ++ p) (k + 1) later ≡ a ++ (x ∷ drop (k + 1) later) =
    rw (add-one k, prefix_grows prefix p k (omega arith), last_piece prefix p k size len) (append_assoc a (x ∷ []) (drop (suc k) later)) in
    let zero_is : k - k ≡ 0 = omega arith in
    let right : set (parts_of prefix k later) k x ≡ a ++ (x ∷ drop (k + 1) later) =
    set-append_right a (drop k later) k k x (prefix_len prefix k) (omega arith) ∙ rw (zero_is, rest) refl in
    left ∙ sym right

-- a part that came early may be moved behind the front
pub gather_one : (prefix p : List ℕ) (k : ℕ) (later : List (Option (List ℕ))) → length prefix ≡ FRAGMENT_BYTES * k → length p ≡ FRAGMENT_BYTES
    → k < length later → get_or later k None ≡ Some p → parts_of (prefix ++ p) (k + 1) later ≡ parts_of prefix k later
gather_one prefix p k later size len lt here =
    let x : Option (List ℕ) = Some p in
    let a = prefix_parts prefix k in
    let rest : drop k later ≡ x ∷ drop (k + 1) later =
    drop_more later k None lt ∙ ap (λ (y : Option (List ℕ)). y ∷ drop (k + 1) later) here in
    let left : parts_of (prefix ++ p) (k + 1) later ≡ a ++ (x ∷ drop (k + 1) later) =
    rw (add-one k, prefix_grows prefix p k (omega arith), last_piece prefix p k size len) (append_assoc a (x ∷ []) (drop (suc k) later)) in
    left ∙ ap (λ (d : List (Option (List ℕ))). a ++ d) (sym rest)

-- and its place is then empty
pub gather_step : (prefix p : List ℕ) (k : ℕ) (later : List (Option (List ℕ))) → length prefix ≡ FRAGMENT_BYTES * k
    → length p ≡ FRAGMENT_BYTES → k < length later → get_or later k None ≡ Some p
    → parts_of (prefix ++ p) (k + 1) (set later k None) ≡ parts_of prefix k later
gather_step prefix p k later size len lt here =
    let rest : drop (k + 1) (set later k None) ≡ drop (k + 1) later = drop-set-lt (k + 1) later k None (omega arith) in
    ap (λ (d : List (Option (List ℕ))). prefix_parts (prefix ++ p) (k + 1) ++ d) rest ∙ gather_one prefix p k later size len lt here

-- a part that comes early waits
pub put_later : (prefix : List ℕ) (k i : ℕ) (later : List (Option (List ℕ))) (x : Option (List ℕ)) → k ≤ i
    → parts_of prefix k (set later i x) ≡ set (parts_of prefix k later) i x
put_later prefix k i later x le =
    let j = i - k in
    let i_is : k + j ≡ i = omega arith in
    let moved : drop k (set later i x) ≡ set (drop k later) j x =
    subst (λ (n : ℕ). drop k (set later n x) ≡ set (drop k later) j x) i_is (drop-set-add k later j x) in
    ap (λ (d : List (Option (List ℕ))). prefix_parts prefix k ++ d) moved
    ∙ sym (set-append_right (prefix_parts prefix k) (drop k later) k i x (prefix_len prefix k) le)

-- no part of the front is open
prefix_closed : (prefix : List ℕ) (k i : ℕ) → is_open (prefix_parts prefix k) i ≡ false
prefix_closed prefix zero i = refl
prefix_closed prefix (suc k) i = elim (cases_lt i k) [
  | inl lt ↦
      rw (get_or_append_left (prefix_parts prefix k) (Some (piece prefix k) ∷ []) (Some []) i (rw prefix_len lt)) (prefix_closed prefix k i)
  | inr le ↦ rw (get_or-append_right (prefix_parts prefix k) (Some (piece prefix k) ∷ []) k i (Some []) (prefix_len prefix k) le)
      (one_closed (piece prefix k) (i - k))
]
  where
    one_closed : (b : List ℕ) (j : ℕ) → is_open (Some b ∷ []) j ≡ false
    one_closed b zero = refl
    one_closed b (suc j) = refl

pub prefix_not_open : (prefix : List ℕ) (k i : ℕ) (later : List (Option (List ℕ))) → i < k → is_open (parts_of prefix k later) i ≡ false
prefix_not_open prefix k i later lt =
    rw (get_or_append_left (prefix_parts prefix k) (drop k later) (Some []) i (rw prefix_len lt)) (prefix_closed prefix k i)

pub later_open : (prefix : List ℕ) (k i : ℕ) (later : List (Option (List ℕ))) → k ≤ i → is_open (parts_of prefix k later) i ≡ is_open later i
later_open prefix k i later le =
    let i_is : k + (i - k) ≡ i = omega arith in
    rw (get_or-append_right (prefix_parts prefix k) (drop k later) k i (Some []) (prefix_len prefix k) le, get_or-drop, i_is) refl

pub open_past : (prefix : List ℕ) (k i : ℕ) (later : List (Option (List ℕ))) → is_open (parts_of prefix k later) i ≡ true → k ≤ i
open_past prefix k i later h = elim (cases_lt i k) [
  | inl lt ↦ let no_open = prefix_not_open prefix k i later lt in absurd cc
  | inr le ↦ le
]

-- the front's bytes are its parts
pub whole_taken : (prefix : List ℕ) (k : ℕ) → whole (prefix_parts prefix k) ≡ take (FRAGMENT_BYTES * k) prefix
unfolding piece
whole_taken prefix zero = refl
whole_taken prefix (suc k) =
    let size : FRAGMENT_BYTES * k + FRAGMENT_BYTES ≡ FRAGMENT_BYTES * suc k = omega arith in
    flat_map-append bytes_of (prefix_parts prefix k) (Some (piece prefix k) ∷ [])
    ∙ rw (whole_taken prefix k) (ap (λ (t : List ℕ). take (FRAGMENT_BYTES * k) prefix ++ t) (append-nil (piece prefix k))
    ∙ sym (take-add (FRAGMENT_BYTES * k) FRAGMENT_BYTES prefix) ∙ ap (λ (n : ℕ). take n prefix) size)

pub whole_prefix : (prefix : List ℕ) (k : ℕ) → length prefix ≡ FRAGMENT_BYTES * k → whole (prefix_parts prefix k) ≡ prefix
whole_prefix prefix k size = whole_taken prefix k ∙ take_all (FRAGMENT_BYTES * k) prefix (omega arith)

-- the whole is the front and what stands behind it
pub whole_complete : (prefix : List ℕ) (k i : ℕ) (later : List (Option (List ℕ))) (x : Option (List ℕ)) → length prefix ≡ FRAGMENT_BYTES * k
    → k ≤ i → whole (set (parts_of prefix k later) i x) ≡ prefix ++ whole (set (drop k later) (i - k) x)
whole_complete prefix k i later x size le =
    rw (set-append_right (prefix_parts prefix k) (drop k later) k i x (prefix_len prefix k) le)
    (flat_map-append bytes_of (prefix_parts prefix k) (set (drop k later) (i - k) x)
    ∙ ap (λ (t : List ℕ). t ++ whole (set (drop k later) (i - k) x)) (whole_prefix prefix k size))

pub split_missing : (prefix : List ℕ) (k i m : ℕ) (later : List (Option (List ℕ))) → IsSplit prefix k later m
    → is_open (parts_of prefix k later) i ≡ true → 1 ≤ m
split_missing prefix k i m later s h = omega (arith, open_missing (parts_of prefix k later) i h, s.counted)

pub split_within : (prefix : List ℕ) (k i m : ℕ) (later : List (Option (List ℕ))) → IsSplit prefix k later m
    → is_open (parts_of prefix k later) i ≡ true → i < length later
split_within prefix k i m later s h = omega (arith, open_within (parts_of prefix k later) i h, parts_len prefix k later s.within)

pub split_next : (prefix p : List ℕ) (k m : ℕ) (later : List (Option (List ℕ))) → IsSplit prefix k later m
    → is_open (parts_of prefix k later) k ≡ true → length p ≡ FRAGMENT_BYTES → IsSplit (prefix ++ p) (k + 1) later (m - 1)
split_next prefix p k m later s h len = record {
  size = omega (arith, length-append prefix p, s.size);
  within = omega (arith, split_within prefix k k m later s h);
  counted =
      rw (put_next prefix p k later s.size len (split_within prefix k k m later s h))
      (omega (arith, missing_set (parts_of prefix k later) k p h, s.counted));
}

pub split_later : (prefix p : List ℕ) (k i m : ℕ) (later : List (Option (List ℕ))) → IsSplit prefix k later m
    → is_open (parts_of prefix k later) i ≡ true → IsSplit prefix k (set later i (Some p)) (m - 1)
split_later prefix p k i m later s h = record {
  size = s.size;
  within = omega (arith, s.within, length-set later i (Some p));
  counted =
      rw (put_later prefix k i later (Some p) (open_past prefix k i later h))
      (omega (arith, missing_set (parts_of prefix k later) i p h, s.counted));
}

-- a message stays split where its front was gathered further
pub split_same : (prefix prefix' : List ℕ) (k k' m : ℕ) (later later' : List (Option (List ℕ))) → IsSplit prefix k later m
    → parts_of prefix' k' later' ≡ parts_of prefix k later → length prefix' ≡ FRAGMENT_BYTES * k' → k' ≤ length later'
    → IsSplit prefix' k' later' m
split_same prefix prefix' k k' m later later' s same size within =
    record { size = size; within = within; counted = s.counted ∙ ap missing (sym same) }
