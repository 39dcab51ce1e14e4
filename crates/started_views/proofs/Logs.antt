-- How far two logs of a view are the same, and how a log goes toward another.
use Rattle.std.proofs.Common.{zero, suc, ◌≡◌, ℕ, ◌≤◌, List, [], ◌∷◌, ◌++◌, length, take, Some, refl, sym, ap, subst, ◌∙◌, arith, inl, inr}
use Rattle.std.proofs.Common.{length-take-le}
use Rattle.std.proofs.lemmas.Option.{same_Some}
use Rattle.nop_types.specs.declared.request.Entry.{Entry}
use Rattle.nop_types.specs.Lists.{IsPrefixOf, slot_of}
use Rattle.nop_types.specs.Slots.{set_slot, laid}
use Rattle.lemmas.proofs.Prefixes.{length-prefix}
use Rattle.lemmas.proofs.Slots.{slot_of-within, slot_of-some, slot_of-prefix, slot_of-from_take, slot_of-take, IsPrefixOf-from_slots}
use Rattle.lemmas.proofs.Slots.{length-set_slot, slot_of-set_after, length-laid, slot_of-laid_after}
use Rattle.started_views.specs.Logs.{SameTo, Toward}

-- ---- the same up to a slot

pub same_slot : (s : ℕ) (l m : List Entry) (k : ℕ) (x : Entry) → SameTo s l m → k ≤ s → slot_of m k ≡ Some x → slot_of l k ≡ Some x
same_slot s l m k x h le e = (slot_of-from_take s l k x (subst (λ t. slot_of t k ≡ Some x) (sym h.same) (slot_of-take s m k x le e))).1

pub same_refl : (s : ℕ) (l : List Entry) → s ≤ length l → SameTo s l l
same_refl s l le = record { left = le; right = le; same = refl }

pub same_sym : (s : ℕ) (l m : List Entry) → SameTo s l m → SameTo s m l
same_sym s l m h = record { left = h.right; right = h.left; same = sym h.same }

pub same_trans : (s : ℕ) (l m k : List Entry) → SameTo s l m → SameTo s m k → SameTo s l k
same_trans s l m k h g = record { left = h.left; right = g.right; same = h.same ∙ g.same }

-- two logs with the same prefix
prefix_same_length : {A : Type 0} (a b : List A) → length a ≡ length b → IsPrefixOf a b → a ≡ b
prefix_same_length [] [] e h = refl
prefix_same_length [] (y ∷ ys) e h = absurd (omega (arith, e))
prefix_same_length (x ∷ xs) [] e h = absurd (omega (arith, e))
prefix_same_length (x ∷ xs) (y ∷ ys) e (rest, g) =
    let first : x ≡ y = cc in
    let below : xs ≡ ys = prefix_same_length xs ys (omega (arith, e)) (rest, cc) in
    cc

pub same_from_slots : (s : ℕ) (l m : List Entry) → s ≤ length l → s ≤ length m
    → ((k : ℕ) (x : Entry) → k ≤ s → slot_of l k ≡ Some x → slot_of m k ≡ Some x) → SameTo s l m
same_from_slots s l m a b h =
    let part : IsPrefixOf (take s l) (take s m) =
    IsPrefixOf-from_slots (take s l) (take s m) (λ k x e. let r = slot_of-from_take s l k x e in
    slot_of-take s m k x r.0 (h k x r.0 r.1)) in
    record { left = a; right = b; same = prefix_same_length (take s l) (take s m) (length-take-le s l a ∙ sym (length-take-le s m b)) part }

-- both begin with the same s slots
pub same_from_prefix : (s : ℕ) (p l m : List Entry) → s ≤ length p → IsPrefixOf p l → IsPrefixOf p m → SameTo s l m
same_from_prefix s p l m le h g =
    same_from_slots s l m (omega (arith, le, length-prefix p l h)) (omega (arith, le, length-prefix p m g)) each
  where
    each : (k : ℕ) (x : Entry) → k ≤ s → slot_of l k ≡ Some x → slot_of m k ≡ Some x
    each k x below e =
        let y = slot_of-some p k (slot_of-within l k x e).0 (omega (arith, below, le)) in
        let one : y.0 ≡ x = same_Some y.0 x (sym (slot_of-prefix p l k y.0 h y.1) ∙ e) in
        slot_of-prefix p m k y.0 g y.1 ∙ ap (λ (t : Entry). Some t) one

-- up to fewer slots, and where the right log grows
pub same_less : (s t : ℕ) (l m : List Entry) → t ≤ s → SameTo s l m → SameTo t l m
same_less s t l m le h =
    same_from_slots t l m (omega (arith, le, h.left)) (omega (arith, le, h.right))
    (λ k x below e. same_slot s m l k x (same_sym s l m h) (omega (arith, below, le)) e)

pub same_grown : (s : ℕ) (l m n : List Entry) → SameTo s l m → IsPrefixOf m n → SameTo s l n
same_grown s l m n h g =
    same_from_slots s l n h.left (omega (arith, h.right, length-prefix m n g))
    (λ k x below e. slot_of-prefix m n k x g (same_slot s m l k x (same_sym s l m h) below e))

-- where both begin one log, their slots are the same
pub prefixes_agree : (s t i : ℕ) (l k a : List Entry) → s ≤ length l → t ≤ length k → IsPrefixOf (take s l) a → IsPrefixOf (take t k) a
    → i ≤ s → i ≤ t → slot_of l i ≡ slot_of k i
prefixes_agree s t zero l k a g h p q d e = refl
prefixes_agree s t (suc i) l k a g h p q d e =
    let x = slot_of-some l (suc i) (omega arith) (omega (arith, d, g)) in
    let y = slot_of-some k (suc i) (omega arith) (omega (arith, e, h)) in
    let mine = slot_of-prefix (take s l) a (suc i) x.0 p (slot_of-take s l (suc i) x.0 d x.1) in
    let its = slot_of-prefix (take t k) a (suc i) y.0 q (slot_of-take t k (suc i) y.0 e y.1) in
    x.1 ∙ sym mine ∙ its ∙ sym y.1

-- ---- toward

pub toward_refl : (m l : List Entry) → Toward m l l
toward_refl m l = record { longer = omega arith; slots = λ i x e. inl e }

-- where m grows in between
pub toward_trans : (m n l k j : List Entry) → IsPrefixOf m n → Toward m l k → Toward n k j → Toward n l j
toward_trans m n l k j h a b = record {
  longer = omega (arith, a.longer, b.longer);
  slots = λ i x e. elim (a.slots i x e) [
    | inl g ↦ b.slots i x g
    | inr (y, mine, new) ↦ elim (b.slots i y new) [
      | inl g ↦ inr (y, slot_of-prefix m n i y h mine, g)
      | inr g ↦ inr g
    ]
  ];
}

pub toward_longer : (m l k : List Entry) → IsPrefixOf l k → Toward m l k
toward_longer m l k h = record { longer = length-prefix l k h; slots = λ i x e. inl (slot_of-prefix l k i x h e) }

pub toward_append : (m l rest : List Entry) → Toward m l (l ++ rest)
toward_append m l rest = toward_longer m l (l ++ rest) (rest, refl)

pub toward_write : (m l : List Entry) (k : ℕ) (x : Entry) → slot_of m k ≡ Some x → Toward m l (set_slot l k x)
toward_write m l k x g = record {
  longer = omega (arith, length-set_slot l k x);
  slots = λ i y e. elim (slot_of-set_after l k x i y e) [ inl h ↦ inr (x, ap (λ (t : ℕ). slot_of m t) h.0 ∙ g, h.1) | inr h ↦ inl h ];
}

pub toward_laid : (m l k : List Entry) → IsPrefixOf l m → Toward m k (laid l k)
toward_laid m l k h = record {
  longer = omega (arith, length-laid l k);
  slots = λ i x e. elim (slot_of-laid_after l k i x e) [ inl (y, a, b) ↦ inr (y, slot_of-prefix l m i y h a, b) | inr g ↦ inl g ];
}

-- a slot that has what m has keeps it
pub toward_keeps_slot : (m l k : List Entry) (i : ℕ) (x : Entry) → Toward m l k → slot_of m i ≡ Some x → slot_of l i ≡ Some x
    → slot_of k i ≡ Some x
toward_keeps_slot m l k i x t g e = elim (t.slots i x e) [ inl r ↦ r | inr (y, led, r) ↦ r ∙ sym led ∙ g ]

-- so a log that is the same as m up to a slot stays so
pub toward_keeps_same : (m l k : List Entry) (s : ℕ) → Toward m l k → SameTo s l m → SameTo s k m
toward_keeps_same m l k s t h =
    same_sym s m k
    (same_from_slots s m k h.right (omega (arith, h.left, t.longer))
    (λ i x below e. toward_keeps_slot m l k i x t e (same_slot s l m i x h below e)))
