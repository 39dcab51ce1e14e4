-- The merge of logs whose entries are in their ranges.
use Rattle.std.proofs.Common.{◌≡◌, ℕ, zero, suc, ◌+◌, ◌-◌, ◌≤◌, Bool, true, false, cond, List, [], ◌∷◌, map, length}
use Rattle.std.proofs.Common.{Option, Some, None, refl, sym, ap, subst, arith, inl, inr, length-drop}
use Rattle.std.specs.Prelude.{IfSome, slice_get, nat_le}
use Rattle.std.specs.List.{AllByRecursion, range_with_len}
use Rattle.nop_types.specs.declared.limits.TheConstants.{MAX_SLOTS, MAX_LENGTH}
use Rattle.nop_types.specs.declared.request.Entry.{Entry}
use Rattle.nop_types.specs.declared.request.Entry.TheVariants.{NoOp, Req}
use Rattle.nop_types.specs.declared.peer.Change as code
use Rattle.nop_types.specs.PlainChanges.{Change, plain_above}
use Rattle.nop_types.specs.Lists.{Has, slot_of}
use Rattle.nop_types.specs.Logs.{Log, Keeping, Whole, Trimmed, empty, before, place_of, above}
use Rattle.nop_types.specs.Ranges.{EntryFits, CheckpointIsIn, LogIsIn, ChangeIsIn}
use Rattle.lemmas.proofs.Members.{Has-none, Has-first, Has-rest, Has-cases}
use Rattle.lemmas.proofs.Prefixes.{all-drop}
use Rattle.log_merge.specs.Merge.{Choice, choice_of, of_both, of_two, chosen, entry_of, longest, merge}
use Rattle.log_merge.specs.Merging.{best, merged_from, merged}
use Rattle.log_merge.proofs.Best.{best_is_best}
use Rattle.log_merge.proofs.Merged.{length-merge}

abbrev ChosenFits : Option Choice → Type 0
ChosenFits o = IfSome o (λ t. EntryFits t.entry)

place_fits : (l : List Entry) (i : ℕ) (s : ℕ) → AllByRecursion EntryFits l → ChosenFits (choice_of s (slice_get l i))
place_fits [] i s h = tt
place_fits (x ∷ l) zero s h = h.0
place_fits (x ∷ l) (suc i) s h = place_fits l i s h.1

slot_fits : (l : List Entry) (k : ℕ) (s : ℕ) → AllByRecursion EntryFits l → ChosenFits (choice_of s (slot_of l k))
slot_fits l zero s h = tt
slot_fits l (suc i) s h = place_fits l i s h

either_fits : (b : Bool) (x y : Choice) → EntryFits x.entry → EntryFits y.entry → EntryFits (cond b x y).entry
either_fits true x y h g = h
either_fits false x y h g = g

both_fit : (d e : Entry) (x y : Choice) → EntryFits x.entry → EntryFits y.entry → EntryFits (of_both d e x y).entry
both_fit NoOp e x y h g = h
both_fit (Req q) NoOp x y h g = g
both_fit (Req q) (Req r) x y h g = either_fits (nat_le x.sender y.sender) x y h g

two_fit : (a b : Option Choice) → ChosenFits a → ChosenFits b → ChosenFits (of_two a b)
two_fit None b h g = g
two_fit (Some x) None h g = h
two_fit (Some x) (Some y) h g = both_fit x.entry y.entry x y h g

chosen_fits : (cs : List Change) (k : ℕ) → AllByRecursion (λ c. AllByRecursion EntryFits c.log) cs → ChosenFits (chosen cs k)
chosen_fits [] k h = tt
chosen_fits (c ∷ cs) k h =
    two_fit (choice_of c.sender (slot_of c.log k)) (chosen cs k) (slot_fits c.log k c.sender h.0) (chosen_fits cs k h.1)

entry_fits : (o : Option Choice) → ChosenFits o → EntryFits (entry_of o)
entry_fits None h = tt
entry_fits (Some t) h = h

all_map : (f : ℕ → Entry) (ks : List ℕ) → ((k : ℕ) → EntryFits (f k)) → AllByRecursion EntryFits (map f ks)
all_map f [] h = tt
all_map f (k ∷ ks) h = (h k, all_map f ks h)

pub merge_fits : (cs : List Change) → AllByRecursion (λ c. AllByRecursion EntryFits c.log) cs → AllByRecursion EntryFits (merge cs)
merge_fits cs h =
    all_map (λ k. entry_of (chosen cs k)) (range_with_len 1 (longest cs)) (λ k. entry_fits (chosen cs k) (chosen_fits cs k h))

-- ---- logs that are sent, kept whole or trimmed

above_fits : (k : Keeping) (n : ℕ) (cs : List code.Change) → AllByRecursion (ChangeIsIn k) cs
    → AllByRecursion (λ c. AllByRecursion EntryFits c.log) (map (plain_above k n) cs)
above_fits k n [] h = tt
above_fits k n (c ∷ cs) h = (all-drop EntryFits (place_of k c.log n) c.log.entries h.0.rest.log_fits.entries, above_fits k n cs h.1)

-- a log with the sync point of another one and n entries is within the limits
abbrev Bounded : Keeping → Log → ℕ → Type 0
Bounded k g n = (before k g + n - g.sync_point ≤ MAX_SLOTS) × (before k g + n ≤ MAX_LENGTH)

one_bounded : (k : Keeping) (g l : Log) → g.sync_point ≤ MAX_LENGTH → l.sync_point ≤ g.sync_point → LogIsIn k l
    → Bounded k g (length (above k l (before k g)))
one_bounded Whole g l most low h =
    let room : length l.entries - l.sync_point ≤ MAX_SLOTS = h.room in
    let limit : length l.entries ≤ MAX_LENGTH = h.limit in
    (omega (arith, low, room, length-drop 0 l.entries), omega (arith, limit, length-drop 0 l.entries))
one_bounded Trimmed g l most low h =
    let room : l.sync_point + length l.entries - l.sync_point ≤ MAX_SLOTS = h.room in
    let limit : l.sync_point + length l.entries ≤ MAX_LENGTH = h.limit in
    let rest = length-drop (g.sync_point - l.sync_point) l.entries in
    (omega (arith, room, rest), omega (arith, most, low, limit, rest))

longest_bounded : (k : Keeping) (g : Log) (cs : List code.Change) → Bounded k g 0 → g.sync_point ≤ MAX_LENGTH
    → ((c : code.Change) → Has cs c → c.log.sync_point ≤ g.sync_point) → AllByRecursion (ChangeIsIn k) cs
    → Bounded k g (longest (map (plain_above k (before k g)) cs))
longest_bounded k g [] none most low h = none
longest_bounded k g (c ∷ cs) none most low h =
    let one = one_bounded k g c.log most (low c (Has-first c c cs refl)) h.0.rest.log_fits in
    let rest = longest_bounded k g cs none most (λ d has. low d (Has-rest d c cs has)) h.1 in
    (omega (arith, one.0, rest.0), omega (arith, one.1, rest.1))

none_bounded : (k : Keeping) (g : Log) → g.sync_point ≤ MAX_LENGTH → Bounded k g 0
none_bounded Whole g most = (omega arith, omega arith)
none_bounded Trimmed g most = (omega arith, omega (arith, most))

all_has : (k : Keeping) (cs : List code.Change) (g : code.Change) → AllByRecursion (ChangeIsIn k) cs → Has cs g → ChangeIsIn k g
all_has k [] g h has = absurd (Has-none g has)
all_has k (c ∷ cs) g h has = elim (Has-cases g c cs has) [
  | inl same ↦ subst (ChangeIsIn k) (sym same) h.0
  | inr rest ↦ all_has k cs g h.1 rest
]

empty_fits : (k : Keeping) → LogIsIn k empty
empty_fits Whole = record { entries = tt; room = omega arith; limit = omega arith; point = omega arith; checkpoint = refl }
empty_fits Trimmed = record { entries = tt; room = omega arith; limit = omega arith; point = omega arith; checkpoint = (refl, tt) }

longest_of : (k : Keeping) (n : ℕ) (cs : List code.Change) (c : code.Change) → Has cs c
    → length (above k c.log n) ≤ longest (map (plain_above k n) cs)
longest_of k n [] c has = absurd (Has-none c has)
longest_of k n (d ∷ cs) c has = elim (Has-cases c d cs has) [
  | inl same ↦ omega (arith, ap (λ (t : code.Change). length (above k t.log n)) same)
  | inr rest ↦ omega (arith, longest_of k n cs c rest)
]

-- a log in its ranges is within what comes before, and its entries from there on
log_within : (k : Keeping) (l : Log) → LogIsIn k l → l.sync_point ≤ before k l + length (above k l (before k l))
log_within Whole l h = let point : l.sync_point ≤ length l.entries = h.point in omega (arith, point, length-drop 0 l.entries)
log_within Trimmed l h = omega arith

-- other entries in place of its own
log_fits : (k : Keeping) (l : Log) (es : List Entry) (n : ℕ) → length es ≡ n → Bounded k l n → l.sync_point ≤ before k l + n
    → AllByRecursion EntryFits es → CheckpointIsIn k l.sync_point l.checkpoint → LogIsIn k (record l { entries = es })
log_fits Whole l es n len bound point each checkpoint = record {
  entries = each;
  room = omega (arith, len, bound.0);
  limit = omega (arith, len, bound.1);
  point = omega (arith, len, point);
  checkpoint = checkpoint;
}
log_fits Trimmed l es n len bound point each checkpoint = record {
  entries = each;
  room = omega (arith, len, bound.0);
  limit = omega (arith, len, bound.1);
  point = omega arith;
  checkpoint = checkpoint;
}

sync_within : (k : Keeping) (l : Log) → LogIsIn k l → l.sync_point ≤ MAX_LENGTH
sync_within k l h = omega (arith, h.point, h.limit)

pub merged_fits : (k : Keeping) (cs : List code.Change) → AllByRecursion (ChangeIsIn k) cs → LogIsIn k (merged k cs)
merged_fits k cs h = on (best cs) refl
  where
    on : (o : Option code.Change) → best cs ≡ o → LogIsIn k (merged_from k cs o)
    on None e = empty_fits k
    on (Some g) e =
        let is = best_is_best cs g e in
        let own = (all_has k cs g h is.member).rest.log_fits in
        let most = sync_within k g.log own in
        let plains = map (plain_above k (before k g.log)) cs in
        log_fits k g.log (merge plains) (longest plains) (length-merge plains)
        (longest_bounded k g.log cs (none_bounded k g.log most) most is.greatest h)
        (omega (arith, log_within k g.log own, longest_of k (before k g.log) cs g is.member))
        (merge_fits plains (above_fits k (before k g.log) cs h))
        own.checkpoint
