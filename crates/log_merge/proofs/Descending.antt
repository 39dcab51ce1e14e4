-- The merge of logs from the highest sender down.
use Rattle.std.proofs.Common.{
  ◌≡◌,
  ℕ,
  zero,
  suc,
  ◌<◌,
  ◌≤◌,
  Bool,
  true,
  false,
  cond,
  List,
  [],
  ◌∷◌,
  ◌++◌,
  length,
  take,
  drop,
  filter,
  Option,
  Some,
  None,
}
use Rattle.std.proofs.Common.{refl, sym, ap, ◌∙◌, arith, get_or, map, max, min, inl, inr, take_all, length-append, length-drop}
use Rattle.std.proofs.lemmas.List.{append-nil, get_or-map, length-map, map-append}
use Rattle.std.proofs.lemmas.List.Elements.{filter-append}
use Rattle.std.specs.Prelude.{◌==◌, IfSome, nat_le, slice_get, option_map}
use Rattle.std.specs.List.{AllByRecursion, slice_index_or}
use Rattle.std.specs.List.Sorted.{IsPermutation, IsNonDecreasingBy}
use Rattle.std.proofs.lemmas.List.Sorted.{Contains-permutation, IsPermutation-map, IsPermutation-sym}
use Rattle.std.proofs.lemmas.List.Kept.{IsNonDecreasingBy-filter}
use Rattle.std.proofs.lemmas.Option.{slice_get_within, get_or_from_slice_get, slice_get-map}
use Rattle.std.proofs.lemmas.Bool.Decides.{nat_tests}
use Rattle.nop_types.specs.declared.request.Entry.{Entry}
use Rattle.nop_types.specs.declared.request.Entry.TheVariants.{NoOp, Req}
use Rattle.nop_types.specs.declared.peer.Change as code
use Rattle.nop_types.specs.declared.view.View.{View}
use Rattle.nop_types.specs.Checkpoints.{Checkpoint}
use Rattle.nop_types.specs.Lists.{Has, slot_of}
use Rattle.nop_types.specs.Logs.{Keeping, Trimmed, above}
use Rattle.nop_types.specs.PlainChanges.{Change, plain, plain_above}
use Rattle.nop_types.specs.Views.{is_view}
use Rattle.lemmas.proofs.Members.{Has-first, Has-rest, Has-none, Has-cases, Has-filter, Has-from_filter}
use Rattle.log_merge.specs.Given.{rests}
use Rattle.log_merge.specs.Merge.{Choice, choice_of, of_both, of_two, chosen, merge}
use Rattle.log_merge.specs.Merging.{best, merge_above, merged_from, merged}
use Rattle.log_merge.specs.Pairs.{of_entries, put_noop, with_noops, of_logs}
use Rattle.log_merge.specs.Merged.{HasDistinctSenders, HasPlainLog}
use Rattle.log_merge.proofs.Slots.{slot_of-merge, same_slots}
use Rattle.log_merge.proofs.Best.{best_is_best}
use Rattle.log_merge.proofs.Merged.{merge_of_same}
use Rattle.log_merge.proofs.WholeLogs.{map_filter}

-- ---- the places of two logs

pub length-with_noops : (xs ys : List Entry) → length (with_noops xs ys) ≡ length xs
length-with_noops xs [] = refl
length-with_noops [] (y ∷ ys) = refl
length-with_noops (x ∷ xs) (y ∷ ys) = ap suc (length-with_noops xs ys)

put_first : (x y : Entry) (xs : List Entry) → put_noop (x ∷ xs) zero y ≡ of_entries x y ∷ xs
put_first x NoOp xs = refl
put_first x (Req r) xs = refl

put_later : (x y : Entry) (xs : List Entry) (i : ℕ) → put_noop (x ∷ xs) (suc i) y ≡ x ∷ put_noop xs i y
put_later x NoOp xs i = refl
put_later x (Req r) xs i = refl

-- one place more
pub put_more : (xs ys : List Entry) (i : ℕ) (d : Entry) → i < length xs → i < length ys
    → put_noop (with_noops xs (take i ys)) i (get_or ys i d) ≡ with_noops xs (take (suc i) ys)
put_more [] ys i d h g = absurd (omega arith)
put_more (x ∷ xs) [] i d h g = absurd (omega arith)
put_more (x ∷ xs) (y ∷ ys) zero d h g = put_first x y xs
put_more (x ∷ xs) (y ∷ ys) (suc i) d h g =
    put_later (of_entries x y) (get_or ys i d) (with_noops xs (take i ys)) i
    ∙ ap (λ (l : List Entry). of_entries x y ∷ l) (put_more xs ys i d (omega arith) (omega arith))

pub all_put : (xs ys : List Entry) (i : ℕ) → min (length xs) (length ys) ≤ i → with_noops xs (take i ys) ≡ with_noops xs ys
all_put xs [] i h = ap (with_noops xs) (take_all i [] (omega arith))
all_put [] (y ∷ ys) zero h = refl
all_put [] (y ∷ ys) (suc i) h = refl
all_put (x ∷ xs) (y ∷ ys) zero h = absurd (omega arith)
all_put (x ∷ xs) (y ∷ ys) (suc i) h = ap (λ (l : List Entry). of_entries x y ∷ l) (all_put xs ys i (omega arith))

-- ---- slots of two logs

abbrev of_slots : Option Entry → Option Entry → Option Entry
of_slots None b = b
of_slots (Some x) None = Some x
of_slots (Some x) (Some y) = Some (of_entries x y)

of_slots_none : (a : Option Entry) → of_slots a None ≡ a
of_slots_none None = refl
of_slots_none (Some x) = refl

place_of : (xs ys : List Entry) (i : ℕ) → slice_get (of_logs xs ys) i ≡ of_slots (slice_get xs i) (slice_get ys i)
place_of [] [] i = refl
place_of [] (y ∷ ys) i = refl
place_of (x ∷ xs) [] i =
    ap (λ (l : List Entry). slice_get l i) (append-nil (x ∷ xs)) ∙ sym (of_slots_none (slice_get (x ∷ xs) i))
place_of (x ∷ xs) (y ∷ ys) zero = refl
place_of (x ∷ xs) (y ∷ ys) (suc i) = place_of xs ys i

slot_of_logs : (xs ys : List Entry) (k : ℕ) → slot_of (of_logs xs ys) k ≡ of_slots (slot_of xs k) (slot_of ys k)
slot_of_logs xs ys zero = refl
slot_of_logs xs ys (suc i) = place_of xs ys i

-- ---- all logs, over one above them

abbrev pub of_all : List Change → List Entry → List Entry
of_all [] l = l
of_all (c ∷ cs) l = of_logs c.log (of_all cs l)

pub of_all_pushed : (cs : List Change) (c : Change) (l : List Entry) → of_all (cs ++ c ∷ []) l ≡ of_all cs (of_logs c.log l)
of_all_pushed [] c l = refl
of_all_pushed (d ∷ cs) c l = ap (λ (m : List Entry). of_logs d.log m) (of_all_pushed cs c l)

-- each sender is no lower than those before it
abbrev Ascends : List Change → Type 0
Ascends [] = Unit {0}
Ascends (c ∷ cs) = AllByRecursion (λ d. c.sender ≤ d.sender) cs × Ascends cs

abbrev IsFrom : ℕ → Option Choice → Type 0
IsFrom s o = IfSome o (λ t. s ≤ t.sender)

choice_from : (s q : ℕ) (o : Option Entry) → s ≤ q → IsFrom s (choice_of q o)
choice_from s q None h = tt
choice_from s q (Some x) h = h

either_from : (s : ℕ) (b : Bool) (x y : Choice) → s ≤ x.sender → s ≤ y.sender → s ≤ (cond b x y).sender
either_from s true x y h g = h
either_from s false x y h g = g

both_from : (s : ℕ) (d e : Entry) (x y : Choice) → s ≤ x.sender → s ≤ y.sender → s ≤ (of_both d e x y).sender
both_from s NoOp e x y h g = h
both_from s (Req q) NoOp x y h g = g
both_from s (Req q) (Req r) x y h g = either_from s (nat_le x.sender y.sender) x y h g

two_from : (s : ℕ) (a b : Option Choice) → IsFrom s a → IsFrom s b → IsFrom s (of_two a b)
two_from s None b h g = g
two_from s (Some x) None h g = h
two_from s (Some x) (Some y) h g = both_from s x.entry y.entry x y h g

chosen_from : (s : ℕ) (cs : List Change) (k : ℕ) → AllByRecursion (λ d. s ≤ d.sender) cs → IsFrom s (chosen cs k)
chosen_from s [] k h = tt
chosen_from s (c ∷ cs) k h =
    two_from s (choice_of c.sender (slot_of c.log k)) (chosen cs k) (choice_from s c.sender (slot_of c.log k) h.0) (chosen_from s cs k h.1)

-- the lower sender's entry against another
entries_won : (x y : Entry) (s : ℕ) (t : Choice) → s ≤ t.sender → t.entry ≡ y
    → Some (of_entries x y) ≡ Some (of_both x y (record { sender = s; entry = x }) t).entry
entries_won NoOp NoOp s t h e = refl
entries_won NoOp (Req r) s t h e = refl
entries_won (Req q) NoOp s t h e = ap (λ (z : Entry). Some z) (sym e)
entries_won (Req q) (Req r) s t h e = rw (let lower : nat_le s t.sender ≡ true = grind (arith, nat_tests) in lower) refl

slots_won : (s : ℕ) (a : Option Entry) (o : Option Choice) → IsFrom s o
    → of_slots a (option_map (λ t. t.entry) o) ≡ option_map (λ t. t.entry) (of_two (choice_of s a) o)
slots_won s None o h = refl
slots_won s (Some x) None h = refl
slots_won s (Some x) (Some t) h = entries_won x t.entry s t h refl

slot_of_all : (cs : List Change) (k : ℕ) → Ascends cs → slot_of (of_all cs []) k ≡ option_map (λ t. t.entry) (chosen cs k)
slot_of_all [] zero h = refl
slot_of_all [] (suc i) h = refl
slot_of_all (c ∷ cs) k h =
    slot_of_logs c.log (of_all cs []) k
    ∙ ap (of_slots (slot_of c.log k)) (slot_of_all cs k h.1)
    ∙ slots_won c.sender (slot_of c.log k) (chosen cs k) (chosen_from c.sender cs k h.0)

pub of_ascending : (cs : List Change) → Ascends cs → of_all cs [] ≡ merge cs
of_ascending cs h = same_slots (of_all cs []) (merge cs) (λ k. slot_of_all cs k h ∙ sym (slot_of-merge cs k))

-- ---- sorted changes

all_from : (s : ℕ) (cs : List Change) → ((j : ℕ) (d : Change) → j < length cs → s ≤ (slice_index_or cs j d).sender)
    → AllByRecursion (λ d. s ≤ d.sender) cs
all_from s [] h = tt
all_from s (c ∷ cs) h = (h zero c (omega arith), all_from s cs (λ j d g. h (suc j) d (omega arith)))

ascends : (cs : List Change) → IsNonDecreasingBy (λ c. c.sender) cs → Ascends cs
ascends [] h = tt
ascends (c ∷ cs) h = (
  all_from c.sender cs (λ j d g. h zero (suc j) d (omega arith) (omega arith)),
  ascends cs (λ i j d le g. h (suc i) (suc j) d (omega arith) (omega arith)),
)

-- ---- the changes that count

cons_distinct : (x : Change) (ds : List Change) → ((d : Change) → Has ds d → d.sender ≡ x.sender → ⊥) → HasDistinctSenders ds
    → HasDistinctSenders (x ∷ ds)
cons_distinct x ds apart h zero zero c d e g s = refl
cons_distinct x ds apart h zero (suc j) c d e g s =
    absurd (let same : x ≡ c = cc in apart d (j, g) (sym s ∙ ap (λ (y : Change). y.sender) (sym same)))
cons_distinct x ds apart h (suc i) zero c d e g s =
    absurd (let same : x ≡ d = cc in apart c (i, e) (s ∙ ap (λ (y : Change). y.sender) (sym same)))
cons_distinct x ds apart h (suc i) (suc j) c d e g s = ap suc (h i j c d e g s)

tail_distinct : (x : Change) (cs : List Change) → HasDistinctSenders (x ∷ cs) → HasDistinctSenders cs
tail_distinct x cs h i j c d e g s = let same = h (suc i) (suc j) c d e g s in omega arith

pub kept_distinct : (p : Change → Bool) (cs : List Change) → HasDistinctSenders cs → HasDistinctSenders (filter p cs)
kept_distinct p [] h = h
kept_distinct p (x ∷ cs) h = at (p x) (kept_distinct p cs (tail_distinct x cs h))
  where
    apart : (d : Change) → Has (filter p cs) d → d.sender ≡ x.sender → ⊥
    apart d g s =
        let found = (Has-from_filter p d cs g).0 in
        let same = h zero (suc found.0) x d refl found.1 (sym s) in
        omega arith

    at : (b : Bool) → HasDistinctSenders (filter p cs) → HasDistinctSenders (cond b (x ∷ filter p cs) (filter p cs))
    at true rest = cons_distinct x (filter p cs) apart rest
    at false rest = rest

found_at : {A : Type 0} (xs : List A) (k : ℕ) (x : A) → k < length xs → slice_index_or xs k x ≡ x → slice_get xs k ≡ Some x
found_at [] k x h e = absurd (omega arith)
found_at (y ∷ xs) zero x h e = ap (λ z. Some z) e
found_at (y ∷ xs) (suc k) x h e = found_at xs k x (omega arith) e

pub has_permuted : {A : Type 0} (cs ds : List A) (c : A) → IsPermutation cs ds → Has cs c → Has ds c
has_permuted cs ds c same h =
    let there = Contains-permutation cs ds c same (h.0, slice_get_within cs h.0 c h.1, get_or_from_slice_get cs h.0 c c h.1) in
    (there.0, found_at ds there.0 c there.1 there.2)

logs_permuted : (p : Change → Bool) (cs ds : List Change) (s : ℕ) (l : List Entry) → IsPermutation cs ds
    → HasPlainLog (filter p cs) s l → HasPlainLog (filter p ds) s l
logs_permuted p cs ds s l same h =
    let kept = Has-from_filter p h.change cs h.member in
    record {
      change = h.change;
      member = Has-filter p h.change ds (has_permuted cs ds h.change same kept.0) kept.1;
      sender = h.sender;
      log = h.log;
    }

-- the changes that count, sorted, give the merge of those that count
of_sorted : (p : Change → Bool) (cs ds : List Change) → HasDistinctSenders cs → IsPermutation cs ds
    → IsNonDecreasingBy (λ c. c.sender) ds → of_all (filter p ds) [] ≡ merge (filter p cs)
of_sorted p cs ds distinct same sorted =
    of_ascending (filter p ds) (ascends (filter p ds) (IsNonDecreasingBy-filter (λ c. c.sender) p ds sorted))
    ∙ sym
    (merge_of_same (filter p cs) (filter p ds) (kept_distinct p cs distinct)
    (λ s l. (logs_permuted p cs ds s l same, logs_permuted p ds cs s l (IsPermutation-sym cs ds same))))

-- ---- the changes as they are told

other_at : (k : Keeping) (n : ℕ) (cs : List code.Change) (i : ℕ) (c : Change) → slice_get (map (plain_above k n) cs) i ≡ Some c
    → (d : Change) × (slice_get (map plain cs) i ≡ Some d) × (d.sender ≡ c.sender)
other_at k n [] i c e = absurd cc
other_at k n (d ∷ cs) zero c e =
    let same : plain_above k n d ≡ c = cc in
    (plain d, refl, ap (λ (x : Change). x.sender) same)
other_at k n (d ∷ cs) (suc i) c e = other_at k n cs i c e

pub distinct_above : (k : Keeping) (n : ℕ) (cs : List code.Change) → HasDistinctSenders (map plain cs)
    → HasDistinctSenders (map (plain_above k n) cs)
distinct_above k n cs distinct i j c d e g same =
    let a = other_at k n cs i c e in
    let b = other_at k n cs j d g in
    distinct i j a.0 b.0 a.1 b.1 (a.2 ∙ same ∙ sym b.2)

sorted_above : (n : ℕ) (cs : List code.Change) → IsNonDecreasingBy (λ c. c.sender) cs
    → IsNonDecreasingBy (λ c. c.sender) (map (plain_above Trimmed n) cs)
sorted_above n [] h i j d le within = absurd (omega arith)
sorted_above n (c ∷ cs) h i j d le within =
    let len : j < length (c ∷ cs) = omega (arith, length-map (c ∷ cs) (plain_above Trimmed n)) in
    let at = get_or-map (plain_above Trimmed n) (c ∷ cs) i c d (omega arith) in
    let above = get_or-map (plain_above Trimmed n) (c ∷ cs) j c d len in
    omega (arith, h i j c le len, ap (λ (x : Change). x.sender) at, ap (λ (x : Change). x.sender) above)

-- the changes that count, sorted, give the merge of those that count
pub of_sorted_changes : (view : View) (n : ℕ) (cs ds : List code.Change) → HasDistinctSenders (map plain cs) → IsPermutation cs ds
    → IsNonDecreasingBy (λ c. c.sender) ds → of_all (rests view n ds) [] ≡ merge (rests view n cs)
of_sorted_changes view n cs ds distinct same sorted =
    let p : Change → Bool = λ c. is_view c.last_normal view in
    let f : code.Change → Change = plain_above Trimmed n in
    ap (λ (xs : List Change). of_all xs []) (map_filter f p ds)
    ∙ of_sorted p (map f cs) (map f ds) (distinct_above Trimmed n cs distinct) (IsPermutation-map f cs ds same)
    (sorted_above n ds sorted)
    ∙ sym (ap merge (map_filter f p cs))

-- the last of the changes, where it counts
kept_last : (p : code.Change → Bool) (cs : List code.Change) (c : code.Change) → p c ≡ true
    → filter p (cs ++ c ∷ []) ≡ filter p cs ++ c ∷ []
kept_last p cs c e =
    filter-append p cs (c ∷ []) ∙ ap (λ (b : Bool). filter p cs ++ cond b (c ∷ []) []) e

pub rests_more : (view : View) (n : ℕ) (cs : List code.Change) (c : code.Change) (l : List Entry) → is_view c.last_normal view ≡ true
    → of_all (rests view n cs) (of_logs (above Trimmed c.log n) l) ≡ of_all (rests view n (cs ++ c ∷ [])) l
rests_more view n cs c l e =
    let p : code.Change → Bool = λ d. is_view d.last_normal view in
    let f : code.Change → Change = plain_above Trimmed n in
    sym
    (ap (λ (ds : List code.Change). of_all (map f ds) l) (kept_last p cs c e)
    ∙ ap (λ (ds : List Change). of_all ds l) (map-append f (filter p cs) (c ∷ []))
    ∙ of_all_pushed (map f (filter p cs)) (f c) l)

-- ---- the checkpoint of a sender

-- the checkpoint that the changes bring from this sender, else one that is there
abbrev pub taken : ℕ → List code.Change → Option Checkpoint → Option Checkpoint
taken s [] o = o
taken s (c ∷ cs) o = cond (c.sender == s) c.log.checkpoint (taken s cs o)

taken_pushed : (s : ℕ) (cs : List code.Change) (c : code.Change) (o : Option Checkpoint)
    → taken s (cs ++ c ∷ []) o ≡ taken s cs (cond (c.sender == s) c.log.checkpoint o)
taken_pushed s [] c o = refl
taken_pushed s (d ∷ cs) c o = ap (λ (x : Option Checkpoint). cond (d.sender == s) d.log.checkpoint x) (taken_pushed s cs c o)

pub taken_more : (p : code.Change → Bool) (s : ℕ) (cs : List code.Change) (c : code.Change) (o : Option Checkpoint) → p c ≡ true
    → taken s (filter p cs) (cond (c.sender == s) c.log.checkpoint o) ≡ taken s (filter p (cs ++ c ∷ [])) o
taken_more p s cs c o e =
    sym (ap (λ (ds : List code.Change). taken s ds o) (kept_last p cs c e) ∙ taken_pushed s (filter p cs) c o)

taken_is : (s : ℕ) (cs : List code.Change) (g : code.Change) → Has cs g → g.sender ≡ s
    → ((c : code.Change) → Has cs c → c.sender ≡ s → c ≡ g) → taken s cs None ≡ g.log.checkpoint
taken_is s [] g has is only = absurd (Has-none g has)
taken_is s (c ∷ cs) g has is only =
    on (c.sender == s) refl (λ rest. taken_is s cs g rest is (λ d h. only d (Has-rest d c cs h)))
  where
    on : (b : Bool) → (c.sender == s) ≡ b → (Has cs g → taken s cs None ≡ g.log.checkpoint)
        → cond b c.log.checkpoint (taken s cs None) ≡ g.log.checkpoint
    on true e later =
        ap (λ (d : code.Change). d.log.checkpoint) (only c (Has-first c c cs refl) (grind (arith, nat_tests, e)))
    on false e later =
        elim (Has-cases g c cs has) [
          | inl same ↦ absurd (let here = ap (λ (d : code.Change). d.sender) same in grind (arith, nat_tests, e, here, is))
          | inr rest ↦ later rest
        ]

pub same_change : (cs : List code.Change) (c d : code.Change) → HasDistinctSenders (map plain cs) → Has cs c → Has cs d
    → c.sender ≡ d.sender → c ≡ d
same_change cs c d distinct (i, e) (j, g) same =
    let at = distinct i j (plain c) (plain d) (plain_at i c e) (plain_at j d g) same in
    let both : Some c ≡ Some d = sym e ∙ ap (λ (k : ℕ). slice_get cs k) at ∙ g in
    cc
  where
    plain_at : (k : ℕ) (x : code.Change) → slice_get cs k ≡ Some x → slice_get (map plain cs) k ≡ Some (plain x)
    plain_at k x f = slice_get-map plain cs k ∙ ap (option_map plain) f

-- the best one's, in whatever order the changes are
pub taken_best : (p : code.Change → Bool) (cs ds : List code.Change) (g : code.Change) → HasDistinctSenders (map plain cs)
    → IsPermutation cs ds → best (filter p cs) ≡ Some g → taken g.sender (filter p ds) None ≡ g.log.checkpoint
taken_best p cs ds g distinct same e =
    let there = Has-from_filter p g cs (best_is_best (filter p cs) g e).member in
    taken_is g.sender (filter p ds) g (Has-filter p g ds (has_permuted cs ds g same there.0) there.1) refl (λ c has is.
    same_change cs c g distinct (has_permuted ds cs c (IsPermutation-sym cs ds same) (Has-from_filter p c ds has).0) there.0 is)

-- the merge, by its parts
pub merged_of_best : (cs : List code.Change) (g : code.Change) (n : ℕ) (checkpoint : Option Checkpoint) (entries : List Entry)
    → best cs ≡ Some g → n ≡ g.log.sync_point → checkpoint ≡ g.log.checkpoint → entries ≡ merge_above Trimmed n cs
    → record { sync_point = n; checkpoint = checkpoint; entries = entries } ≡ merged Trimmed cs
merged_of_best cs g n checkpoint entries found point same rest =
    let above : entries ≡ merge_above Trimmed g.log.sync_point cs = rest ∙ ap (λ (m : ℕ). merge_above Trimmed m cs) point in
    let parts : record { sync_point = n; checkpoint = checkpoint; entries = entries } ≡ merged_from Trimmed cs (Some g) =
    λ i. record { sync_point = point i; checkpoint = same i; entries = above i } in
    parts ∙ sym (ap (merged_from Trimmed cs) found)

-- ---- two logs as one vector

pub length-of_logs : (xs ys : List Entry) → length (of_logs xs ys) ≡ max (length xs) (length ys)
length-of_logs xs ys =
    omega (
      arith,
      length-append (with_noops xs ys) (drop (length xs) ys),
      length-with_noops xs ys,
      length-drop (length xs) ys,
    )

pub noops_over : (l r xs ys : List Entry) → l ≡ with_noops xs ys → r ≡ l ++ drop (length l) ys → r ≡ of_logs xs ys
noops_over l r xs ys e g = let len = ap length e ∙ length-with_noops xs ys in cc

pub none_left : (cs : List code.Change) → length cs ≡ 0 → cs ≡ []
none_left [] h = refl
none_left (c ∷ cs) h = absurd (omega arith)
