-- The merge of logs that are sent depends on who sent which log, and what a view is started with on no order of the changes.
use Rattle.std.proofs.Common.{◌≡◌, ℕ, ◌≤◌, Bool, List, [], ◌∷◌, Option, Some, None, map, filter, refl, sym, ap, subst, ◌∙◌, arith}
use Rattle.std.proofs.Common.{inl, inr}
use Rattle.std.specs.Prelude.{◌==◌, cond, option_map, slice_get}
use Rattle.std.specs.List.Sorted.{IsPermutation}
use Rattle.std.proofs.lemmas.List.Sorted.{IsPermutation-sym}
use Rattle.std.proofs.lemmas.Option.{slice_get-map}
use Rattle.nop_types.specs.declared.peer.Change as code
use Rattle.nop_types.specs.declared.request.Entry.{Entry}
use Rattle.nop_types.specs.declared.view.View.{View}
use Rattle.nop_types.specs.Lists.{Has}
use Rattle.nop_types.specs.Logs.{Log, Keeping, before, above}
use Rattle.nop_types.specs.PlainChanges.{Change, plain, plain_above}
use Rattle.nop_types.specs.Views.{is_view}
use Rattle.lemmas.proofs.Members.{Has-first, Has-rest, Has-none, Has-cases, Has-filter, Has-from_filter}
use Rattle.lemmas.proofs.Views.{RanksAtMost, outranks-from_ranks, same_View-from_ranks}
use Rattle.log_merge.specs.Merged.{HasDistinctSenders, HasPlainLog, HasLog, HaveSameLogs}
use Rattle.log_merge.specs.Merging.{kept_changes, best, IsBest, merge_above, merged_from, merged}
use Rattle.log_merge.specs.Starting.{greatest, kept, greatest_next, start_of}
use Rattle.log_merge.proofs.Best.{best_is_best, best_of_none}
use Rattle.log_merge.proofs.Descending.{distinct_above, has_permuted, kept_distinct, same_change}
use Rattle.log_merge.proofs.Kept.{greatest_in, greatest_most, kept_has, kept_from}
use Rattle.log_merge.proofs.Merged.{merge_of_same}
use Rattle.log_merge.proofs.WholeLogs.{map_filter}

-- ---- what stands above a slot

logs_above : (k : Keeping) (n : ℕ) (cs ds : List code.Change) → HaveSameLogs cs ds → (s : ℕ) (l : List Entry)
    → HasPlainLog (map (plain_above k n) cs) s l → HasPlainLog (map (plain_above k n) ds) s l
logs_above k n cs ds same s l h = at (slice_get cs h.member.0) refl
  where
    at : (o : Option code.Change) → slice_get cs h.member.0 ≡ o → HasPlainLog (map (plain_above k n) ds) s l
    at None e =
        let f : code.Change → Change = plain_above k n in
        absurd (let none = sym h.member.1 ∙ slice_get-map f cs h.member.0 ∙ ap (option_map f) e in cc)
    at (Some c) e =
        let f : code.Change → Change = plain_above k n in
        let is : f c ≡ h.change =
        (let one = sym (ap (option_map f) e) ∙ sym (slice_get-map f cs h.member.0) ∙ h.member.1 in cc) in
        let d = (same c.sender c.log).0 (record { change = c; member = (h.member.0, e); sender = refl; log = refl }) in
        record {
          change = f d.change;
          member = (d.member.0, slice_get-map f ds d.member.0 ∙ ap (option_map f) d.member.1);
          sender = d.sender ∙ ap (λ (x : Change). x.sender) is ∙ h.sender;
          log = ap (λ (y : Log). above k y n) d.log ∙ ap (λ (x : Change). x.log) is ∙ h.log;
        }

turned : (cs ds : List code.Change) → HaveSameLogs cs ds → HaveSameLogs ds cs
turned cs ds same s l = ((same s l).1, (same s l).0)

-- ---- the best

-- the best of both have one log
same_best : (cs ds : List code.Change) (g h : code.Change) → HasDistinctSenders (map plain cs) → HaveSameLogs cs ds → IsBest cs g
    → IsBest ds h → g.log ≡ h.log
same_best cs ds g h distinct same a b =
    let x = (same g.sender g.log).0 (record { change = g; member = a.member; sender = refl; log = refl }) in
    let y = (same h.sender h.log).1 (record { change = h; member = b.member; sender = refl; log = refl }) in
    let there : x.change.log.sync_point ≡ g.log.sync_point = ap (λ (l : Log). l.sync_point) x.log in
    let here : y.change.log.sync_point ≡ h.log.sync_point = ap (λ (l : Log). l.sync_point) y.log in
    let low = b.greatest x.change x.member in
    let high = a.greatest y.change y.member in
    let left = b.lowest x.change x.member (omega (arith, there, here, low, high)) in
    let right = a.lowest y.change y.member (omega (arith, there, here, low, high)) in
    let one : g.sender ≡ y.change.sender = omega (arith, x.sender, y.sender, left, right) in
    ap (λ (c : code.Change). c.log) (same_change cs g y.change distinct a.member y.member one) ∙ y.log

pub merged_of_same : (k : Keeping) (cs ds : List code.Change) → HasDistinctSenders (map plain cs) → HaveSameLogs cs ds
    → merged k cs ≡ merged k ds
merged_of_same k cs ds distinct same = at (best cs) (best ds) refl refl
  where
    none_sent : (xs ys : List code.Change) → HaveSameLogs xs ys → xs ≡ [] → (h : code.Change) → Has ys h → ⊥
    none_sent xs ys alike none h has =
        let x = (alike h.sender h.log).1 (record { change = h; member = has; sender = refl; log = refl }) in
        Has-none x.change (subst (λ (zs : List code.Change). Has zs x.change) none x.member)

    at : (a b : Option code.Change) → best cs ≡ a → best ds ≡ b → merged_from k cs a ≡ merged_from k ds b
    at None None e i = refl
    at None (Some h) e i = absurd (none_sent cs ds same (best_of_none cs e) h (best_is_best ds h i).member)
    at (Some g) None e i = absurd (none_sent ds cs (turned cs ds same) (best_of_none ds i) g (best_is_best cs g e).member)
    at (Some g) (Some h) e i =
        let log : g.log ≡ h.log = same_best cs ds g h distinct same (best_is_best cs g e) (best_is_best ds h i) in
        let n : ℕ = before k g.log in
        let entries : merge_above k (before k g.log) cs ≡ merge_above k (before k h.log) ds =
        merge_of_same (map (plain_above k n) cs) (map (plain_above k n) ds) (distinct_above k n cs distinct)
        (λ s l. (logs_above k n cs ds same s l, logs_above k n ds cs (turned cs ds same) s l))
        ∙ ap (λ (y : Log). merge_above k (before k y) ds) log in
        λ j. record (log j) { entries = entries j }

-- ---- another order

filtered : (p : code.Change → Bool) (cs ds : List code.Change) → IsPermutation cs ds → (s : ℕ) (l : Log)
    → HasLog (filter p cs) s l → HasLog (filter p ds) s l
filtered p cs ds same s l h =
    let from = Has-from_filter p h.change cs h.member in
    record {
      change = h.change;
      member = Has-filter p h.change ds (has_permuted cs ds h.change same from.0) from.1;
      sender = h.sender;
      log = h.log;
    }

-- of the changes with one last normal view
pub merged_of_permuted : (k : Keeping) (view : View) (cs ds : List code.Change) → HasDistinctSenders (map plain cs)
    → IsPermutation cs ds → merged k (filter (λ c. is_view c.last_normal view) cs) ≡ merged k (filter (λ c. is_view c.last_normal view) ds)
merged_of_permuted k view cs ds distinct same =
    let p : code.Change → Bool = λ c. is_view c.last_normal view in
    let q : Change → Bool = λ c. is_view c.last_normal view in
    let apart : HasDistinctSenders (map plain (filter p cs)) =
    subst HasDistinctSenders (sym (map_filter plain q cs)) (kept_distinct q (map plain cs) distinct) in
    merged_of_same k (filter p cs) (filter p ds) apart
    (λ s l. (filtered p cs ds same s l, filtered p ds cs (IsPermutation-sym cs ds same) s l))

-- ---- what a view is started with

-- what the one has the other has
abbrev HasAll : List Change → List Change → Type 0
HasAll xs ys = (x : Change) → Has xs x → Has ys x

greatest_below : (x : Change) (xs ys : List Change) → HasAll (x ∷ xs) ys → RanksAtMost (greatest (x ∷ xs)) (greatest ys)
greatest_below x xs ys all =
    let d = greatest_in x xs in
    subst (λ (v : View). RanksAtMost v (greatest ys)) d.2 (greatest_most ys d.0 (all d.0 d.1))

same_greatest : (xs ys : List Change) → HasAll xs ys → HasAll ys xs → greatest xs ≡ greatest ys
same_greatest [] [] all back = refl
same_greatest [] (y ∷ ys) all back = absurd (Has-none y (back y (Has-first y y ys refl)))
same_greatest (x ∷ xs) [] all back = absurd (Has-none x (all x (Has-first x x xs refl)))
same_greatest (x ∷ xs) (y ∷ ys) all back =
    same_View-from_ranks (greatest (x ∷ xs)) (greatest (y ∷ ys))
    (outranks-from_ranks (greatest (x ∷ xs)) (greatest (y ∷ ys)) (greatest_below x xs (y ∷ ys) all))
    (outranks-from_ranks (greatest (y ∷ ys)) (greatest (x ∷ xs)) (greatest_below y ys (x ∷ xs) back))

next_within : (xs : List Change) (x : Change) → Has xs x → x.next ≤ greatest_next xs
next_within [] x h = absurd (Has-none x h)
next_within (y ∷ xs) x h = elim (Has-cases x y xs h) [
  | inl e ↦ (let same = ap (λ (z : Change). z.next) e in omega (arith, same))
  | inr i ↦ (let low = next_within xs x i in omega (arith, low))
]

next_below : (xs ys : List Change) → HasAll xs ys → greatest_next xs ≤ greatest_next ys
next_below [] ys all = omega arith
next_below (x ∷ xs) ys all =
    let low = next_within ys x (all x (Has-first x x xs refl)) in
    let rest = next_below xs ys (λ z i. all z (Has-rest z x xs i)) in
    omega (arith, low, rest)

kept_all : (xs ys : List Change) → HasAll xs ys → greatest xs ≡ greatest ys → HasAll (kept xs) (kept ys)
kept_all xs ys all same x i = let from = kept_from xs x i in kept_has ys x (all x from.0) (from.1 ∙ same)

plain_all : (cs ds : List code.Change) → IsPermutation cs ds → HasAll (map plain cs) (map plain ds)
plain_all cs ds same x (i, e) = at (slice_get cs i) refl
  where
    at : (o : Option code.Change) → slice_get cs i ≡ o → Has (map plain ds) x
    at None g = absurd (let none = sym e ∙ slice_get-map plain cs i ∙ ap (option_map plain) g in cc)
    at (Some c) g =
        let is : plain c ≡ x = (let one = sym (ap (option_map plain) g) ∙ sym (slice_get-map plain cs i) ∙ e in cc) in
        let there = has_permuted cs ds c same (i, g) in
        (there.0, slice_get-map plain ds there.0 ∙ ap (option_map plain) there.1 ∙ ap (λ (y : Change). Some y) is)

module _ (cs ds : List code.Change) (same : IsPermutation cs ds) where
  all : HasAll (map plain cs) (map plain ds)
  all = plain_all cs ds same

  back : HasAll (map plain ds) (map plain cs)
  back = plain_all ds cs (IsPermutation-sym cs ds same)

  view : greatest (map plain cs) ≡ greatest (map plain ds)
  view = same_greatest (map plain cs) (map plain ds) all back

  next : greatest_next (kept (map plain cs)) ≡ greatest_next (kept (map plain ds))
  next =
      let low = next_below (kept (map plain cs)) (kept (map plain ds)) (kept_all (map plain cs) (map plain ds) all view) in
      let high = next_below (kept (map plain ds)) (kept (map plain cs)) (kept_all (map plain ds) (map plain cs) back (sym view)) in
      omega (arith, low, high)

  pub next_of_permuted : (w : View) → (start_of w (map plain cs)).next ≡ (start_of w (map plain ds)).next
  next_of_permuted w i = cond ((view i).session == w.session) (next i) 1

  pub kept_of_permuted : (k : Keeping) → HasDistinctSenders (map plain cs) → merged k (kept_changes cs) ≡ merged k (kept_changes ds)
  kept_of_permuted k distinct =
      merged_of_permuted k (greatest (map plain cs)) cs ds distinct same
      ∙ ap (λ (v : View). merged k (filter (λ c. is_view c.last_normal v) ds)) view
