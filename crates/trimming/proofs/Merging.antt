-- The merge of trimmed logs is the trimmed merge of the whole ones.
use Rattle.std.proofs.Common.{◌≡◌, ℕ, zero, suc, ◌+◌, ◌-◌, ◌≤◌, ◌<◌, Bool, true, false, cond, List, [], ◌∷◌, length, take, drop, map}
use Rattle.std.proofs.Common.{Option, Some, None, refl, sym, ap, ◌∙◌, arith, inl, inr, length-drop, length-take-le, take_at}
use Rattle.std.specs.Prelude.{option_map, slice_get, IfSome}
use Rattle.std.specs.List.{range_with_len}
use Rattle.std.proofs.lemmas.List.FromFn.{length-map-range_with_len}
use Rattle.nop_types.specs.declared.request.Entry.{Entry}
use Rattle.nop_types.specs.declared.peer.Change.{Change}
use Rattle.nop_types.specs.Meaning.{Meaning}
use Rattle.nop_types.specs.Lists.{Has, IsPrefixOf}
use Rattle.nop_types.specs.Logs.{Keeping, Whole, Trimmed, IsWithin}
use Rattle.nop_types.specs.PlainChanges as plain
use Rattle.nop_types.specs.PlainChanges.{plain_above}
use Rattle.lemmas.proofs.Members.{Has-first, Has-rest, Has-none, Has-cases}
use Rattle.log_merge.specs.Merge.{choice_of, of_two, chosen, entry_of, longest, merge}
use Rattle.log_merge.specs.Merging.{merge_above, precedes, better, best, merged_from, merged}
use Rattle.log_merge.proofs.Best.{best_is_best}
use Rattle.trimming.specs.Trimming.{trim}
use Rattle.trimming.specs.Merging.{trim_change, Agree}
use Rattle.trimming.proofs.Lists.{drop-to, get-drop}
use Rattle.trimming.proofs.Logs.{same_log, same_checkpoint, adopted_has_none, overlaid_has_none}

-- ---- plain logs, without their first n entries

abbrev drop_log : ℕ → plain.Change → plain.Change
drop_log n c = record c { log = drop n c.log }

chosen-drop : (n i : ℕ) (cs : List plain.Change) → chosen (map (drop_log n) cs) (suc i) ≡ chosen cs (suc (n + i))
chosen-drop n i [] = refl
chosen-drop n i (c ∷ cs) =
    ap (λ (o : Option Entry). of_two (choice_of c.sender o) (chosen (map (drop_log n) cs) (suc i))) (get-drop n i c.log)
    ∙ ap (of_two (choice_of c.sender (slice_get c.log (n + i)))) (chosen-drop n i cs)

longest-drop : (n : ℕ) (cs : List plain.Change) → longest (map (drop_log n) cs) ≡ longest cs - n
longest-drop n [] = omega arith
longest-drop n (c ∷ cs) = omega (arith, length-drop n c.log, longest-drop n cs)

-- the values of a function from a on, without the first n of them
drop-values : {A : Type 0} (f : ℕ → A) (n a len : ℕ) → drop n (map f (range_with_len a len)) ≡ map f (range_with_len (a + n) (len - n))
drop-values f zero a len =
    let e : a + 0 ≡ a = omega arith in
    let g : len - 0 ≡ len = omega arith in
    rw (e, g) refl
drop-values f (suc n) a zero = let g : 0 - suc n ≡ 0 = omega arith in rw g refl
drop-values f (suc n) a (suc len) =
    let e : a + 1 + n ≡ a + suc n = omega arith in
    let g : len - n ≡ suc len - suc n = omega arith in
    rw (← e, ← g) (drop-values f n (a + 1) len)

-- another function has them n before
earlier : {A : Type 0} (f g : ℕ → A) (n : ℕ) → ((k : ℕ) → 0 < k → f (k + n) ≡ g k) → (a len : ℕ) → 0 < a
    → map f (range_with_len (a + n) len) ≡ map g (range_with_len a len)
earlier f g n same a zero low = refl
earlier f g n same a (suc len) low =
    let e : a + n + 1 ≡ a + 1 + n = omega arith in
    let rest : map f (range_with_len (a + n + 1) len) ≡ map g (range_with_len (a + 1) len) =
    rw e (earlier f g n same (a + 1) len (omega (arith, low))) in
    λ i. same a low i ∷ rest i

-- the merge of the rests is the rest of the merge
rest_of_merge : (n : ℕ) (cs : List plain.Change) → merge (map (drop_log n) cs) ≡ drop n (merge cs)
rest_of_merge n cs =
    ap (λ (len : ℕ). map there (range_with_len 1 len)) (longest-drop n cs)
    ∙ sym (drop-values here n 1 (longest cs) ∙ earlier here there n same 1 (longest cs - n) (omega arith))
  where
    here : ℕ → Entry
    here k = entry_of (chosen cs k)

    there : ℕ → Entry
    there k = entry_of (chosen (map (drop_log n) cs) k)

    same : (k : ℕ) → 0 < k → here (k + n) ≡ there k
    same zero low = absurd (omega (arith, low))
    same (suc i) low =
        ap (λ (k : ℕ). entry_of (chosen cs k)) (let e : suc i + n ≡ suc (n + i) = omega arith in e)
        ∙ ap entry_of (sym (chosen-drop n i cs))

plain_rests : (n : ℕ) (cs : List Change) → map (plain_above Whole n) cs ≡ map (drop_log n) (map (plain_above Whole 0) cs)
plain_rests n [] = refl
plain_rests n (c ∷ cs) = ap (λ (t : List plain.Change). plain_above Whole n c ∷ t) (plain_rests n cs)

pub rests_merge : (n : ℕ) (cs : List Change) → merge_above Whole n cs ≡ drop n (merge_above Whole 0 cs)
rests_merge n cs = ap merge (plain_rests n cs) ∙ rest_of_merge n (map (plain_above Whole 0) cs)

-- ---- the merge of whole logs

longest_of : (cs : List Change) (c : Change) → Has cs c → length c.log.entries ≤ longest (map (plain_above Whole 0) cs)
longest_of [] c h = absurd (Has-none c h)
longest_of (d ∷ cs) c h = elim (Has-cases c d cs h) [
  | inl same ↦ omega (arith, ap (λ (t : Change). length t.log.entries) same)
  | inr rest ↦ omega (arith, longest_of cs c rest)
]

pub merged_within : (cs : List Change) → ((c : Change) → Has cs c → IsWithin c.log) → IsWithin (merged Whole cs)
merged_within cs h = on (best cs) refl
  where
    on : (o : Option Change) → best cs ≡ o → IsWithin (merged_from Whole cs o)
    on None e = omega arith
    on (Some g) e =
        let is = best_is_best cs g e in
        omega (
          arith,
          h g is.member,
          longest_of cs g is.member,
          length-map-range_with_len (λ k. entry_of (chosen (map (plain_above Whole 0) cs) k)) 1 (longest (map (plain_above Whole 0) cs)),
        )

pub merged_has_none : (k : Keeping) (cs : List Change) → ((c : Change) → Has cs c → c.log.checkpoint ≡ None)
    → (merged k cs).checkpoint ≡ None
merged_has_none k cs h = on (best cs) refl
  where
    on : (o : Option Change) → best cs ≡ o → (merged_from k cs o).checkpoint ≡ None
    on None e = refl
    on (Some g) e = h g (best_is_best cs g e).member

-- for the attribute of the law
pub ruleset have_none = (adopted_has_none, overlaid_has_none, merged_has_none)

-- changes agree where the merge begins with each one's entries up to its sync point
pub agree_from_prefixes : (cs : List Change)
    → ((c : Change) → Has cs c → IsWithin c.log × IsPrefixOf (take c.log.sync_point c.log.entries) (merge_above Whole 0 cs)) → Agree cs
agree_from_prefixes cs h = on (best cs) refl
  where
    on : (o : Option Change) → best cs ≡ o
        → IfSome o (λ g. take g.log.sync_point (merge_above Whole 0 cs) ≡ take g.log.sync_point g.log.entries)
    on None e = tt
    on (Some g) e =
        let f = h g (best_is_best cs g e).member in
        ap (take g.log.sync_point) f.1.1
        ∙ take_at (take g.log.sync_point g.log.entries) f.1.0 g.log.sync_point (length-take-le g.log.sync_point g.log.entries f.0)

-- ---- trimmed logs

module _ {S : Type 0} (m : Meaning S) where
  better_trims : (c : Change) (o : Option Change) → better (trim_change m c) (option_map (trim_change m) o) ≡ trim_change m (better c o)
  better_trims c None = refl
  better_trims c (Some d) = on (precedes c d)
    where
      on : (b : Bool) → cond b (trim_change m c) (trim_change m d) ≡ trim_change m (cond b c d)
      on true = refl
      on false = refl

  pub best_trims : (cs : List Change) → best (map (trim_change m) cs) ≡ option_map (trim_change m) (best cs)
  best_trims [] = refl
  best_trims (c ∷ cs) =
      ap (λ (o : Option Change). Some (better (trim_change m c) o)) (best_trims cs)
      ∙ ap (λ (x : Change). Some x) (better_trims c (best cs))

  -- above a slot that no sync point exceeds, a trimmed log keeps what the whole one has there
  rests_trim : (n : ℕ) (cs : List Change) → ((c : Change) → Has cs c → c.log.sync_point ≤ n)
      → map (plain_above Trimmed n) (map (trim_change m) cs) ≡ map (plain_above Whole n) cs
  rests_trim n [] h = refl
  rests_trim n (c ∷ cs) h =
      let own : drop (n - c.log.sync_point) (drop c.log.sync_point c.log.entries) ≡ drop n c.log.entries =
      drop-to n c.log.sync_point c.log.entries (h c (Has-first c c cs refl)) in
      let others = rests_trim n cs (λ d g. h d (Has-rest d c cs g)) in
      λ i. record (plain_above Whole n c) { log = own i } ∷ others i

  from_trims : (cs : List Change) (o : Option Change) → best cs ≡ o
      → IfSome o (λ g. take g.log.sync_point (merge_above Whole 0 cs) ≡ take g.log.sync_point g.log.entries)
      → merged_from Trimmed (map (trim_change m) cs) (option_map (trim_change m) o) ≡ trim m (merged_from Whole cs o)
  from_trims cs None is agree = refl
  from_trims cs (Some g) is agree =
      let n : ℕ = g.log.sync_point in
      same_log n _ _ _ _
      (same_checkpoint m n g.log.entries (merge_above Whole 0 cs) (sym agree))
      (ap merge (rests_trim n cs (best_is_best cs g is).greatest) ∙ rests_merge n cs)

  pub merges_trim : (cs : List Change) → Agree cs → merged Trimmed (map (trim_change m) cs) ≡ trim m (merged Whole cs)
  merges_trim cs agree =
      ap (merged_from Trimmed (map (trim_change m) cs)) (best_trims cs) ∙ from_trims cs (best cs) refl agree
