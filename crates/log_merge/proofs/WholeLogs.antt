-- The merge of whole logs is the plain merge.
use Rattle.std.proofs.Common.{◌≡◌, ℕ, Bool, true, false, cond, List, [], ◌∷◌, max, map, filter, Option, Some, None}
use Rattle.std.proofs.Common.{refl, ap, ◌∙◌, arith}
use Rattle.std.specs.Prelude.{IfSome}
use Rattle.std.specs.List.{AllByRecursion}
use Rattle.std.proofs.lemmas.Bool.Decides.{nat_tests}
use Rattle.nop_types.specs.declared.peer.Change.{Change}
use Rattle.nop_types.specs.Logs.{Whole, whole}
use Rattle.nop_types.specs.PlainChanges.{plain}
use Rattle.nop_types.specs.Ranges.{ChangeIsIn}
use Rattle.nop_types.specs.Views.{is_view}
use Rattle.log_merge.specs.Merge.{merge}
use Rattle.log_merge.specs.Merging.{kept_changes, precedes, better, best, merged}
use Rattle.log_merge.specs.Starting.{greatest, kept, greatest_point}

-- ---- what is kept of changes that are sent

map_first : {A B : Type 0} (f : A → B) (b : Bool) (x : A) (xs : List A) (ys : List B) → map f xs ≡ ys
    → map f (cond b (x ∷ xs) xs) ≡ cond b (f x ∷ ys) ys
map_first f true x xs ys e = ap (λ zs. f x ∷ zs) e
map_first f false x xs ys e = e

pub map_filter : {A B : Type 0} (f : A → B) (p : B → Bool) (xs : List A) → map f (filter (λ x. p (f x)) xs) ≡ filter p (map f xs)
map_filter f p [] = refl
map_filter f p (x ∷ xs) = map_first f (p (f x)) x (filter (λ y. p (f y)) xs) (filter p (map f xs)) (map_filter f p xs)

pub kept_is_plain : (cs : List Change) → map plain (kept_changes cs) ≡ kept (map plain cs)
kept_is_plain cs = map_filter plain (λ c. is_view c.last_normal (greatest (map plain cs))) cs

-- ---- the best has the greatest sync point

abbrev point_of : Option Change → ℕ
point_of None = 0
point_of (Some c) = c.log.sync_point

precedes_point : (c d : Change) (b : Bool) → precedes c d ≡ b → (cond b c d).log.sync_point ≡ max c.log.sync_point d.log.sync_point
precedes_point c d true e = grind (arith, nat_tests, e)
precedes_point c d false e = grind (arith, nat_tests, e)

better_point : (c : Change) (o : Option Change) → (better c o).log.sync_point ≡ max c.log.sync_point (point_of o)
better_point c None = omega arith
better_point c (Some d) = precedes_point c d (precedes c d) refl

best_point : (cs : List Change) → point_of (best cs) ≡ greatest_point (map plain cs)
best_point [] = refl
best_point (c ∷ cs) = better_point c (best cs) ∙ ap (λ (n : ℕ). max c.log.sync_point n) (best_point cs)

-- ---- logs without checkpoints

either_none : (b : Bool) (c d : Change) → c.log.checkpoint ≡ None → d.log.checkpoint ≡ None → (cond b c d).log.checkpoint ≡ None
either_none true c d h g = h
either_none false c d h g = g

better_none : (c : Change) (o : Option Change) → c.log.checkpoint ≡ None → IfSome o (λ d. d.log.checkpoint ≡ None)
    → (better c o).log.checkpoint ≡ None
better_none c None h g = h
better_none c (Some d) h g = either_none (precedes c d) c d h g

best_none : (cs : List Change) → AllByRecursion (ChangeIsIn Whole) cs → IfSome (best cs) (λ d. d.log.checkpoint ≡ None)
best_none [] h = tt
best_none (c ∷ cs) h = better_none c (best cs) h.0.rest.log_fits.checkpoint (best_none cs h.1)

-- ---- the merge

pub merged_entries : (cs : List Change) → (merged Whole cs).entries ≡ merge (map plain cs)
merged_entries [] = refl
merged_entries (c ∷ cs) = refl

pub merged_point : (cs : List Change) → (merged Whole cs).sync_point ≡ greatest_point (map plain cs)
merged_point [] = refl
merged_point (c ∷ cs) = best_point (c ∷ cs)

pub merged_has_none : (cs : List Change) → AllByRecursion (ChangeIsIn Whole) cs → (merged Whole cs).checkpoint ≡ None
merged_has_none [] h = refl
merged_has_none (c ∷ cs) h = best_none (c ∷ cs) h

pub merged_is_plain : (cs : List Change) → AllByRecursion (ChangeIsIn Whole) cs
    → merged Whole cs ≡ whole (greatest_point (map plain cs)) (merge (map plain cs))
merged_is_plain cs h =
    let point = merged_point cs in
    let none = merged_has_none cs h in
    let entries = merged_entries cs in
    λ i. record { sync_point = point i; checkpoint = none i; entries = entries i }

-- for the attribute of the law
pub ruleset is_plain = (merged_entries, merged_point, kept_is_plain, merged_is_plain)
