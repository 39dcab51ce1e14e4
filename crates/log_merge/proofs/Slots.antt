-- A merge has in each slot what wins there.
use Rattle.std.proofs.Common.{◌≡◌, ℕ, zero, suc, ◌+◌, Bool, true, false, cond, List, [], ◌∷◌, length, max, map, Option, Some, None, is_some}
use Rattle.std.proofs.Common.{refl, sym, ap, ◌∙◌, arith}
use Rattle.std.specs.Prelude.{◌||◌, nat_lt, slice_get, option_map}
use Rattle.std.specs.List.{range_with_len}
use Rattle.std.proofs.lemmas.Bool.Decides.{nat_tests}
use Rattle.nop_types.specs.declared.request.Entry.{Entry}
use Rattle.nop_types.specs.PlainChanges.{Change}
use Rattle.nop_types.specs.Lists.{slot_of}
use Rattle.log_merge.specs.Merge.{Choice, choice_of, of_two, chosen, entry_of, longest, merge}

get-map-range : {A : Type 0} (f : ℕ → A) (a n i : ℕ) → slice_get (map f (range_with_len a n)) i ≡ cond (nat_lt i n) (Some (f (a + i))) None
get-map-range f a zero i = rw (let past : nat_lt i zero ≡ false = grind (arith, nat_tests) in past) refl
get-map-range f a (suc n) zero =
    rw (let here : nat_lt zero (suc n) ≡ true = grind (arith, nat_tests) in here) (ap (λ k. Some (f k)) (omega arith))
get-map-range f a (suc n) (suc i) =
    get-map-range f (a + 1) n i
    ∙ ap (λ b. cond b (Some (f (a + 1 + i))) None) (let less : nat_lt i n ≡ nat_lt (suc i) (suc n) = grind (arith, nat_tests) in less)
    ∙ ap (λ k. cond (nat_lt (suc i) (suc n)) (Some (f k)) None) (omega arith)

some-get : {A : Type 0} (xs : List A) (i : ℕ) → is_some (slice_get xs i) ≡ nat_lt i (length xs)
some-get [] i = let past : nat_lt i zero ≡ false = grind (arith, nat_tests) in sym past
some-get (x ∷ xs) zero = let here : nat_lt zero (suc (length xs)) ≡ true = grind (arith, nat_tests) in sym here
some-get (x ∷ xs) (suc i) =
    some-get xs i ∙ (let less : nat_lt i (length xs) ≡ nat_lt (suc i) (suc (length xs)) = grind (arith, nat_tests) in less)

some-choice_of : (s : ℕ) (o : Option Entry) → is_some (choice_of s o) ≡ is_some o
some-choice_of s None = refl
some-choice_of s (Some x) = refl

some-two : (a b : Option Choice) → is_some (of_two a b) ≡ (is_some a || is_some b)
some-two None b = refl
some-two (Some a) None = refl
some-two (Some a) (Some b) = refl

below-max : (i m n : ℕ) → nat_lt i (max m n) ≡ (nat_lt i m || nat_lt i n)
below-max i m n = grind (arith, nat_tests)

-- something wins in each slot up to the longest length, and in no other
some-chosen : (cs : List Change) (i : ℕ) → is_some (chosen cs (suc i)) ≡ nat_lt i (longest cs)
some-chosen [] i = let past : nat_lt i zero ≡ false = grind (arith, nat_tests) in sym past
some-chosen (c ∷ cs) i =
    some-two (choice_of c.sender (slice_get c.log i)) (chosen cs (suc i))
    ∙ ap (λ b. b || is_some (chosen cs (suc i))) (some-choice_of c.sender (slice_get c.log i) ∙ some-get c.log i)
    ∙ ap (λ b. nat_lt i (length c.log) || b) (some-chosen cs i)
    ∙ sym (below-max i (length c.log) (longest cs))

none-chosen : (cs : List Change) → chosen cs zero ≡ None
none-chosen [] = refl
none-chosen (c ∷ cs) = none-chosen cs

given : (o : Option Choice) (b : Bool) → is_some o ≡ b → cond b (Some (entry_of o)) None ≡ option_map (λ t. t.entry) o
given None b e = rw (sym e) refl
given (Some t) b e = rw (sym e) refl

pub slot_of-merge : (cs : List Change) (k : ℕ) → slot_of (merge cs) k ≡ option_map (λ t. t.entry) (chosen cs k)
slot_of-merge cs zero = sym (ap (option_map (λ t. t.entry)) (none-chosen cs))
slot_of-merge cs (suc i) =
    get-map-range (λ k. entry_of (chosen cs k)) 1 (longest cs) i
    ∙ ap (λ k. cond (nat_lt i (longest cs)) (Some (entry_of (chosen cs k))) None) (let next : 1 + i ≡ suc i = omega arith in next)
    ∙ given (chosen cs (suc i)) (nat_lt i (longest cs)) (some-chosen cs i)

pub same_slots : {A : Type 0} (xs ys : List A) → ((k : ℕ) → slot_of xs k ≡ slot_of ys k) → xs ≡ ys
same_slots [] [] h = refl
same_slots [] (y ∷ ys) h = absurd (let e = h 1 in cc)
same_slots (x ∷ xs) [] h = absurd (let e = h 1 in cc)
same_slots (x ∷ xs) (y ∷ ys) h =
    let first : x ≡ y = (let e = h 1 in cc) in
    let rest : xs ≡ ys = same_slots xs ys (λ k. rest_at k) in
    cc
  where
    rest_at : (k : ℕ) → slot_of xs k ≡ slot_of ys k
    rest_at zero = refl
    rest_at (suc i) = h (suc (suc i))
