-- A function is applied to each element of a list, from the first on.
use Rattle.std.proofs.Common.{◌≡◌, ℕ, zero, suc, ◌+◌, ◌≤◌, List, [], ◌∷◌, ◌++◌, length, take, drop, get_or, set, refl, ap, ◌∙◌, sym, arith}
use Rattle.std.specs.Prelude.{map}
use Rattle.std.specs.List.{All}
use Rattle.std.proofs.Math.Numerals.{add-one}
use Rattle.std.proofs.lemmas.List.{take_all, drop_all, append-nil}

-- the first n elements are done
abbrev pub first_done : {A : Type 0} → (A → A) → ℕ → List A → List A
first_done f n xs = map f (take n xs) ++ drop n xs

next_done : {A : Type 0} (f : A → A) (xs : List A) (i : ℕ) (d : A)
    → set (first_done f i xs) i (f (get_or (first_done f i xs) i d)) ≡ first_done f (suc i) xs
next_done f [] zero d = refl
next_done f [] (suc i) d = refl
next_done f (x ∷ xs) zero d = refl
next_done f (x ∷ xs) (suc i) d = ap (λ rest. f x ∷ rest) (next_done f xs i d)

-- one more is done; past the end there is none
pub one_done : {A : Type 0} (f : A → A) (xs : List A) (i : ℕ) (d : A)
    → set (first_done f i xs) i (f (get_or (first_done f i xs) i d)) ≡ first_done f (i + 1) xs
one_done f xs i d = next_done f xs i d ∙ ap (λ (n : ℕ). first_done f n xs) (sym (add-one i))

pub done_at : {A : Type 0} (f : A → A) (all now : List A) (i : ℕ) (x d : A) → now ≡ first_done f i all → x ≡ f (get_or now i d)
    → set now i x ≡ first_done f (i + 1) all
done_at f all now i x d e is =
    ap (λ y. set now i y) is ∙ ap (λ xs. set xs i (f (get_or xs i d))) e ∙ one_done f all i d

pub all_done : {A : Type 0} (f : A → A) (xs : List A) (n : ℕ) → length xs ≤ n → first_done f n xs ≡ map f xs
all_done f xs n le = rw (take_all n xs le, drop_all n xs le) (append-nil (map f xs))

-- where each stays as it is
pub none_changes : {A : Type 0} (f : A → A) (xs : List A) → All (λ x. f x ≡ x) xs → map f xs ≡ xs
none_changes f [] all = refl
none_changes f (x ∷ xs) all =
    ap (λ y. y ∷ map f xs) (all 0 x (omega arith)) ∙ ap (λ ys. x ∷ ys) (none_changes f xs (λ k d lt. all (suc k) d (omega arith)))
