-- How many of a list pass a test.
use Rattle.std.proofs.Common.{◌≡◌, ◌+◌, Bool, cond, List, ◌++◌}
use Rattle.std.specs.List.{count_by}
use Rattle.std.proofs.lemmas.List.Sums.{sum_by-append}

pub count_by-append : {A : Type 0} (p : A → Bool) (xs ys : List A) → count_by p (xs ++ ys) ≡ count_by p xs + count_by p ys
count_by-append {A} p xs ys = sum_by-append (λ (x : A). cond (p x) 1 0) xs ys
