-- What stands at a place of a list.
use Rattle.std.proofs.Common.{◌≡◌, ℕ, List, Some, sym, ap, ◌∙◌}
use Rattle.std.specs.Prelude.{slice_get, slice_set}
use Rattle.std.proofs.lemmas.List.{set-get_or}
use Rattle.std.proofs.lemmas.Option.{get_or_from_slice_get}

-- it is written back
pub slice_set-found : {A : Type 0} (xs : List A) (i : ℕ) (x : A) → slice_get xs i ≡ Some x → slice_set xs i x ≡ xs
slice_set-found xs i x found = ap (slice_set xs i) (sym (get_or_from_slice_get xs i x x found)) ∙ set-get_or xs i x
