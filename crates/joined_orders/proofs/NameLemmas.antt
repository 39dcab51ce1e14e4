-- Names that borrow bytes, and the bytes.
use Rattle.std.proofs.Common.{◌≡◌, ℕ, Bool, true, List, Some, sym, ap, ◌∙◌, not}
use Rattle.std.specs.Borrow.{Bor}
use Rattle.std.specs.Prelude.{slice_get, map}
use Rattle.std.specs.List.{list_any}
use Rattle.std.specs.Str.{bytes_eq}
use Rattle.std.proofs.lemmas.Option.{slice_get-map}
use Rattle.std.proofs.lemmas.Slice.Eq.{bytes_eq-Decides}
use Rattle.joined_orders.proofs.Mapped.{mapped_at}
use Rattle.joined_orders.proofs.Owned.{any-has}
use Rattle.nop_types.specs.Lists.{Has}

abbrev same_name : Bor (List ℕ) → Bor (List ℕ) → Bool
same_name a b = bytes_eq a.now b.now

pub name-there : (keys : List (Bor (List ℕ))) (i : ℕ) (name key : Bor (List ℕ)) → slice_get keys i ≡ Some key → same_name name key ≡ true
    → slice_get (map (λ (k : Bor (List ℕ)). k.now) keys) i ≡ Some name.now
name-there keys i name key h e =
    let same = (bytes_eq-Decides name.now key.now).0 e in
    slice_get-map (λ (k : Bor (List ℕ)). k.now) keys i ∙ rw h (ap (λ (t : List ℕ). Some t) (sym same))

pub name-new : (keys : List (Bor (List ℕ))) (name : Bor (List ℕ)) → not (list_any (same_name name) keys) ≡ true
    → Has (map (λ (k : Bor (List ℕ)). k.now) keys) name.now → ⊥
name-new keys name e h =
    let f = mapped_at (λ (k : Bor (List ℕ)). k.now) keys h.0 name.now h.1 in
    let t = any-has (same_name name) keys f.from (h.0, f.at) ((bytes_eq-Decides name.now f.from.now).1 (sym f.gives)) in
    let x : not true ≡ true = ap not (sym t) ∙ e in
    absurd cc
