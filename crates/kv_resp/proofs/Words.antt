-- Whether two words are one.
use Rattle.std.proofs.Common.{◌≡◌, ℕ, Bool, true, false, List, refl, sym}
use Rattle.std.specs.Prelude.{IsTrue, ◌↔◌}
use Rattle.std.specs.Str.{bytes_eq}
use Rattle.std.proofs.lemmas.Slice.Eq.{bytes_eq-Decides}

decided : {P : Type 0} (b c : Bool) → (IsTrue b ↔ P) → (c ≡ true → P) × (P → c ≡ true) → b ≡ c
decided true c h d = sym (d.1 (h.0 refl))
decided false true h d = h.1 (d.0 refl)
decided false false h d = refl

pub same_word : (b : Bool) (x y : List ℕ) → (IsTrue b ↔ (x ≡ y)) → b ≡ bytes_eq x y
same_word b x y h = decided b (bytes_eq x y) h (bytes_eq-Decides x y)
