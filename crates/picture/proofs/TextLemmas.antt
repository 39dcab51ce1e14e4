-- A text that grows twice.
use Rattle.std.proofs.Common.{◌≡◌, ◌∙◌, ℕ, List, ◌++◌, ap, append_assoc, string_bytes}
use Rattle.picture.specs.Texts.{Grows}
use Rattle.picture.specs.declared.text.Text.{Text}

pub grows_twice : (a b c : Text) (p q : List ℕ) → Grows a b p → Grows b c q → Grows a c (p ++ q)
grows_twice a b c p q f g kept =
    let second = g kept in
    let first = f second.0 in
    (first.0, second.1 ∙ ap (λ (xs : List ℕ). xs ++ q) first.1 ∙ append_assoc (string_bytes a.written) p q)
