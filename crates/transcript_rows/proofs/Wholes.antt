-- A text is a line and its end, part by part.
use Rattle.std.proofs.Common.{◌≡◌, ℕ, Bool, true, false, List, [], ◌∷◌, ◌++◌, length, take, drop, sym, ap, ◌∙◌}
use Rattle.std.proofs.lemmas.List.{take-append-drop}
use Rattle.std.proofs.Math.Seq.{take-append_seam, drop-append_seam}
use Rattle.std.specs.Bool.{MatchBool}

matched : (b : Bool) {P Q : Type 0} → MatchBool b P (P → ⊥) → (P → Q) → (Q → P) → MatchBool b Q (Q → ⊥)
matched true p f g = f p
matched false p f g = λ q. p (g q)

pub by_end : (text line : List ℕ) (b : Bool) → take (length line) text ≡ line
    → MatchBool b (drop (length line) text ≡ 10 ∷ []) (drop (length line) text ≡ 10 ∷ [] → ⊥)
    → MatchBool b (text ≡ line ++ 10 ∷ []) (text ≡ line ++ 10 ∷ [] → ⊥)
by_end text line b prefix end =
    matched b end
    (λ e. sym (take-append-drop (length line) text) ∙ ap (λ (xs : List ℕ). xs ++ drop (length line) text) prefix ∙ ap (λ (xs : List ℕ). line ++ xs) e)
    (λ e. ap (drop (length line)) e ∙ drop-append_seam line (10 ∷ []))

pub prefix_is : (text line : List ℕ) → text ≡ line ++ 10 ∷ [] → take (length line) text ≡ line
prefix_is text line e = ap (take (length line)) e ∙ take-append_seam line (10 ∷ [])
