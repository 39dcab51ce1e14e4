-- One place of a function changes.
use Rattle.std.proofs.Common.{◌≡◌, ℕ, refl, sym, subst, inl, inr}
use Rattle.std.proofs.lemmas.Bool.{cases_eq, eq-eqb, ne_eqb}
use Rattle.lemmas.specs.Functions.{put}

pub put-here : {S : Type 0} (s : ℕ → S) (r : ℕ) (p : S) → put s r p r ≡ p
put-here s r p = rw (eq-eqb r r refl) refl

pub put-other : {S : Type 0} (s : ℕ → S) (r : ℕ) (p : S) (q : ℕ) → (q ≡ r → ⊥) → put s r p q ≡ s q
put-other s r p q d = rw (ne_eqb q r d) refl

-- what holds of the changed place and of each other holds of all
pub put-all : {S : Type 0} (P : ℕ → S → Type 0) (s : ℕ → S) (r : ℕ) (p : S)
    → P r p → ((q : ℕ) → (q ≡ r → ⊥) → P q (s q)) → (q : ℕ) → P q (put s r p q)
put-all P s r p a b q =
    elim (cases_eq q r) [
      | inl e ↦ subst (λ i. P i (put s r p i)) (sym e) (subst (P r) (sym (put-here s r p)) a)
      | inr d ↦ subst (P q) (sym (put-other s r p q d)) (b q d)
    ]
