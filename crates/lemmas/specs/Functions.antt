-- A function of which one place changes.
use Rattle.std.specs.Prelude.{ℕ, cond, ◌==◌}

abbrev pub put : {S : Type 0} → (ℕ → S) → ℕ → S → ℕ → S
put states r p q = cond (q == r) p (states q)
