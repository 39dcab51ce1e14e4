-- What a host means, by its state.
use Rattle.std.specs.Prelude.{ℕ, List, Option}

-- how a host answers: the opening state, and after an op the state and the answer; and what a state is as bytes, and the state that was
-- saved as these bytes, if one was
pub record Meaning (S : Type 0) : Type 0 where
  pub opening : S
  pub after : S → List ℕ → S
  pub answer : S → List ℕ → List ℕ
  pub saved : S → List ℕ
  pub loaded : List ℕ → Option S
