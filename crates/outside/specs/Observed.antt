-- What a device tells of its content, or that it tells nothing.
use Rattle.std.specs.Prelude.{◌≡◌, ℕ, List, [], ◌∷◌, ◌++◌, Option, Some, None, ⊤}

-- what is observable stays as it was
abbrev pub Stays : {A : Type 0} → Option A → Option A → Type 0
Stays None new = ⊤
Stays (Some x) new = new ≡ Some x

-- what is observable grows by x at its end
abbrev pub Adds : {A : Type 0} → Option (List A) → Option (List A) → A → Type 0
Adds None new x = ⊤
Adds (Some xs) new x = new ≡ Some (xs ++ x ∷ [])

-- a number stays as it was where content is observable
abbrev pub StaysIfObserved : {A : Type 0} → Option A → ℕ → ℕ → Type 0
StaysIfObserved None old new = ⊤
StaysIfObserved (Some x) old new = new ≡ old
