-- Whose turn it is, and the numbers of users.
use Rattle.std.specs.Prelude.{◌≡◌, ◌+◌, ◌⊎◌, ℕ, List, [], ◌∷◌, ◌++◌, Option, Some, None, Result, Ok, Err}
use Rattle.users.specs.declared.event.UserEvent.{UserEvent}
use Rattle.users.specs.declared.event.UserEvent.TheVariants.{Opened}
use Rattle.tcp_users.specs.declared.connections.Turn.{Turn}

-- one turn comes after all others, or none does
abbrev pub AddsTurn : Turn → List Turn → List Turn → Type 0
AddsTurn turn old new = (new ≡ old) ⊎ (new ≡ old ++ turn ∷ [])

-- how many users there were, before and after one was given a number: it is the next one, which nobody had
abbrev pub GivesNumber : {E : Type 0} → ℕ → ℕ → Result (Option ℕ) E → Type 0
GivesNumber old new (Ok (Some user)) = (user ≡ old) × (new ≡ old + 1)
GivesNumber old new (Ok None) = new ≡ old
GivesNumber old new (Err e) = new ≡ old

-- the same of an event: a user who comes has the next number
abbrev pub NumbersEvent : ℕ → ℕ → UserEvent → Type 0
NumbersEvent old new (Opened user) = (user ≡ old) × (new ≡ old + 1)
NumbersEvent old new event = new ≡ old

abbrev pub Numbers : {E : Type 0} → ℕ → ℕ → Result (Option UserEvent) E → Type 0
Numbers old new (Ok (Some event)) = NumbersEvent old new event
Numbers old new (Ok None) = new ≡ old
Numbers old new (Err e) = new ≡ old
