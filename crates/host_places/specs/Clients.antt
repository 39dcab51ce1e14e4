-- Clients whose numbers are one above the other.
use Rattle.std.specs.Prelude.{◌≡◌, ◌<◌, ℕ, zero, suc, ◌+◌, List, [], ◌∷◌, ◌++◌, None, is_some, true}
use Rattle.nop_types.specs.declared.output.Actor.{Actor}
use Rattle.nop_types.specs.declared.output.Actor.TheVariants.{Client}
use Rattle.host_list.specs.Lists.{address_with}
use Rattle.host_list.specs.declared.list.HostList.{HostList}

-- so many of them, from this number on
abbrev pub clients_from : ℕ → ℕ → List Actor
clients_from first zero = []
clients_from first (suc n) = clients_from first n ++ Client (first + n) ∷ []

-- the list has each of the first so many
abbrev pub HasAll : HostList → ℕ → ℕ → Type 0
HasAll list first count = (i : ℕ) → i < count → is_some (address_with list (Client (first + i))) ≡ true

-- it has not this one of them
abbrev pub LacksOne : HostList → ℕ → ℕ → Type 0
LacksOne list first count = (i : ℕ) × (i < count) × (address_with list (Client (first + i)) ≡ None)
