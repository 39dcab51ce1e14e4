-- The next request of a session.
use Rattle.std.specs.Prelude.{ℕ, List, Option, Some, None, ⊤}
use Rattle.resp.specs.Parsed.{Reads}
use Rattle.resp.specs.declared.parsed.Parsed.{Parsed}
use Rattle.gate_core.specs.declared.session.InFlight.{InFlight}
use Rattle.gate_core.specs.declared.session.Session.{Session}

-- what its bytes begin with, where none of it is in flight
abbrev pub IsNextOf : Option InFlight → (waiting : List ℕ) → Option Parsed → Type 0
IsNextOf None waiting (Some parsed) = Reads waiting parsed
IsNextOf None waiting None = ⊥
IsNextOf (Some a) waiting (Some parsed) = ⊥
IsNextOf (Some a) waiting None = ⊤

-- where there is one
abbrev pub IsNext : Option Session → Option Parsed → Type 0
IsNext (Some s) next = IsNextOf s.asked s.waiting next
IsNext None (Some parsed) = ⊥
IsNext None None = ⊤
