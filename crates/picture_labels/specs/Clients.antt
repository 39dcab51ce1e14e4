-- What shows of a client's step.
use Rattle.std.specs.Prelude.{⊤}
use Rattle.picture.specs.declared.data.Mark.{Mark}
use Rattle.picture.specs.declared.data.Mark.TheVariants.{Submitted, Accepted, Refused}

-- a client began, took a result, or was refused
abbrev pub IsOfClient : Mark → Type 0
IsOfClient Submitted = ⊤
IsOfClient Accepted = ⊤
IsOfClient Refused = ⊤
IsOfClient _ = ⊥
