-- Of the lines that outputs have, those of which the protocol speaks.
use Rattle.std.specs.Prelude.{◌≡◌, ⊤, List, [], ◌∷◌}
use Rattle.nop_types.specs.Lines.{Line, Submit, Accept}
use Rattle.nop_types.specs.declared.output.Out.{Out}
use Rattle.nop_types.specs.declared.output.Out.TheVariants.{Submitted, Accepted}

-- the lines that submit and accept
abbrev pub lines_in : List Out → List Line
lines_in [] = []
lines_in (Submitted r ∷ outs) = Submit r ∷ lines_in outs
lines_in (Accepted client id result ∷ outs) = Accept client id result ∷ lines_in outs
lines_in (_ ∷ outs) = lines_in outs

-- what submits or accepts comes before all else
abbrev pub SaysFirst : List Out → Type 0
SaysFirst [] = ⊤
SaysFirst (Submitted r ∷ outs) = SaysFirst outs
SaysFirst (Accepted client id result ∷ outs) = SaysFirst outs
SaysFirst (_ ∷ outs) = lines_in outs ≡ []
