-- What claims say, as lines.
use Rattle.std.specs.Prelude.{List, map}
use Rattle.nop_types.specs.Lines.{Line, Submit, Accept}
use Rattle.transcript_reader.specs.declared.claim.Claim.{Claim}
use Rattle.transcript_reader.specs.declared.claim.Claim.TheVariants.{Submitted, Accepted}

abbrev pub line_of : Claim → Line
line_of (Submitted request) = Submit request
line_of (Accepted client id result) = Accept client id result

abbrev pub lines_of : List Claim → List Line
lines_of claims = map line_of claims
