-- What borrowed claims say, as lines.
use Rattle.std.specs.Borrow.{Bor}
use Rattle.std.specs.Prelude.{List, map}
use Rattle.nop_types.specs.Lines.{Line}
use Rattle.transcript_reader.specs.Claims.{line_of}
use Rattle.transcript_reader.specs.declared.claim.Claim.{Claim}

abbrev pub said_by : List (Bor Claim) → List Line
said_by claims = map (λ claim. line_of claim.now) claims
