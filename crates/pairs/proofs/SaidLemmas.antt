-- What borrowed claims say.
use Rattle.std.proofs.Common.{◌≡◌, List, length}
use Rattle.std.proofs.lemmas.List.{length-map}
use Rattle.std.specs.Borrow.{Bor}
use Rattle.pairs.specs.Said.{said_by}
use Rattle.transcript_reader.specs.Claims.{line_of}
use Rattle.transcript_reader.specs.declared.claim.Claim.{Claim}

pub length_said : (claims : List (Bor Claim)) → length (said_by claims) ≡ length claims
length_said claims = length-map claims (λ (claim : Bor Claim). line_of claim.now)
