use Rattle.pairs.specs.Pairing.{IsPairing}
use Rattle.pairs.specs.Said.{said_by}
use Rattle.pairs.specs.Submitted.{place_in}
use Rattle.pairs.proofs.pairing.pairs_of.Given as goal

abbrev pub invariant-loop-place : goal.invariant-loop-place
invariant-loop-place l =
    IsPairing (said_by l.claims) l.place (place_in l.pairing.submitted) l.pairing.pairs.accepts.items l.pairing.pairs.submits.items
