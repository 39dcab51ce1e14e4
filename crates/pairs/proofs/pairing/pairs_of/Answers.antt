use Rattle.std.proofs.Common.{◌≤◌, length, arith}
use Rattle.pairs.proofs.PairingLemmas.{submitted_once, accepted_later, accepted_once}
use Rattle.pairs.proofs.SaidLemmas.{length_said}
use Rattle.pairs.proofs.pairing.pairs_of.Goals as goal
use Rattle.pairs.specs.Said.{said_by}

pub loop-place-init : goal.loop-place-init
loop-place-init c = c.new-pairing.ensures (said_by c.args.claims.now)

pub returns-clause-submitted : goal.returns-clause-submitted
returns-clause-submitted c =
    let claims = c.args.claims.now in
    let e = length_said claims in
    let all : length (said_by claims) ≤ c.loop-place.place = omega (arith, c.loop-place-test.false, e) in
    submitted_once (said_by claims) c.loop-place.place all c.loop-place.pairing.pairs.accepts.items c.loop-place.pairing.pairs.submits.items
    c.loop-place.invariant.paired

pub returns-clause-accepted : goal.returns-clause-accepted
returns-clause-accepted c =
    let claims = c.args.claims.now in
    let e = length_said claims in
    let all : length (said_by claims) ≤ c.loop-place.place = omega (arith, c.loop-place-test.false, e) in
    accepted_once (said_by claims) c.loop-place.place all c.loop-place.pairing.pairs.accepts.items c.loop-place.pairing.pairs.submits.items
    c.loop-place.invariant.paired

pub returns-clause-later : goal.returns-clause-later
returns-clause-later c =
    let claims = c.args.claims.now in
    let e = length_said claims in
    let all : length (said_by claims) ≤ c.loop-place.place = omega (arith, c.loop-place-test.false, e) in
    accepted_later (said_by claims) c.loop-place.place all c.loop-place.pairing.pairs.accepts.items c.loop-place.pairing.pairs.submits.items
    c.loop-place.invariant.paired
