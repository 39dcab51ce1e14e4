use Rattle.std.proofs.Common.{◌∙◌, ℕ, Option, Some, length, refl, ap}
use Rattle.std.proofs.lemmas.Option.{slice_get_read}
use Rattle.pairs.proofs.SaidLemmas.{length_said}
use Rattle.order_search.proofs.AgreeLemmas.{has_place, accept_place, agrees_there, agrees_with_none}
use Rattle.order_search.proofs.agreeing.agrees.Goals as goal
use Rattle.pairs.specs.Said.{said_by}
use Rattle.transcript_reader.specs.Claims.{line_of}

pub claim_at-requires : goal.claim_at-requires
claim_at-requires c =
    let claims = c.args.claims.now in
    let lines = said_by claims in
    let pairs = c.args.pairs.now in
    let all = length_said claims in
    let within = has_place lines (length claims) all pairs.accepts.items pairs.submits.items c.requires.paired c.args.submit c.args.request.now
    c.requires.line in
    let read = slice_get_read pairs.accepts.items _ c.args.submit c.index.result.now refl within c.index.ensures in
    let here = read ∙ ap (λ (t : Option ℕ). Some t) c.in-Some.is in
    accept_place lines (length claims) all pairs.accepts.items pairs.submits.items c.requires.paired c.args.submit c.args.request.now
    c.requires.line c.in-Some.accept here

pub returns-in-Some : goal.returns-in-Some
returns-in-Some c =
    let claims = c.args.claims.now in
    let lines = said_by claims in
    let pairs = c.args.pairs.now in
    let all = length_said claims in
    let request = c.args.request.now in
    let within = has_place lines (length claims) all pairs.accepts.items pairs.submits.items c.requires.paired c.args.submit request
    c.requires.line in
    let read = slice_get_read pairs.accepts.items _ c.args.submit c.index.result.now refl within c.index.ensures in
    let here = read ∙ ap (λ (t : Option ℕ). Some t) c.in-Some.is in
    agrees_there lines (length claims) all pairs.accepts.items pairs.submits.items c.requires.paired c.args.submit request c.requires.line
    c.requires.once c.args.answer.now c.in-Some.accept (line_of c.claim_at.result.now) c.accepts.result here c.claim_at.ensures c.accepts.ensures

pub returns-in-None : goal.returns-in-None
returns-in-None c =
    let claims = c.args.claims.now in
    let lines = said_by claims in
    let pairs = c.args.pairs.now in
    let all = length_said claims in
    let request = c.args.request.now in
    let within = has_place lines (length claims) all pairs.accepts.items pairs.submits.items c.requires.paired c.args.submit request
    c.requires.line in
    let read = slice_get_read pairs.accepts.items _ c.args.submit c.index.result.now refl within c.index.ensures in
    agrees_with_none lines (length claims) all pairs.accepts.items pairs.submits.items c.requires.paired c.args.submit request c.requires.line
    c.requires.once c.args.answer.now (read ∙ ap (λ (t : Option ℕ). Some t) c.in-None.is)
