use Rattle.std.proofs.Common.{◌≡◌, ◌∙◌, ◌++◌, ◌∷◌, [], ◌<◌, Some, length, ap, add-one, arith, rules}
use Rattle.pairs.proofs.SaidLemmas.{length_said}
use Rattle.order_search.proofs.CountLemmas.{counts_wait, counts_pass, falls_wait, falls_pass}
use Rattle.order_search.proofs.SearchLemmas.{search_waits, search_passes}
use Rattle.order_search.proofs.search.Search.pass.Goals as goal
use Rattle.pairs.specs.Said.{said_by}
use Rattle.transcript_reader.specs.Claims.{line_of}
use Rattle.transcript_reader.specs.declared.claim.Claim.{Claim}

pub returns-in_ok-push-in-Submitted-clause-search : goal.returns-in_ok-push-in-Submitted-clause-search
returns-in_ok-push-in-Submitted-clause-search g c =
    let old = c.args.self.now in
    let claims = c.args.claims.now in
    let lines = said_by claims in
    let was = c.requires.search in
    let e = length_said claims in
    let within : old.line < length lines = omega (arith, c.requires.within, e) in
    let at = c.claim_at.ensures ∙ ap (λ (t : Claim). Some (line_of t)) c.in-Submitted.is in
    let pushed : c.push.new.self.items ≡ old.waiting.items ++ old.line ∷ [] = search rules in
    record {
      searching =
          rw (pushed, add-one old.line)
          (search_waits g.H.Host.meaning g.H.Host.undo_of lines (g.H.Host.state old.host) old.line old.next old.steps.items
          old.waiting.items old.placed.items was.searching c.requires.input.submitted c.in-Submitted.field-0 at within);
      fits = was.fits;
      counted =
          rw (pushed, add-one old.line)
          (counts_wait lines old.line old.next old.steps.items old.waiting.items was.counted c.in-Submitted.field-0 at);
      failed = was.failed;
    }

pub returns-else-not-is_placed-clause-search : goal.returns-else-not-is_placed-clause-search
returns-else-not-is_placed-clause-search g c =
    let old = c.args.self.now in
    let claims = c.args.claims.now in
    let lines = said_by claims in
    let was = c.requires.search in
    let e = length_said claims in
    let within : old.line < length lines = omega (arith, c.requires.within, e) in
    let at = c.claim_at.ensures ∙ ap (λ (t : Claim). Some (line_of t)) c.in-Accepted.is in
    record {
      searching =
          rw (add-one old.line)
          (search_passes g.H.Host.meaning g.H.Host.undo_of lines (g.H.Host.state old.host) old.line old.next old.steps.items
          old.waiting.items old.placed.items was.searching c.in-Accepted.client c.in-Accepted.id c.in-Accepted.result at within
          c.if-not-is_placed.ensures);
      fits = was.fits;
      counted =
          rw (add-one old.line)
          (counts_pass lines old.line old.next old.steps.items old.waiting.items was.counted c.in-Accepted.client
          c.in-Accepted.id c.in-Accepted.result at);
      failed = was.failed;
    }

pub returns-in_ok-push-in-Submitted-clause-falls : goal.returns-in_ok-push-in-Submitted-clause-falls
returns-in_ok-push-in-Submitted-clause-falls g c _ =
    let old = c.args.self.now in
    let claims = c.args.claims.now in
    let e = length_said claims in
    let within : old.line < length (said_by claims) = omega (arith, c.requires.within, e) in
    let at = c.claim_at.ensures ∙ ap (λ (t : Claim). Some (line_of t)) c.in-Submitted.is in
    rw (add-one old.line) (falls_wait (said_by claims) old.line old.next old.steps.items old.waiting.items c.requires.search.counted
    c.in-Submitted.field-0 at within)

pub returns-else-not-is_placed-clause-falls : goal.returns-else-not-is_placed-clause-falls
returns-else-not-is_placed-clause-falls g c _ =
    let old = c.args.self.now in
    let claims = c.args.claims.now in
    let e = length_said claims in
    let within : old.line < length (said_by claims) = omega (arith, c.requires.within, e) in
    rw (add-one old.line) (falls_pass (said_by claims) old.line old.next old.steps.items old.waiting.items c.requires.search.counted
    c.if-not-is_placed.ensures within)
