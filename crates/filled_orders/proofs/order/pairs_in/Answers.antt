use Rattle.std.proofs.Common.{◌≡◌, ◌∙◌, ℕ, List, length, sym, ap, subst}
use Rattle.std.specs.Prelude.{IfErr, IfOk, OnOk}
use Rattle.std.proofs.lemmas.List.{length-map}
use Rattle.execution_laws.specs.Legality.{SubmittedOnce}
use Rattle.fronts.specs.Fronts.{AcceptedLater}
use Rattle.filled_orders.proofs.order.pairs_in.Goals as goal
use Rattle.nop_types.specs.Legality.{AcceptedOnce}
use Rattle.nop_types.specs.Lines.{Line}
use Rattle.pairs.proofs.SaidLemmas.{length_said}
use Rattle.pairs.specs.Pairing.{ArePaired}
use Rattle.pairs.specs.Said.{said_by}
use Rattle.pairs.specs.Stops.{StopsAt}
use Rattle.pairs.specs.declared.pairing.Pairs.{Pairs}
use Rattle.transcript_reader.specs.Claims.{line_of, lines_of}

pub returns-clause-paired : goal.returns-clause-paired
returns-clause-paired c =
    let claims = c.args.claims.now in
    let all = c.as_slice.result.now in
    let e : said_by all ≡ lines_of claims = ap said_by c.as_slice.ensures.value ∙ c.in_ok-all.ensures in
    let n : length all ≡ length claims = sym (length_said all) ∙ ap length e ∙ length-map claims line_of in
    subst (λ (k : ℕ). IfOk c.pairs_of.result (λ (p : Pairs). ArePaired (lines_of claims) k p.accepts.items p.submits.items)) n
    (subst (λ (ls : List Line). IfOk c.pairs_of.result (λ (p : Pairs). ArePaired ls (length all) p.accepts.items p.submits.items)) e
    c.pairs_of.ensures.paired)

pub returns-clause-submitted : goal.returns-clause-submitted
returns-clause-submitted c =
    subst (λ (ls : List Line). OnOk c.pairs_of.result (SubmittedOnce ls)) (ap said_by c.as_slice.ensures.value ∙ c.in_ok-all.ensures)
    c.pairs_of.ensures.submitted

pub returns-clause-accepted : goal.returns-clause-accepted
returns-clause-accepted c =
    subst (λ (ls : List Line). OnOk c.pairs_of.result (AcceptedOnce ls)) (ap said_by c.as_slice.ensures.value ∙ c.in_ok-all.ensures)
    c.pairs_of.ensures.accepted

pub returns-clause-later : goal.returns-clause-later
returns-clause-later c =
    subst (λ (ls : List Line). OnOk c.pairs_of.result (AcceptedLater ls)) (ap said_by c.as_slice.ensures.value ∙ c.in_ok-all.ensures)
    c.pairs_of.ensures.later

pub returns-clause-err : goal.returns-clause-err
returns-clause-err c =
    subst (λ (ls : List Line). IfErr c.pairs_of.result (StopsAt ls)) (ap said_by c.as_slice.ensures.value ∙ c.in_ok-all.ensures)
    c.pairs_of.ensures.err
