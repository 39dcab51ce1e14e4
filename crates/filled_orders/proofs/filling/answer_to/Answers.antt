use Rattle.std.proofs.Common.{◌≡◌, ◌∙◌, ℕ, List, ap}
use Rattle.std.specs.Prelude.{slice_get}
use Rattle.filled_orders.proofs.filling.answer_to.Goals as goal
use Rattle.lemmas.proofs.Options.{same_Some-at}
use Rattle.nop_types.specs.Lines.{Submit}
use Rattle.nop_types.specs.declared.request.Request.{Request}
use Rattle.transcript_reader.specs.Claims.{lines_of}

pub returns-clause-answer : goal.returns-clause-answer
returns-clause-answer g c r at =
    let here = c.request_at.result.now in
    let same = same_Some-at (slice_get (lines_of c.args.claims.now) c.args.place) (Submit here) (Submit r) c.request_at.ensures at in
    let one : here ≡ r = cc in
    c.in_ok-answer.ensures.answer
    ∙ ap (λ (t : List ℕ). g.H.Host.meaning.answer (g.H.Host.state c.args.host.now) t)
    (c.as_slice.ensures.bytes ∙ ap (λ (q : Request). q.op) one)

pub returns-clause-after : goal.returns-clause-after
returns-clause-after g c r at =
    let here = c.request_at.result.now in
    let same = same_Some-at (slice_get (lines_of c.args.claims.now) c.args.place) (Submit here) (Submit r) c.request_at.ensures at in
    let one : here ≡ r = cc in
    c.in_ok-answer.ensures.after
    ∙ ap (λ (t : List ℕ). g.H.Host.meaning.after (g.H.Host.state c.args.host.now) t)
    (c.as_slice.ensures.bytes ∙ ap (λ (q : Request). q.op) one)
