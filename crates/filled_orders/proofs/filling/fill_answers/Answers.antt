use Rattle.std.proofs.Common.{◌≡◌, ◌∙◌, ◌+◌, ℕ, List, Option, Some, length, drop, get_or, sym, ap, arith}
use Rattle.std.specs.Prelude.{slice_get}
use Rattle.std.proofs.lemmas.List.{length-map}
use Rattle.std.proofs.lemmas.Option.{slice_get-get_or, slice_get_within}
use Rattle.filled_orders.proofs.Placed.{step_fills, step_left, target_is}
use Rattle.filled_orders.proofs.Structure.{accept_out, submit_out}
use Rattle.filled_orders.proofs.filling.fill_answers.Goals as goal
use Rattle.filled_orders.specs.Filling.{filled_along, marked_of, set_result}
use Rattle.nop_types.specs.Lines.{Line, Submit, Accept}
use Rattle.order_search.specs.Turns.{history_at}
use Rattle.transcript_reader.specs.Claims.{line_of, lines_of}
use Rattle.transcript_reader.specs.declared.claim.Claim.{Claim}
use Rattle.unknown_results.specs.Asking.{erased, unknown_in}
use Rattle.std.specs.Prelude.{map}

pub answer_to-requires : goal.answer_to-requires
answer_to-requires g c =
    let lines = lines_of c.args.claims.now.items in
    let unknown = unknown_in c.args.marks.now lines in
    let places = c.args.places.now in
    let k = c.loop-place.place-index in
    let s = c.requires.submit k (get_or places k 0) (slice_get-get_or places k 0 c.loop-place-test.true) in (
      s.0,
      ap (λ (cs : List Claim). slice_get (lines_of cs) (get_or places k 0)) c.deref.ensures.value
          ∙ submit_out unknown lines (lines_of c.loop-place.claims.items) c.loop-place.invariant.fills (get_or places k 0) s.0 s.1,
    )

pub marked_accept-accept-requires-clause-within : goal.marked_accept-accept-requires-clause-within
marked_accept-accept-requires-clause-within g c =
    let claims = c.args.claims.now.items in
    let places = c.args.places.now in
    let k = c.loop-place.place-index in
    let s = c.requires.submit k (get_or places k 0) (slice_get-get_or places k 0 c.loop-place-test.true) in
    let l = slice_get_within (lines_of claims) (get_or places k 0) (Submit s.0) s.1 in
    omega (arith, l, length-map claims line_of, c.requires.paired.accepts_length)

pub marked_accept-accept-requires-clause-marks : goal.marked_accept-accept-requires-clause-marks
marked_accept-accept-requires-clause-marks g c j e =
    let claims = c.args.claims.now.items in
    let p = c.requires.paired.accepted (get_or c.args.places.now c.loop-place.place-index 0) j e in
    let l = slice_get_within (lines_of claims) j (Accept p.request.client p.request.id p.result) p.accepts in
    omega (arith, l, length-map claims line_of, c.requires.whole)

pub fill_one-requires : goal.fill_one-requires
fill_one-requires g c j e =
    let claims = c.args.claims.now.items in
    let lines = lines_of claims in
    let marks = c.args.marks.now in
    let places = c.args.places.now in
    let k = c.loop-place.place-index in
    let accepts = c.args.pairs.now.accepts.items in
    let s = c.requires.submit k (get_or places k 0) (slice_get-get_or places k 0 c.loop-place-test.true) in
    let t = target_is marks lines (length claims) accepts c.args.pairs.now.submits.items c.requires.paired c.requires.once
    (length-map claims line_of) c.requires.whole (get_or places k 0) s.0 s.1 j (sym c.marked_accept-accept.ensures ∙ e) in
    let x = accept_out (unknown_in marks lines) lines (lines_of c.loop-place.claims.items) c.loop-place.invariant.fills j s.0.client s.0.id
    t.result t.line in
    (s.0.client, s.0.id, x.0, x.1)

pub loop-place-preserved : goal.loop-place-preserved
loop-place-preserved g c =
    let m = g.H.Host.meaning in
    let claims = c.args.claims.now.items in
    let lines = lines_of claims in
    let marks = c.args.marks.now in
    let unknown = unknown_in marks lines in
    let places = c.args.places.now in
    let k = c.loop-place.place-index in
    let i = get_or places k 0 in
    let accepts = c.args.pairs.now.accepts.items in
    let place = slice_get-get_or places k 0 c.loop-place-test.true in
    let s = c.requires.submit k i place in
    let now = lines_of c.loop-place.claims.items in
    let fills = c.loop-place.invariant.fills in
    let at : slice_get (lines_of c.deref.result.now) i ≡ Some (Submit s.0) =
    ap (λ (cs : List Claim). slice_get (lines_of cs) i) c.deref.ensures.value ∙ submit_out unknown lines now fills i s.0 s.1 in
    let state = g.H.Host.state c.loop-place.host in
    let target : Option ℕ = marked_of marks (slice_get accepts i) in
    let filled : lines_of c.fill_one.new.claims.items ≡ set_result now target (m.answer state s.0.op) =
    c.fill_one.ensures
    ∙ ap (λ (o : Option ℕ). set_result now o c.in_ok-answer.answer) c.marked_accept-accept.ensures
    ∙ ap (λ (a : List ℕ). set_result now target a) (c.in_ok-answer.ensures.answer s.0 at) in
    let rest = history_at lines (drop (k + 1) places) in
    record {
      left = ap (λ (ls : List Line). filled_along m unknown (g.H.Host.state c.answer_to.new.host) rest ls) filled
          ∙ ap (λ (x : g.H.Host.State). filled_along m unknown x rest (set_result now target (m.answer state s.0.op)))
          (c.in_ok-answer.ensures.after s.0 at)
          ∙ step_left marks lines (length claims) accepts c.args.pairs.now.submits.items c.requires.paired c.requires.once
          (length-map claims line_of) c.requires.whole i s.0 s.1 m state places k place now fills
          ∙ c.loop-place.invariant.left;
      fills = ap (map (erased unknown)) filled
          ∙ step_fills marks lines (length claims) accepts c.args.pairs.now.submits.items c.requires.paired c.requires.once
          (length-map claims line_of) c.requires.whole i s.0 s.1 m state places k place now fills (m.answer state s.0.op);
    }
