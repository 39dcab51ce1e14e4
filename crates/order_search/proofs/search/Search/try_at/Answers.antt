use Rattle.std.proofs.Common.{◌≡◌, ◌∙◌, ℕ, ◌<◌, List, Some, length, refl, ap, sym, arith, rules}
use Rattle.std.specs.Prelude.{remove}
use Rattle.std.proofs.lemmas.Option.{slice_get_read}
use Rattle.pairs.proofs.SaidLemmas.{length_said}
use Rattle.order_search.proofs.CountLemmas.{counts_place, falls_place}
use Rattle.order_search.proofs.Edits.{one_less}
use Rattle.order_search.proofs.SearchLemmas.{waits_within, waits_submits, search_places, disagrees}
use Rattle.order_search.proofs.StepLemmas.{fit_push, fit_still}
use Rattle.order_search.proofs.search.Search.try_at.Goals as goal
use Rattle.order_search.specs.Agreeing.{AllAccept}
use Rattle.order_search.specs.declared.step.Step.{Step}
use Rattle.pairs.specs.Said.{said_by}
use Rattle.transcript_reader.specs.Claims.{line_of}
use Rattle.transcript_reader.specs.declared.claim.Claim.{Claim}

pub claim_at-requires : goal.claim_at-requires
claim_at-requires g c =
    let old = c.args.self.now in
    let claims = c.args.claims.now in
    let e = length_said claims in
    let stands = slice_get_read old.waiting.items _ c.args.at c.index-submit.result.now refl c.requires.waits c.index-submit.ensures in
    let l = waits_within g.H.Host.meaning g.H.Host.undo_of (said_by claims) (g.H.Host.state old.host) old.line old.next old.steps.items
    old.waiting.items old.placed.items c.requires.search.searching c.args.at c.index-submit.result.now stands in
    omega (arith, l, e)

pub agrees-requires-clause-line : goal.agrees-requires-clause-line
agrees-requires-clause-line g c = c.claim_at.ensures ∙ ap (λ (t : Claim). Some (line_of t)) c.in-Submitted.is

pub place-requires-clause-marked : goal.place-requires-clause-marked
place-requires-clause-marked g c =
    let old = c.args.self.now in
    let claims = c.args.claims.now in
    let stands = slice_get_read old.waiting.items _ c.args.at c.index-submit.result.now refl c.requires.waits c.index-submit.ensures in
    let l = waits_within g.H.Host.meaning g.H.Host.undo_of (said_by claims) (g.H.Host.state old.host) old.line old.next old.steps.items
    old.waiting.items old.placed.items c.requires.search.searching c.args.at c.index-submit.result.now stands in
    omega (arith, l, c.requires.search.searching.are_marked.count)

pub unreachable-requires : goal.unreachable-requires
unreachable-requires g c =
    let old = c.args.self.now in
    let stands = slice_get_read old.waiting.items _ c.args.at c.index-submit.result.now refl c.requires.waits c.index-submit.ensures in
    let r = waits_submits g.H.Host.meaning g.H.Host.undo_of (said_by c.args.claims.now) (g.H.Host.state old.host) old.line old.next
    old.steps.items old.waiting.items old.placed.items c.requires.search.searching c.args.at c.index-submit.result.now stands in
    let at = c.claim_at.ensures ∙ ap (λ (t : Claim). Some (line_of t)) c.in_default.is in
    absurd (let x = sym at ∙ r.1 in cc)

pub returns-then-agrees-clause-search : goal.returns-then-agrees-clause-search
returns-then-agrees-clause-search g c =
    let old = c.args.self.now in
    let was = c.requires.search in
    let m = g.H.Host.meaning in
    let fits = g.H.Host.fits in
    let lines = said_by c.args.claims.now in
    let request = c.in-Submitted.request in
    let submit = c.index-submit.result.now in
    let s0 : g.H.Host.State = g.H.Host.state old.host in
    let stands = slice_get_read old.waiting.items _ c.args.at submit refl c.requires.waits c.index-submit.ensures in
    let at = c.claim_at.ensures ∙ ap (λ (t : Claim). Some (line_of t)) c.in-Submitted.is in
    let after : g.H.Host.state c.apply.new.self ≡ m.after s0 request.op =
    c.in_ok-answer.ensures.after ∙ ap (λ (t : List ℕ). m.after s0 t) c.as_slice.ensures.bytes in
    let undo_is : c.in_ok-answer.undo ≡ g.H.Host.undo_of s0 request.op =
    c.in_ok-answer.ensures.undo ∙ ap (λ (t : List ℕ). g.H.Host.undo_of s0 t) c.as_slice.ensures.bytes in
    let said : c.as_slice-2.result.now ≡ m.answer s0 request.op = first_of (search rules, cc) in
    let agrees : AllAccept lines request.client request.id (m.answer s0 request.op) = λ a h. sym said ∙ c.if-agrees.ensures a h in
    let e = length_said c.args.claims.now in
    let within : old.line < length lines = omega (arith, c.requires.within, e) in
    let step : Step g.row.H-Undo.Denot = record {
      submit = submit;
      line = old.line;
      at = c.args.at;
      others = length (remove old.waiting.items c.args.at);
      tried = c.args.tried;
      undo = c.in_ok-answer.undo;
    } in
    let placed = c.in_ok-place.ensures in
    record {
      searching =
          rw (placed.next, placed.waiting, placed.placed, placed.steps, c.place.ensures.host, c.place.ensures.line)
          (search_places m g.H.Host.undo_of lines s0 old.line old.next old.steps.items old.waiting.items old.placed.items
          was.searching c.requires.input.submitted c.args.at submit request stands at within c.args.tried c.requires.settles agrees
          (g.H.Host.state c.apply.new.self) after c.in_ok-answer.undo undo_is);
      fits =
          rw (placed.steps, c.place.ensures.host)
          (fit_push (fits c.apply.new.self) old.steps.items step
          (fit_still (fits old.host) (fits c.apply.new.self) c.in_ok-answer.ensures.still_fits old.steps.items was.fits)
          c.in_ok-answer.ensures.fits);
      counted =
          rw (placed.next, placed.waiting, placed.steps, c.place.ensures.line)
          (counts_place lines old.line old.next old.steps.items old.waiting.items was.counted step c.args.at refl refl
          c.requires.stuck submit stands);
      failed = rw c.place.ensures.failed was.failed;
    }

pub returns-then-agrees-clause-places : goal.returns-then-agrees-clause-places
returns-then-agrees-clause-places g c _ =
    let old = c.args.self.now in
    let stands = slice_get_read old.waiting.items _ c.args.at c.index-submit.result.now refl c.requires.waits c.index-submit.ensures in
    let step : Step g.row.H-Undo.Denot = record {
      submit = c.index-submit.result.now;
      line = old.line;
      at = c.args.at;
      others = length (remove old.waiting.items c.args.at);
      tried = c.args.tried;
      undo = c.in_ok-answer.undo;
    } in
    let placed = c.in_ok-place.ensures in
    record {
      less =
          let l = one_less old.waiting.items c.args.at c.index-submit.result.now stands in
          let n = ap length placed.waiting in
          omega (arith, l, n);
      begun = placed.next;
      falls =
          rw (placed.next, placed.steps, c.place.ensures.line)
          (falls_place (said_by c.args.claims.now) old.line old.next old.steps.items old.waiting.items c.requires.search.counted step
          c.args.at refl refl c.requires.further (omega (arith, c.requires.next, c.requires.waits)));
    }

pub returns-clause-search : goal.returns-clause-search
returns-clause-search g c =
    let old = c.args.self.now in
    let was = c.requires.search in
    let fits = g.H.Host.fits in
    let undone : g.H.Host.state c.undo.new.self ≡ g.H.Host.state old.host = search rules in
    record {
      searching = rw undone was.searching;
      fits =
          fit_still (fits c.apply.new.self) (fits c.undo.new.self) c.undo.ensures.still_fits old.steps.items
          (fit_still (fits old.host) (fits c.apply.new.self) c.in_ok-answer.ensures.still_fits old.steps.items was.fits);
      counted = was.counted;
      failed = was.failed;
    }

pub returns-clause-none : goal.returns-clause-none
returns-clause-none g c _ = record { waiting = refl; next = refl; steps = refl }

pub returns-clause-refused : goal.returns-clause-refused
returns-clause-refused g c _ =
    let old = c.args.self.now in
    let m = g.H.Host.meaning in
    let lines = said_by c.args.claims.now in
    let op : List ℕ = c.in-Submitted.request.op in
    let submit = c.index-submit.result.now in
    let s0 : g.H.Host.State = g.H.Host.state old.host in
    let stands = slice_get_read old.waiting.items _ c.args.at submit refl c.requires.waits c.index-submit.ensures in
    let at = c.claim_at.ensures ∙ ap (λ (t : Claim). Some (line_of t)) c.in-Submitted.is in
    let said : c.as_slice-2.result.now ≡ m.answer s0 op = first_of (search rules, cc) in
    disagrees m g.H.Host.undo_of lines s0 old.line old.next old.steps.items old.waiting.items old.placed.items c.requires.search.searching
    c.requires.input.submitted c.args.at submit c.in-Submitted.request stands at (λ every. c.if-agrees.ensures (λ a h. said ∙ every a h))
