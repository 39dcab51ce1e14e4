use Rattle.std.proofs.Common.{◌≡◌, ◌-◌, ◌+◌, ℕ, ap, ◌∙◌, arith}
use Rattle.std.proofs.lemmas.Result.{err_from_is_err_and}
use Rattle.peer_codec.specs.Logs.{least_before, least_id, kept_at}
use Rattle.peer_codec.proofs.Loop.{kept_go_on, kept_end, kept_done}
use Rattle.peer_codec.proofs.logs.split_kept.Goals as goal

pub returns-in_err-answered : goal.returns-in_err-answered
returns-in_err-answered c =
    let p = err_from_is_err_and c.from_residual-in_err-answered.result c.from_residual-in_err-answered.ensures.1 in
    let left = c.loop.invariant.left in
    let below = c.loop-test.true in
    let after : c.loop.left - 1 ≡ c.args.count - (c.loop.counter + 1) = omega (arith, left, below) in
    let low : c.least_before-from.result ≡ least_before (c.args.count - (c.loop.counter + 1)) c.loop.least c.args.greatest =
    c.least_before-from.ensures ∙ ap (λ (n : ℕ). least_before n c.loop.least c.args.greatest) after in
    let fails = kept_end c.in_err-answered.field-0.0 c.loop.kept.items c.args.count c.loop.counter c.loop.least c.args.greatest
    c.least_before-from.result c.loop.rest.now (kept_at c.args.count (least_id c.args.greatest) c.args.greatest c.args.bytes.now)
    below low c.in_err-answered.ensures c.loop.invariant.so_far in
    rw (p.1, p.2) fails

pub loop-preserved : goal.loop-preserved
loop-preserved c =
    let left = c.loop.invariant.left in
    let below = c.loop-test.true in
    let after : c.loop.left - 1 ≡ c.args.count - (c.loop.counter + 1) = omega (arith, left, below) in
    let low : c.least_before-from.result ≡ least_before (c.args.count - (c.loop.counter + 1)) c.loop.least c.args.greatest =
    c.least_before-from.ensures ∙ ap (λ (n : ℕ). least_before n c.loop.least c.args.greatest) after in
    record {
      so_far =
          rw c.in_ok-push.ensures.items (kept_go_on c.loop.kept.items c.args.count c.loop.counter c.loop.least c.args.greatest
          c.least_before-from.result c.from-least.result c.loop.rest.now c.in_ok-answered.answered c.in_ok-answered.after.now
          (kept_at c.args.count (least_id c.args.greatest) c.args.greatest c.args.bytes.now) below low c.in_ok-answered.ensures
          c.from-least.ensures c.loop.invariant.so_far);
      left = after;
    }

pub returns : goal.returns
returns c =
    kept_done c.loop.kept.items c.args.count c.loop.counter c.loop.least c.args.greatest c.loop.rest.now
    (kept_at c.args.count (least_id c.args.greatest) c.args.greatest c.args.bytes.now) c.loop-test.false c.loop.invariant.so_far
