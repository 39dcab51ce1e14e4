use Rattle.std.proofs.Common.{◌-◌, ◌+◌, List, ℕ, sym, ap, ◌∙◌}
use Rattle.resp.specs.Reading.{read_bulks}
use Rattle.resp.proofs.Collected.{behind, collects_on, collect_stops, collect_ends}
use Rattle.resp.proofs.requests.collect.Goals as goal

pub loop-preserved : goal.loop-preserved
loop-preserved c =
    ap (λ (l : List (List ℕ)). behind l (read_bulks (c.args.count - (c.loop.counter + 1)) c.in-Ok.after.now)) c.in_ok-keep-in-Ok.ensures
    ∙ collects_on _ _ _ _ _ _ _ c.loop-test.true (sym c.in-Ok.ensures) c.loop.invariant

pub returns-in-Err : goal.returns-in-Err
returns-in-Err c = collect_stops _ _ _ _ _ _ c.loop-test.true (sym c.in-Err.ensures) c.loop.invariant

pub returns : goal.returns
returns c = collect_ends _ _ _ _ _ c.loop-test.false c.loop.invariant
