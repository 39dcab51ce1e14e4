use Rattle.std.proofs.Common.{sym}
use Rattle.resp.proofs.Collected.{skips_on, skip_stops, skip_ends}
use Rattle.resp.proofs.requests.skip.Goals as goal

pub loop-preserved : goal.loop-preserved
loop-preserved c = skips_on _ _ _ _ _ _ c.loop-test.true (sym c.in-Ok.ensures) c.loop.invariant

pub returns-in-Err : goal.returns-in-Err
returns-in-Err c = skip_stops _ _ _ _ _ c.loop-test.true (sym c.in-Err.ensures) c.loop.invariant

pub returns : goal.returns
returns c = skip_ends _ _ _ _ c.loop-test.false c.loop.invariant
