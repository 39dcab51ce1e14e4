use Rattle.std.proofs.Common.{◌∙◌}
use Rattle.service_load.proofs.LoadLemmas.{follows_then}
use Rattle.service_load.proofs.loading.Loading.serve_all.Goals as goal

pub loop-core-preserved : goal.loop-core-preserved
loop-core-preserved g c = record {
  follows = follows_then _ _ _ c.loop-core.invariant.follows c.in_default.ensures.keeps;
  lanes = c.in_default.ensures.lanes ∙ c.loop-core.invariant.lanes;
}
