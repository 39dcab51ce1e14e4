use Rattle.std.proofs.Common.{◌≡◌, length}
use Rattle.service_load.specs.Loads.{Follows}
use Rattle.service_load.proofs.loading.Loading.serve_all.Given as goal

abbrev pub invariant-loop-core : goal.invariant-loop-core
invariant-loop-core g l = record {
  follows : Follows l.fn.self.load l.self.load;
  lanes : length l.self.lanes.items ≡ length l.fn.self.lanes.items;
}
