use Rattle.std.proofs.Common.{◌≡◌, length}
use Rattle.service_load.specs.Loads.{Follows}
use Rattle.service_load.proofs.loading.Loading.take_ops.Given as goal

abbrev pub invariant-loop : goal.invariant-loop
invariant-loop g l = record {
  follows : Follows l.fn.self.load l.self.load;
  lanes : length l.self.lanes.items ≡ length l.fn.self.lanes.items;
}
