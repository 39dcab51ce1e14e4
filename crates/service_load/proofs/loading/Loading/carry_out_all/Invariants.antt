use Rattle.std.proofs.Common.{◌≡◌, length}
use Rattle.service_load.proofs.loading.Loading.carry_out_all.Given as goal

abbrev pub invariant-loop-one : goal.invariant-loop-one
invariant-loop-one g l = record {
  load : l.self.load ≡ l.fn.self.load;
  lanes : length l.self.lanes.items ≡ length l.fn.self.lanes.items;
}
