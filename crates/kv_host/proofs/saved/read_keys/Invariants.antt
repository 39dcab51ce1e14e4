use Rattle.std.proofs.Common.{◌≡◌, ◌-◌, []}
use Rattle.std.specs.FinMap as finite
use Rattle.kv_host.specs.Places.{places, values_of}
use Rattle.kv_host.specs.Saved.{with_keys}
use Rattle.kv_host.proofs.saved.read_keys.Given as goal

abbrev pub invariant-loop : goal.invariant-loop
invariant-loop l = with_keys (l.count - l.counter) (values_of (places l.table)) l.last l.rest ≡ with_keys l.count finite.empty [] l.bytes
