use Rattle.std.proofs.Common.{◌≡◌, ◌-◌, []}
use Rattle.lock_host.specs.Saved.{with_places}
use Rattle.lock_host.proofs.saved.read_places.Given as goal

abbrev pub invariant-loop : goal.invariant-loop
invariant-loop l = with_places (l.count - l.counter) l.last l.places.items l.rest ≡ with_places l.count l.last [] l.bytes
