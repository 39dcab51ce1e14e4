use Rattle.std.proofs.Common.{◌≡◌, ◌-◌}
use Rattle.resp.specs.Reading.{read_bulks}
use Rattle.resp.proofs.Collected.{behind}
use Rattle.resp.proofs.requests.collect.Given as goal

abbrev pub invariant-loop : goal.invariant-loop
invariant-loop l = behind l.found.items (read_bulks (l.count - l.counter) l.rest) ≡ read_bulks l.count l.bytes
