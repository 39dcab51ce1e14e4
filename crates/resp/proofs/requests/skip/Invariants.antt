use Rattle.std.proofs.Common.{◌≡◌, ◌-◌}
use Rattle.resp.specs.Parsed.{rest_of}
use Rattle.resp.specs.Reading.{read_bulks}
use Rattle.resp.proofs.requests.skip.Given as goal

abbrev pub invariant-loop : goal.invariant-loop
invariant-loop l = rest_of (read_bulks (l.count - l.counter) l.rest) ≡ rest_of (read_bulks l.count l.bytes)
