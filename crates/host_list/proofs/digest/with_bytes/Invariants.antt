use Rattle.std.proofs.Common.{◌≡◌, drop}
use Rattle.host_list.specs.Digests.{digest_on}
use Rattle.host_list.proofs.digest.with_bytes.Given as goal

abbrev pub invariant-loop-byte : goal.invariant-loop-byte
invariant-loop-byte l = digest_on l.mixed (drop l.byte-index l.bytes) ≡ digest_on l.digest l.bytes
