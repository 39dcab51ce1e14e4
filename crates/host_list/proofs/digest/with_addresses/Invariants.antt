use Rattle.std.proofs.Common.{◌≡◌, drop}
use Rattle.host_list.specs.Digests.{digest_on, hosts_bytes}
use Rattle.host_list.proofs.digest.with_addresses.Given as goal

abbrev pub invariant-loop-address : goal.invariant-loop-address
invariant-loop-address l =
    (digest_on l.mixed (hosts_bytes l.place (drop l.address-index l.addresses)) ≡ digest_on l.digest (hosts_bytes 0 l.addresses))
    × (l.place ≡ l.address-index)
