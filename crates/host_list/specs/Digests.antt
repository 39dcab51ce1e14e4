-- A number of 64 bits that tells one list from another.
use Rattle.std.specs.Prelude.{ℕ, ◌+◌, ◌*◌, ◌%◌, ◌^◌, List, [], ◌∷◌, ◌++◌, Option, Some, None}
use Rattle.std.specs.declared.net.socket_addr.SocketAddr.{SocketAddr}
use Rattle.std.specs.Int.{w64, to_be_bytes}
use Rattle.std.specs.Int.Bits.{bit_xor}
use Rattle.host_list.specs.declared.digest.TheConstants.{FNV_OFFSET, FNV_PRIME}
use Rattle.host_list.specs.declared.list.HostList.{HostList}
use Rattle.host_list.specs.Addresses.{address_bytes}
use Rattle.host_list.specs.Places.{Addresses}

-- FNV-1a: each byte by exclusive or, then times the prime
abbrev pub digest_on : ℕ → List ℕ → ℕ
digest_on h [] = h
digest_on h (b ∷ bs) = digest_on (bit_xor h b * FNV_PRIME % 2 ^ 64) bs

-- a place that has an address, and the address
abbrev pub place_bytes : ℕ → Option SocketAddr → List ℕ
place_bytes place None = []
place_bytes place (Some a) = place ∷ address_bytes a

abbrev pub hosts_bytes : ℕ → Addresses → List ℕ
hosts_bytes place [] = []
hosts_bytes place (x ∷ xs) = place_bytes place x ++ hosts_bytes (place + 1) xs

-- the cluster number, and the actors in the order of their places, whatever the order of the lines
abbrev pub list_bytes : HostList → List ℕ
list_bytes l = to_be_bytes w64 l.cluster ++ hosts_bytes 0 l.addresses

unfoldable pub digest_of : HostList → ℕ
digest_of l = digest_on FNV_OFFSET (list_bytes l)
