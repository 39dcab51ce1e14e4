-- The address that a word spells.
use Rattle.std.specs.Prelude.{ℕ, List, ◌∷◌, ◌++◌, Bool, false, not, nat_eq, ◌==◌, ◌&&◌, if◌then◌else◌, Option, Some, None}
use Rattle.std.specs.List.{list_all}
use Rattle.std.specs.Cmp.Lexicographic.{pointwise}
use Rattle.std.specs.Int.{w16, w32, to_be_bytes}
use Rattle.std.specs.Net.Addr.{ipv6_octets}
use Rattle.std.specs.Net.Reader.{read_socket_v4, read_socket_v6, whole_value}
use Rattle.std.specs.declared.net.socket_addr.SocketAddr.{SocketAddr}
use Rattle.std.specs.declared.net.socket_addr.SocketAddr.TheVariants.{V4, V6}

abbrev pub v4_address : Option (List ℕ × ℕ) → Option SocketAddr
v4_address None = None
v4_address (Some p) = Some (V4 (record { ip = record { octets = p.0 }; port = p.1 }))

abbrev pub v6_address : Option (List ℕ × ℕ × ℕ × ℕ) → Option SocketAddr
v6_address None = None
v6_address (Some p) = Some (V6 (record { ip = record { segments = p.0 }; port = p.1; flowinfo = p.2; scope_id = p.3 }))

abbrev pub or_else : {A : Type 0} → Option A → Option A → Option A
or_else None other = other
or_else (Some x) other = Some x

-- `IPV4:PORT` or `[IPV6]:PORT`, as the library reads them: law `addresses_are_of_the_grammar`
unfoldable pub spelled_address : List ℕ → Option SocketAddr
spelled_address word = or_else (v4_address (whole_value (read_socket_v4 word))) (v6_address (whole_value (read_socket_v6 word)))

abbrev pub port_of : SocketAddr → ℕ
port_of (V4 a) = a.port
port_of (V6 a) = a.port

-- octets or segments
abbrev pub ip_of : SocketAddr → List ℕ
ip_of (V4 a) = a.ip.octets
ip_of (V6 a) = a.ip.segments

-- nothing is sent to port 0, nor comes from the address that stands for all of a machine's own
abbrev pub is_of_a_host : SocketAddr → Bool
is_of_a_host a = not (port_of a == 0) && not (list_all (λ n. n == 0) (ip_of a))

abbrev pub of_a_host : Option SocketAddr → Option SocketAddr
of_a_host None = None
of_a_host (Some a) = if is_of_a_host a then Some a else None

abbrev pub address_of : List ℕ → Option SocketAddr
address_of word = of_a_host (spelled_address word)

abbrev pub same_address : SocketAddr → SocketAddr → Bool
same_address (V4 a) (V4 b) = pointwise nat_eq a.ip.octets b.ip.octets && (a.port == b.port)
same_address (V6 a) (V6 b) =
    pointwise nat_eq a.ip.segments b.ip.segments && ((a.port == b.port) && ((a.flowinfo == b.flowinfo) && (a.scope_id == b.scope_id)))
same_address _ _ = false

-- the version of IP, the address, the port, and of IPv6 the scope, high bytes first
abbrev pub address_bytes : SocketAddr → List ℕ
address_bytes (V4 a) = 4 ∷ (a.ip.octets ++ to_be_bytes w16 a.port)
address_bytes (V6 a) = 6 ∷ (ipv6_octets a.ip ++ to_be_bytes w16 a.port ++ to_be_bytes w32 a.scope_id)
