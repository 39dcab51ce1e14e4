-- The places of actors: where a datagram to a port goes, and from whom one came.
use Rattle.std.specs.Prelude.{◌≡◌, ℕ, List, [], ◌∷◌, Bool, true, false, not, nat_eq, ◌==◌, ◌&&◌, ◌||◌, find, Option, Some, None, option_map}
use Rattle.std.specs.Result.{is_ok}
use Rattle.std.specs.Cmp.Lexicographic.{pointwise}
use Rattle.std.specs.declared.net.socket_addr.SocketAddr.{SocketAddr}
use Rattle.std.specs.declared.net.socket_addr.SocketAddr.TheVariants.{V4, V6}
use Rattle.admission.specs.Greetings.{reading}
use Rattle.admission.specs.Sources.{comes_from}
use Rattle.udp_ports.specs.declared.places.Place.{Place}
use Rattle.udp_ports.specs.declared.places.Source.{Source}
use Rattle.udp_ports.specs.declared.places.Source.TheVariants as sources

abbrev pub loopback : ℕ → SocketAddr
loopback port = V4 (record { ip = record { octets = 127 ∷ 0 ∷ 0 ∷ 1 ∷ [] }; port = port })

abbrev pub same_address : SocketAddr → SocketAddr → Bool
same_address (V4 a) (V4 b) = pointwise nat_eq a.ip.octets b.ip.octets && (a.port == b.port)
same_address (V6 a) (V6 b) =
    pointwise nat_eq a.ip.segments b.ip.segments && ((a.port == b.port) && ((a.flowinfo == b.flowinfo) && (a.scope_id == b.scope_id)))
same_address _ _ = false

abbrev pub port_of : SocketAddr → ℕ
port_of (V4 a) = a.port
port_of (V6 a) = a.port

-- the first place with this port
abbrev pub at_port : ℕ → List Place → Option Place
at_port port places = find (λ p. p.port == port) places

-- the first place with this address
abbrev pub at_address : SocketAddr → List Place → Option Place
at_address from places = find (λ p. same_address p.address from) places

-- where a datagram to a port goes: with no table of places to the loopback address
abbrev pub address_of : Option (List Place) → ℕ → Option SocketAddr
address_of None port = Some (loopback port)
address_of (Some places) port = option_map (λ p. p.address) (at_port port places)

abbrev pub known : Option Place → Source
known None = sources.Unknown
known (Some p) = sources.Known p

-- from whom a datagram came: with no table of places from a port, of any address
abbrev pub source_of : Option (List Place) → SocketAddr → Source
source_of None from = sources.Port (port_of from)
source_of (Some places) from = known (at_address from places)

-- the port by which the sender is known; None of one that is not
abbrev pub sender : Source → Option ℕ
sender (sources.Port port) = Some port
sender (sources.Known p) = Some p.port
sender sources.Unknown = None

-- whether the sender may send these bytes: with no table of places anyone may
abbrev pub may_send : Source → List ℕ → Bool
may_send (sources.Port port) bytes = true
may_send (sources.Known p) bytes = comes_from bytes p.actor
may_send sources.Unknown bytes = false

-- someone whose place is known greets
abbrev pub greets : Source → List ℕ → Bool
greets (sources.Known p) bytes = is_ok (reading bytes)
greets source bytes = false

-- what a link hears: what the sender may send; and one without a guard, which asks nobody itself, greetings too
abbrev pub is_heard : Bool → Source → List ℕ → Bool
is_heard guarded source bytes = may_send source bytes || (not guarded && greets source bytes)

-- the bytes came from an address from which such a link hears them
abbrev pub IsHeard : Bool → Option (List Place) → List ℕ → Type 0
IsHeard guarded places bytes = (from : SocketAddr) × (is_heard guarded (source_of places from) bytes ≡ true)
