use Rattle.std.proofs.Common.{◌≡◌, ℕ, ◌∷◌, ◌++◌, sym, ap, ◌∙◌}
use Rattle.std.specs.Int.{w16, w32, to_be_bytes}
use Rattle.std.specs.Net.Addr.{ipv6_octets}
use Rattle.std.specs.declared.net.ipv4_addr.Ipv4Addr.{Ipv4Addr}
use Rattle.std.specs.declared.net.ipv6_addr.Ipv6Addr.{Ipv6Addr}
use Rattle.std.specs.declared.net.socket_addr.SocketAddr.{SocketAddr}
use Rattle.host_list.specs.Addresses.{address_bytes}
use Rattle.host_list.specs.Digests.{digest_on}
use Rattle.host_list.proofs.Digesting.{three_parts, two_parts}
use Rattle.host_list.proofs.digest.with_address.Goals as goal

pub returns-in-V4 : goal.returns-in-V4
returns-in-V4 c =
    let octets : c.octets.result ≡ c.in-V4.a.ip.octets = c.octets.ensures ∙ ap (λ (x : Ipv4Addr). x.octets) c.ip.ensures in
    let port : c.to_be_bytes.result ≡ to_be_bytes w16 c.in-V4.a.port =
    c.to_be_bytes.ensures ∙ ap (λ (n : ℕ). to_be_bytes w16 n) c.port.ensures in
    c.with_bytes.ensures
    ∙ ap (λ (h : ℕ). digest_on h c.to_be_bytes.result) c.with_bytes-digest.ensures
    ∙ ap (λ (h : ℕ). digest_on (digest_on h c.octets.result) c.to_be_bytes.result) c.with_byte.ensures
    ∙ two_parts c.args.digest 4 c.octets.result c.to_be_bytes.result
    ∙ (λ i. digest_on c.args.digest (4 ∷ (octets i ++ port i)))
    ∙ ap (λ (a : SocketAddr). digest_on c.args.digest (address_bytes a)) (sym c.in-V4.is)

pub returns-in-V6 : goal.returns-in-V6
returns-in-V6 c =
    let octets : c.octets-in-V6.result ≡ ipv6_octets c.in-V6.a.ip =
    c.octets-in-V6.ensures ∙ ap (λ (x : Ipv6Addr). ipv6_octets x) c.ip-in-V6.ensures in
    let port : c.to_be_bytes-in-V6.result ≡ to_be_bytes w16 c.in-V6.a.port =
    c.to_be_bytes-in-V6.ensures ∙ ap (λ (n : ℕ). to_be_bytes w16 n) c.port-in-V6.ensures in
    let scope : c.to_be_bytes-in-V6-2.result ≡ to_be_bytes w32 c.in-V6.a.scope_id =
    c.to_be_bytes-in-V6-2.ensures ∙ ap (λ (n : ℕ). to_be_bytes w32 n) c.scope_id.ensures in
    c.with_bytes-in-V6.ensures
    ∙ ap (λ (h : ℕ). digest_on h c.to_be_bytes-in-V6-2.result) c.with_bytes-digest-in-V6-2.ensures
    ∙ ap
    (λ (h : ℕ). digest_on (digest_on h c.to_be_bytes-in-V6.result) c.to_be_bytes-in-V6-2.result)
    c.with_bytes-digest-in-V6.ensures
    ∙ ap
    (λ (h : ℕ). digest_on (digest_on (digest_on h c.octets-in-V6.result) c.to_be_bytes-in-V6.result) c.to_be_bytes-in-V6-2.result)
    c.with_byte-in-V6.ensures
    ∙ three_parts c.args.digest 6 c.octets-in-V6.result c.to_be_bytes-in-V6.result c.to_be_bytes-in-V6-2.result
    ∙ (λ i. digest_on c.args.digest (6 ∷ (octets i ++ port i ++ scope i)))
    ∙ ap (λ (a : SocketAddr). digest_on c.args.digest (address_bytes a)) (sym c.in-V6.is)
