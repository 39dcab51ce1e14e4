-- The words that spell an address are those of the library's grammar.
use Rattle.std.proofs.Common.{◌≡◌, ℕ, List, [], ◌∷◌, length, Option, Some, None, refl, sym, ap, ◌∙◌, subst, append-nil, ne_eqb, arith}
use Rattle.std.specs.declared.net.socket_addr.SocketAddrV4.{SocketAddrV4}
use Rattle.std.specs.declared.net.socket_addr.SocketAddrV6.{SocketAddrV6}
use Rattle.std.specs.declared.net.socket_addr.SocketAddr.{SocketAddr}
use Rattle.std.specs.declared.net.socket_addr.SocketAddr.TheVariants.{V4, V6}
use Rattle.std.specs.Net.Grammar.{IsSocketText, IsSocketV4Text, IsSocketV6Text}
use Rattle.std.specs.Net.Reader.{Read, read_socket_v4, read_socket_v6, whole_value}
use Rattle.std.proofs.NetLemmas.Sockets.{read_socket_v4_complete, read_socket_v4_sound, read_socket_v6_complete, read_socket_v6_sound}
use Rattle.std.proofs.NetLemmas.Sockets.{IsSocketV4Text-not_v6}
use Rattle.host_list.specs.Addresses.{or_else, spelled_address, v4_address, v6_address}

-- a value that was read with nothing behind it
whole_is : {A : Type 0} (r : Read A) (x : A) → whole_value r ≡ Some x → r ≡ Some (x, [])
whole_is None x e = absurd cc
whole_is (Some (y, [])) x e = let same : y ≡ x = cc in ap (λ z. Some (z, [])) same
whole_is (Some (y, c ∷ rest)) x e =
    absurd (let none : whole_value (Some (y, c ∷ rest)) ≡ None = rw (ne_eqb (length (c ∷ rest)) 0 (omega arith)) refl in cc)

abbrev v4 : List ℕ × ℕ → SocketAddrV4
v4 p = record { ip = record { octets = p.0 }; port = p.1 }

abbrev v6 : List ℕ × ℕ × ℕ × ℕ → SocketAddrV6
v6 p = record { ip = record { segments = p.0 }; port = p.1; flowinfo = p.2; scope_id = p.3 }

is_v4 : (word : List ℕ) (p : List ℕ × ℕ) → whole_value (read_socket_v4 word) ≡ Some p → IsSocketV4Text word (v4 p)
is_v4 word p e =
    let s = read_socket_v4_sound word [] (v4 p) (whole_is (read_socket_v4 word) p e) in
    subst (λ (t : List ℕ). IsSocketV4Text t (v4 p)) (sym (s.1 ∙ append-nil s.0)) s.2

is_v6 : (word : List ℕ) (p : List ℕ × ℕ × ℕ × ℕ) → whole_value (read_socket_v6 word) ≡ Some p → IsSocketV6Text word (v6 p)
is_v6 word p e =
    let s = read_socket_v6_sound word [] (v6 p) (whole_is (read_socket_v6 word) p e) in
    subst (λ (t : List ℕ). IsSocketV6Text t (v6 p)) (sym (s.1 ∙ append-nil s.0)) s.2

no_v4 : (o : Option (List ℕ × ℕ)) (word : List ℕ) (a : SocketAddrV6) → whole_value (read_socket_v4 word) ≡ o → IsSocketV6Text word a
    → o ≡ None
no_v4 None word a e h = refl
no_v4 (Some p) word a e h = absurd (IsSocketV4Text-not_v6 word (v4 p) a (is_v4 word p e) h)

pub text_is_read : (word : List ℕ) (a : SocketAddr) → IsSocketText word a → spelled_address word ≡ Some a
unfolding spelled_address
text_is_read word (V4 a) h =
    ap (λ (r : Read (List ℕ × ℕ)). or_else (v4_address (whole_value r)) (v6_address (whole_value (read_socket_v6 word))))
    (read_socket_v4_complete word a h)
text_is_read word (V6 a) h =
    ap (λ (o : Option (List ℕ × ℕ)). or_else (v4_address o) (v6_address (whole_value (read_socket_v6 word))))
    (no_v4 (whole_value (read_socket_v4 word)) word a refl h)
    ∙ ap (λ (r : Read (List ℕ × ℕ × ℕ × ℕ)). v6_address (whole_value r)) (read_socket_v6_complete word a h)

by_both : (o : Option (List ℕ × ℕ)) (q : Option (List ℕ × ℕ × ℕ × ℕ)) (word : List ℕ) (a : SocketAddr)
    → whole_value (read_socket_v4 word) ≡ o → whole_value (read_socket_v6 word) ≡ q
    → or_else (v4_address o) (v6_address q) ≡ Some a → IsSocketText word a
by_both (Some p) q word a e f g = let same : V4 (v4 p) ≡ a = cc in subst (IsSocketText word) same (is_v4 word p e)
by_both None (Some p) word a e f g = let same : V6 (v6 p) ≡ a = cc in subst (IsSocketText word) same (is_v6 word p f)
by_both None None word a e f g = absurd cc

pub read_is_text : (word : List ℕ) (a : SocketAddr) → spelled_address word ≡ Some a → IsSocketText word a
unfolding spelled_address
read_is_text word a e = by_both (whole_value (read_socket_v4 word)) (whole_value (read_socket_v6 word)) word a refl refl e

nothing_by : (o : Option SocketAddr) (word : List ℕ) → spelled_address word ≡ o → ((a : SocketAddr) → IsSocketText word a → ⊥)
    → None ≡ spelled_address word
nothing_by None word e h = sym e
nothing_by (Some a) word e h = absurd (h a (read_is_text word a e))

-- where the word spells none
pub nothing_is_read : (word : List ℕ) → ((a : SocketAddr) → IsSocketText word a → ⊥) → None ≡ spelled_address word
nothing_is_read word h = nothing_by (spelled_address word) word refl h
