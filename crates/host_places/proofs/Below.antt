-- One actor more of a kind.
use Rattle.std.proofs.Common.{◌≡◌, ℕ, ◌+◌, List, ◌++◌, ap, ◌∙◌, sym, append_assoc}
use Rattle.std.proofs.Math.Numerals.{add-one}
use Rattle.nop_types.specs.declared.output.Actor.{Actor}
use Rattle.host_list.specs.declared.list.HostList.{HostList}
use Rattle.udp_ports.specs.declared.places.Place.{Place}
use Rattle.host_places.specs.Tables.{place_of, places_below}

pub one_more : (base : ℕ) (list : HostList) (kind : ℕ → Actor) (n : ℕ) (before now after : List Place)
    → now ≡ before ++ places_below base list kind n → after ≡ now ++ place_of base list (kind n)
    → after ≡ before ++ places_below base list kind (n + 1)
one_more base list kind n before now after e is =
    is ∙ ap (λ (xs : List Place). xs ++ place_of base list (kind n)) e
    ∙ append_assoc before (places_below base list kind n) (place_of base list (kind n))
    ∙ ap (λ (m : ℕ). before ++ places_below base list kind m) (sym (add-one n))
